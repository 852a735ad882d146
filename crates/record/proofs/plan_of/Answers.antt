-- `layout::plan_of` meets its contract: the block's head.
-- Assumes nothing.
use Rattle.record.specs.Layout.{decode_record}
use Rattle.record.proofs.plan_of.Goals as goal

pub returns : goal.returns
unfolding decode_record
returns c = c.number64.ensures
