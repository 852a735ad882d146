-- `layout::view_of` meets its contract: the last four bytes of the shared part's head.
-- Assumes nothing.
use Rattle.record.specs.Layout.{decode_record}
use Rattle.record.proofs.view_of.Goals as goal

pub returns : goal.returns
unfolding decode_record
returns c = c.number32.ensures
