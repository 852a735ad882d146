-- `lines::keep` meets its contract: the byte is stored where there is room.
-- Assumes nothing.
use Rattle.lines.proofs.Taking.{kept_stored, kept_full}
use Rattle.lines.proofs.keep.Goals as goal

pub returns-then-len-text : goal.returns-then-len-text
returns-then-len-text c = let a = c.args in kept_stored a.text.now a.len a.b c.if-len-text.true

pub returns : goal.returns
returns c = kept_full c.args.text.now c.args.len c.args.b c.if-len-text.false c.requires
