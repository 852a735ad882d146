-- `frame::any_of` meets its contract. 'All three reports are tested' (02, wish 1).
-- Where two flags are false, the third is left.
-- Assumes nothing.
use mathlib.Core.Bool.{or-false}
use Rattle.frame.proofs.any_of.Goals as goal

pub returns : goal.returns
returns c = simp (c.if-a.false, c.if-b.false, or-false)
