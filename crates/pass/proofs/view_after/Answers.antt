-- `pass::view_after` meets its contract: only B enters a view.
-- Assumes nothing.
use Rattle.pass.proofs.view_after.Goals as goal

pub returns : goal.returns
returns c = c.requires.1 c.if-k-eq1.false
