-- `safe::safe_one` meets its contract.
-- View u can serve p where the locks there allow it, and else only the next view.
-- Assumes nothing.
use mathlib.Core.Path.{sym, ◌∙◌}
use Rattle.safe.proofs.safe_one.Goals as goal

pub returns : goal.returns
returns c = simp (sym c.allowed.ensures ∙ c.if-allowed.false) c.served-2.ensures
