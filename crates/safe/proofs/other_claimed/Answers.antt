-- `safe::other_claimed` meets its contract.
-- The plan tried last did not pass; any other passes where it is not left out and is served.
-- Assumes nothing.
use mathlib.Core.Path.{sym, ◌∙◌}
use Rattle.safe.proofs.other_claimed.Goals as goal

pub returns-then-differs : goal.returns-then-differs
returns-then-differs c = simp (sym c.differs.ensures ∙ c.if-differs.true) c.served.ensures
