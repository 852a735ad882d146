-- `safe::every_safe` meets its contract: the view is the first, or a quorum has no lock.
-- Assumes nothing.
use mathlib.Core.Path.{refl, sym, ◌∙◌}
use borrow.Author.Tests.{eq-eqb, ne_eqb}
use Rattle.safe.specs.inside.Searches.{every_safe}
use Rattle.safe.proofs.every_safe.Goals as goal

pub returns-then-v-eq0 : goal.returns-then-v-eq0
unfolding every_safe
returns-then-v-eq0 c = rw (eq-eqb _ _ c.if-v-eq0.true) refl

pub returns : goal.returns
unfolding every_safe
returns c = c.free.ensures ∙ sym (rw (ne_eqb _ _ c.if-v-eq0.false) refl)
