-- `row::above` meets its contract: each branch decides one part.
-- Assumes nothing.
use mathlib.Core.Path.{refl}
use borrow.Author.Tests.{eq-eqb, ne_eqb}
use Rattle.remnant.proofs.row.above.Goals as goal

pub returns-then-kind-eq-VIEW_CHANGE : goal.returns-then-kind-eq-VIEW_CHANGE
returns-then-kind-eq-VIEW_CHANGE c = rw (eq-eqb _ _ c.if-kind-eq-VIEW_CHANGE.true) refl

pub returns : goal.returns
returns c = rw (ne_eqb _ _ c.if-kind-eq-VIEW_CHANGE.false) refl
