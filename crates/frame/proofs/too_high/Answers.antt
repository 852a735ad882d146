-- `frame::too_high` meets its contract. 'a report whose view is not below the frame's' (02, wish 1: 21).
-- Each return is decided by the tests that led to it.
-- Assumes nothing.
use mathlib.Core.Path.{refl}
use borrow.Author.Tests.{eq-eqb, ne_eqb}
use Rattle.frame.specs.Refusal.{too_high}
use Rattle.frame.proofs.too_high.Goals as goal

pub returns-then-r-ne-PRESENT : goal.returns-then-r-ne-PRESENT
unfolding too_high
returns-then-r-ne-PRESENT c = rw (ne_eqb _ _ c.if-r-ne-PRESENT.true) refl

pub returns : goal.returns
unfolding too_high
returns c = rw (eq-eqb _ _ c.if-r-ne-PRESENT.false) refl
