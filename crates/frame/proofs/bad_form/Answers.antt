-- `frame::bad_form` meets its contract. 'a bad mark or a nonzero byte in an absent report' (02, wish 1: 14).
-- Each return is decided by the tests that led to it.
-- Assumes nothing.
use mathlib.Core.Path.{refl}
use borrow.Author.Tests.{eq-eqb, ne_eqb}
use Rattle.frame.specs.Refusal.{bad_form}
use Rattle.frame.proofs.bad_form.Goals as goal

pub returns-then-r-eq-PRESENT : goal.returns-then-r-eq-PRESENT
unfolding bad_form
returns-then-r-eq-PRESENT c = rw (eq-eqb _ _ c.if-r-eq-PRESENT.true) refl

pub returns-then-r-ne0 : goal.returns-then-r-ne0
unfolding bad_form
returns-then-r-ne0 c = rw (ne_eqb _ _ c.if-r-eq-PRESENT.false, ne_eqb _ _ c.if-r-ne0.true) refl

pub returns-then-r-ne0-2 : goal.returns-then-r-ne0-2
unfolding bad_form
returns-then-r-ne0-2 c =
    rw (
      ne_eqb _ _ c.if-r-eq-PRESENT.false,
      eq-eqb _ _ c.if-r-ne0.false,
      ne_eqb _ _ c.if-r-ne0-2.true,
    ) refl

pub returns : goal.returns
unfolding bad_form
returns c =
    rw (
      ne_eqb _ _ c.if-r-eq-PRESENT.false,
      eq-eqb _ _ c.if-r-ne0.false,
      eq-eqb _ _ c.if-r-ne0-2.false,
    ) refl
