-- `frame::bad_previous` meets its contract. 'a previous vote at odds with its highest' (02, wish 1: 22).
-- Each return is decided by the tests that led to it.
-- Assumes nothing.
use mathlib.Core.Path.{refl}
use borrow.Author.Tests.{eq-eqb, ne_eqb, le-leb, lt-leb}
use Rattle.frame.specs.Refusal.{bad_previous}
use Rattle.frame.proofs.bad_previous.Goals as goal

pub returns-then-previous-ne-PRESENT : goal.returns-then-previous-ne-PRESENT
unfolding bad_previous
returns-then-previous-ne-PRESENT c = rw (ne_eqb c.args.previous.mark 1 c.if-previous-ne-PRESENT.true) refl

pub returns-then-highest-ne-PRESENT : goal.returns-then-highest-ne-PRESENT
unfolding bad_previous
returns-then-highest-ne-PRESENT c = rw (eq-eqb _ _ c.if-previous-ne-PRESENT.false, ne_eqb _ _ c.if-highest-ne-PRESENT.true) refl

pub returns-then-highest-previous : goal.returns-then-highest-previous
unfolding bad_previous
returns-then-highest-previous c =
    rw (
      eq-eqb _ _ c.if-previous-ne-PRESENT.false,
      eq-eqb _ _ c.if-highest-ne-PRESENT.false,
      le-leb _ _ c.if-highest-previous.true,
    ) refl

pub returns : goal.returns
unfolding bad_previous
returns c =
    rw (
      eq-eqb _ _ c.if-previous-ne-PRESENT.false,
      eq-eqb _ _ c.if-highest-ne-PRESENT.false,
      lt-leb _ _ c.if-highest-previous.false,
    ) refl
