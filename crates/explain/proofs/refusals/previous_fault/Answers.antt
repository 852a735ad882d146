-- `explain::refusals::previous_fault` meets its contract: the reader's test says whether there is a fault, the highest says which.
-- Assumes nothing.
use mathlib.Core.Path.{refl}
use Rattle.frame.proofs.Laws.{told}
use borrow.Author.Tests.{eq-eqb, ne_eqb, le-leb, lt-leb}
use Rattle.explain.specs.inside.Faults.{previous_fault}
use Rattle.explain.proofs.refusals.previous_fault.Goals as goal

pub returns-then-highest-ne-PRESENT : goal.returns-then-highest-ne-PRESENT
unfolding previous_fault
returns-then-highest-ne-PRESENT c = rw (told c.bad_previous.ensures c.if-bad_previous.true, ne_eqb _ _ c.if-highest-ne-PRESENT.true) refl

pub returns-then-highest-previous : goal.returns-then-highest-previous
unfolding previous_fault
returns-then-highest-previous c =
    rw (told c.bad_previous.ensures c.if-bad_previous.true, eq-eqb _ _ c.if-highest-ne-PRESENT.false, le-leb _ _ c.if-highest-previous.true) refl

pub returns-then-bad_previous : goal.returns-then-bad_previous
unfolding previous_fault
returns-then-bad_previous c =
    rw (told c.bad_previous.ensures c.if-bad_previous.true, eq-eqb _ _ c.if-highest-ne-PRESENT.false, lt-leb _ _ c.if-highest-previous.false) refl

pub returns : goal.returns
unfolding previous_fault
returns c = rw (told c.bad_previous.ensures c.if-bad_previous.false) refl
