-- `explain::refusals::form_fault` meets its contract: the reader's test says whether there is a fault, the mark says which.
-- Assumes nothing.
use mathlib.Core.Path.{refl}
use Rattle.frame.proofs.Laws.{told}
use borrow.Author.Tests.{lt-ltb, le-ltb}
use Rattle.explain.specs.inside.Faults.{form_fault}
use Rattle.explain.proofs.refusals.form_fault.Goals as goal

pub returns-then-r-gt-PRESENT : goal.returns-then-r-gt-PRESENT
unfolding form_fault
returns-then-r-gt-PRESENT c = rw (told c.bad_form.ensures c.if-bad_form.true, lt-ltb _ _ c.if-r-gt-PRESENT.true) refl

pub returns-then-bad_form : goal.returns-then-bad_form
unfolding form_fault
returns-then-bad_form c = rw (told c.bad_form.ensures c.if-bad_form.true, le-ltb _ _ c.if-r-gt-PRESENT.false) refl

pub returns : goal.returns
unfolding form_fault
returns c = rw (told c.bad_form.ensures c.if-bad_form.false) refl
