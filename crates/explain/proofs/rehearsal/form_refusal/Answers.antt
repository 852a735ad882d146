-- `explain::rehearsal::form_refusal` meets its contract: each test decides its row of the table.
-- Assumes nothing.
use mathlib.Core.Path.{refl}
use borrow.Author.Tests.{eq-eqb, ne_eqb, lt-ltb, le-ltb}
use Rattle.frame.proofs.Laws.{told}
use Rattle.explain.proofs.rehearsal.form_refusal.Goals as goal

pub returns-then-s-eq0 : goal.returns-then-s-eq0
returns-then-s-eq0 c = rw (eq-eqb _ _ c.if-s-eq0.true) refl

pub returns-then-s-gt-TIMER : goal.returns-then-s-gt-TIMER
returns-then-s-gt-TIMER c = rw (ne_eqb _ _ c.if-s-eq0.false, lt-ltb 5 _ c.if-s-gt-TIMER.true) refl

pub returns-then-wrong_length : goal.returns-then-wrong_length
returns-then-wrong_length c =
    let wrong = told c.wrong_length.ensures c.if-wrong_length.true in
    rw (ne_eqb _ _ c.if-s-eq0.false, le-ltb 5 _ c.if-s-gt-TIMER.false, wrong) refl

pub returns : goal.returns
returns c =
    let right = told c.wrong_length.ensures c.if-wrong_length.false in
    rw (ne_eqb _ _ c.if-s-eq0.false, le-ltb 5 _ c.if-s-gt-TIMER.false, right) refl
