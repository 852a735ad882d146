-- `stage::refusal` meets its contract: 'then an empty line or unknown kind gives 9 and a wrong length 10', and 23 'after these'. Each test decides its
-- row of the table.
-- Assumes nothing.
use mathlib.Core.Path.{refl}
use borrow.Author.Tests.{eq-eqb, ne_eqb, lt-ltb, le-ltb}
use Rattle.stage.proofs.refusal.Goals as goal

pub returns-then-bytes-eq0 : goal.returns-then-bytes-eq0
returns-then-bytes-eq0 c = rw (eq-eqb _ _ c.if-bytes-eq0.true) refl

pub returns-then-bytes-gt-TIMER : goal.returns-then-bytes-gt-TIMER
returns-then-bytes-gt-TIMER c = rw (ne_eqb _ _ c.if-bytes-eq0.false, lt-ltb 5 _ c.if-bytes-gt-TIMER.true) refl

pub returns-then-is_wrong : goal.returns-then-is_wrong
returns-then-is_wrong c =
    let n = c.misnamed-is_misnamed in
    rw (ne_eqb _ _ c.if-bytes-eq0.false, le-ltb 5 _ c.if-bytes-gt-TIMER.false, ← c.wrong_length-is_wrong.ensures, ← n.ensures, c.if-is_wrong.true) refl

pub returns-then-is_misnamed : goal.returns-then-is_misnamed
returns-then-is_misnamed c =
    let n = c.misnamed-is_misnamed in
    rw (ne_eqb _ _ c.if-bytes-eq0.false, le-ltb 5 _ c.if-bytes-gt-TIMER.false, ← c.wrong_length-is_wrong.ensures, ← n.ensures, c.if-is_wrong.false, c.if-is_misnamed.true) refl

pub returns : goal.returns
returns c =
    let n = c.misnamed-is_misnamed in
    rw (ne_eqb _ _ c.if-bytes-eq0.false, le-ltb 5 _ c.if-bytes-gt-TIMER.false, ← c.wrong_length-is_wrong.ensures, ← n.ensures, c.if-is_wrong.false, c.if-is_misnamed.false) refl
