-- `frame::reports_refusal` meets its contract: 14, 21 and 22, one row each (02, wish 1). Each return is decided by the flags that led to it.
-- Assumes nothing.
use mathlib.Core.Path.{◌≡◌, refl, sym, ◌∙◌}
use mathlib.Core.Bool.{cond}
use Rattle.frame.specs.Format.{three_reports}
use Rattle.frame.specs.Refusal.{first, report_rows}
use Rattle.frame.proofs.reports_refusal.Goals as goal
use Rattle.frame.proofs.reports_refusal.Goals.{Else-high}

pub returns-then-form : goal.returns-then-form
returns-then-form c =
    rw (← c.any_bad_form-form.ensures, ← c.any_too_high-high.ensures, c.if-form.true) refl

pub returns-then-high : goal.returns-then-high
returns-then-high c =
    rw (← c.any_bad_form-form.ensures, ← c.any_too_high-high.ensures, c.if-form.false, c.if-high.true) refl

-- Where neither 14 nor 21 is given, the previous vote decides.
previous_left : (c : Else-high) → let a = c.args in
    first (report_rows a.view (three_reports a.r)) ≡ cond c.bad_previous-at_odds.result 22 0
previous_left c =
    rw (
      ← c.any_bad_form-form.ensures,
      ← c.any_too_high-high.ensures,
      ← c.bad_previous-at_odds.ensures,
      c.if-form.false,
      c.if-high.false,
    ) refl

pub returns-then-at_odds : goal.returns-then-at_odds
returns-then-at_odds c = sym (previous_left (goal.at.returns-then-at_odds c).Else-high ∙ rw c.if-at_odds.true refl)

pub returns : goal.returns
returns c = sym (previous_left (goal.at.returns c).Else-high ∙ rw c.if-at_odds.false refl)
