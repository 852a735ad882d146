-- How high a claim reaches (document 02, wish 7): the answer for the 39 bytes of a suggest or proof, and a plan.
-- Assumes nothing.
use Rattle.std.specs.Prelude.{Result, Ok, Err, ℕ, zero, suc, not, ◌&&◌, cond, List, [], ◌∷◌, eqb, length}
use Rattle.frame.specs.declared.Report.{Report}
use Rattle.frame.specs.declared.Reports.{Reports}
use Rattle.frame.specs.Format.{three_reports, reports_at}
use Rattle.frame.specs.declared.Refusal.{Refusal}
use Rattle.frame.specs.Refusal.{Row, row, first, present, report_form_row, previous_row}
use Rattle.frame.specs.Numbers.{number_of}

-- 'then 14 and 22', of all three reports. 21 is not asked, as there is no frame's view.
abbrev pub told_rows : List Report → List Row
told_rows rs = report_form_row rs ∷ previous_row rs ∷ []

-- '10 for another length, then 14 and 22': 'The reports come as the 39 bytes of a suggest or proof.'
abbrev pub reach_rows : List ℕ → List Row
reach_rows s = row 10 (not (eqb (length s) 39)) ∷ told_rows (three_reports (reports_at s 0))

-- 'It is the highest vote's view if that vote is for the plan, else the previous vote's view, else 0.'
unfoldable pub said_reach : Reports → ℕ → ℕ
said_reach t p =
    cond (present t.highest && eqb t.highest.plan p) t.highest.view
    (cond (present t.previous) t.previous.view 0)

-- The highest view at which a plan is claimed, or the number of a refusal.
pub data Reach : Type 0 where
  View : ℕ → Reach
  Refused : ℕ → Reach

-- What a call's answer says.
abbrev pub reached : Result ℕ Refusal → Reach
reached (Ok view) = View view
reached (Err why) = Refused (number_of why)

-- A refusal's number, or where there is none the view.
abbrev pub answered : ℕ → ℕ → Reach
answered zero view = View view
answered (suc k) view = Refused (suc k)

-- What the call answers.
unfoldable pub claim_reach : List ℕ → ℕ → Reach
claim_reach s p = answered (first (reach_rows s)) (said_reach (reports_at s 0) p)
