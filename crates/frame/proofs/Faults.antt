-- Which fault of a report each number tells (document 02, wish 1: 'All three reports are tested for the first fault, then all for the second, then all
-- for the third'). Where 9 to 13 give nothing, the rows 14, 21, 22 and 15 are left, over four flags: each of the five answers is told apart from
-- the others by its number. A frame that passes the rows on its content has none of the three faults.
-- Assumes nothing.
use Prim.Native.Nat.{ℕ}
use mathlib.Core.Path.{◌≡◌, refl, sym, ap, ◌∙◌}
use mathlib.Core.Logic.{inl, inr}
use mathlib.Core.Bool.{Bool, true, false, cond, true≢false}
use mathlib.Core.List.{List, ◌++◌}
use native.Mathlib.Omega.{arith}
use lib.Dec.{eqb}
use lib.ListN.{get_or}
use Rattle.frame.specs.declared.Frame.{Frame}
use Rattle.frame.specs.Refusal.{Reading, Accepted, Refused}
use Rattle.frame.specs.Format.{three_reports, reports_at, reports_of, decode}
use Rattle.frame.specs.Refusal.{first, any, bad_form, too_high, bad_previous_of, view_missing, misled}
use Rattle.frame.specs.Refusal.{form_rows, link_rows, report_rows, content_rows, leader_rows, refusal, read_frame}
use Rattle.frame.specs.Sentences.{FaultsTell, FaultsAreTold, Faultless}
use Rattle.frame.proofs.Laws.{none, first_none, body_of_reports}

-- ---- by the rows

-- The number that the rows 14, 21, 22 and 15 give.
abbrev number_by : Bool → Bool → Bool → Bool → ℕ
number_by form view previous led = cond form 14 (cond view 21 (cond previous 22 (cond led 15 0)))

-- The answer of a reader whose table gives a number, 0 where it gives none.
abbrev answer_by : ℕ → Frame → Reading
answer_by number f = cond (eqb number 0) (Accepted f) (Refused number)

-- The number of a refusal, 0 where the frame was accepted.
abbrev refusal_of : Reading → ℕ
refusal_of (Accepted f) = 0
refusal_of (Refused number) = number

-- Two answers with different numbers are not the same.
differ : {A : Type 0} (answer : Reading) (k : ℕ) → (refusal_of answer ≡ k → ⊥) → answer ≡ Refused k → A
differ answer k other e = absurd (other (ap refusal_of e))

-- A test does not both hold and fail.
clash : {A : Type 0} {b : Bool} → b ≡ true → b ≡ false → A
clash holds fails = absurd (true≢false (sym holds ∙ fails))

-- Each of the five answers, by the flags.
tells : (form view previous led : Bool) (f : Frame) → FaultsTell form view previous f (answer_by (number_by form view previous led) f)
tells true view previous led f = record {
  is14 = (λ e. refl, λ e. refl);
  is21 = (λ (a, b). clash refl a, differ (Refused 14) 21 (λ e. omega arith));
  is22 = (λ (a, b, c). clash refl a, differ (Refused 14) 22 (λ e. omega arith));
  none = λ a b c. clash refl a;
}
tells false true previous led f = record {
  is14 = (λ e. clash e refl, differ (Refused 21) 14 (λ e. omega arith));
  is21 = (λ e. refl, λ e. (refl, refl));
  is22 = (λ (a, b, c). clash refl b, differ (Refused 21) 22 (λ e. omega arith));
  none = λ a b c. clash refl b;
}
tells false false true led f = record {
  is14 = (λ e. clash e refl, differ (Refused 22) 14 (λ e. omega arith));
  is21 = (λ (a, b). clash b refl, differ (Refused 22) 21 (λ e. omega arith));
  is22 = (λ e. refl, λ e. (refl, refl, refl));
  none = λ a b c. clash refl c;
}
tells false false false true f = record {
  is14 = (λ e. clash e refl, differ (Refused 15) 14 (λ e. omega arith));
  is21 = (λ (a, b). clash b refl, differ (Refused 15) 21 (λ e. omega arith));
  is22 = (λ (a, b, c). clash c refl, differ (Refused 15) 22 (λ e. omega arith));
  none = λ a b c. inl refl;
}
tells false false false false f = record {
  is14 = (λ e. clash e refl, differ (Accepted f) 14 (λ e. omega arith));
  is21 = (λ (a, b). clash b refl, differ (Accepted f) 21 (λ e. omega arith));
  is22 = (λ (a, b, c). clash c refl, differ (Accepted f) 22 (λ e. omega arith));
  none = λ a b c. inr refl;
}

-- ---- of bytes

module _ (s : List ℕ) (link n own : ℕ) where
  -- Where 9 to 13 give nothing, the rows on the reports and on the leader decide.
  left : first (form_rows s) ≡ 0 → first (link_rows (get_or s 1 0) link n own) ≡ 0 → view_missing (decode s).kind (decode s).view ≡ false
      → refusal s link n own ≡ first (report_rows (decode s).view (reports_of (decode s).body) ++ leader_rows (decode s) n own)
  unfolding refusal
  left form at missing =
      first_none (form_rows s) (link_rows (get_or s 1 0) link n own ++ (content_rows (decode s) ++ leader_rows (decode s) n own)) (omega arith) form
      ∙ (first_none (link_rows (get_or s 1 0) link n own) (content_rows (decode s) ++ leader_rows (decode s) n own) (omega arith) at
      ∙ rw missing refl)

-- Which fault each number tells.
pub faults_are_told : FaultsAreTold
unfolding read_frame decode
faults_are_told s link n own told form at missing =
    let rs = three_reports (reports_at s 6) in
    let f = decode s in
    let three : reports_of f.body ≡ rs = ap reports_of (body_of_reports (get_or s 0 0) s told) in
    let led = misled f.kind f.sender f.view n own in
    let is : refusal s link n own ≡ number_by (any bad_form rs) (any (too_high f.view) rs) (bad_previous_of rs) led =
    left s link n own form at missing ∙ rw three refl in
    rw is (tells (any bad_form rs) (any (too_high f.view) rs) (bad_previous_of rs) led f)

-- ---- a frame that passes

-- A frame that passes 13, 14, 21 and 22 has none of the three faults.
pub faultless : (x : Frame) → first (content_rows x) ≡ 0 → Faultless x.view (reports_of x.body)
faultless x e =
    let rs = reports_of x.body in
    let a = none (view_missing x.kind x.view) 13 _ (omega arith) e in
    let b = none (any bad_form rs) 14 _ (omega arith) a.1 in
    let c = none (any (too_high x.view) rs) 21 _ (omega arith) b.1 in
    let d = none (bad_previous_of rs) 22 _ (omega arith) c.1 in
    record { form = b.0; below = c.0; previous = d.0 }
