-- What a kept frame and keeping a frame are, by the form of the kind (01, Frames, column 'Rest'): a plan in kinds 1 to 5, nothing
-- in kind 6, three reports in kinds 7 and 8. Each definition over the kind or the body computes to one value on each form.
-- Assumes nothing.
use Prim.Native.Nat.{ℕ, ◌≤◌}
use mathlib.Core.Path.{◌≡◌, ap, sym, ◌∙◌}
use mathlib.Core.Bool.{true}
use mathlib.Core.Option.{none, some}
use native.Mathlib.Omega.{arith}
use borrow.Author.Tests.{eq-eqb, ne_eqb, eqb-true}
use Rattle.frame.specs.declared.Report.{Report}
use Rattle.frame.specs.declared.Reports.{Reports}
use Rattle.frame.specs.declared.Body.{Body}
use Rattle.frame.specs.declared.Body.TheVariants.{Plan, Empty, Told}
use Rattle.frame.specs.declared.Frame.{Frame}
use Rattle.frame.specs.Valid.{fits}
use Rattle.frame.proofs.Laws.{inside, over, bounds}
use Rattle.record.specs.Slots.{Record, frame_slot}
use Rattle.record.specs.inside.Slots.{with_slot}
use Rattle.record.specs.Kept.{reports_in, body_in, frame_held, kept_in, plan_of}
use Rattle.record.specs.inside.Kept.{with_reports, with_body, told, keep_frame}

module _ (slots : ℕ → Report) (kind sender : ℕ) where
  -- a kept proposal or vote holds the plan of its slot
  pub body_plan : 1 ≤ kind → kind ≤ 5 → body_in slots kind sender ≡ Plan (slots (frame_slot kind sender)).plan
  unfolding body_in
  body_plan a b = simp (inside 1 5 kind a b)

  -- a kept view-change holds nothing
  pub body_bare : kind ≡ 6 → body_in slots kind sender ≡ Empty
  unfolding body_in
  body_bare e = simp (over 1 5 kind (omega arith) (omega arith), eq-eqb kind 6 e)

  -- a kept suggest or proof holds its three reports
  pub body_reports : 7 ≤ kind → body_in slots kind sender ≡ Told (reports_in slots kind sender)
  unfolding body_in
  body_reports a = simp (over 1 5 kind (omega arith) (omega arith), ne_eqb kind 6 (omega arith))

  -- a marked slot is a kept frame
  pub kept_there : (slots (frame_slot kind sender)).mark ≡ 1 → kept_in slots kind sender ≡ some (frame_held slots kind sender)
  unfolding kept_in
  kept_there e = simp (eq-eqb _ _ e)

  -- where the slot is not marked, none is kept
  pub kept_nothing : ((slots (frame_slot kind sender)).mark ≡ 1 → ⊥) → kept_in slots kind sender ≡ none
  unfolding kept_in
  kept_nothing e = simp (ne_eqb _ _ e)

-- a body that fits its kind says which kinds it can be
pub fits_kind : (kind : ℕ) (body : Body) → fits kind body ≡ true → (1 ≤ kind) × (kind ≤ 8)
fits_kind kind (Plan p) e = let h = bounds 1 5 kind e in (h.0, omega arith)
fits_kind kind Empty e = let h : kind ≡ 6 = eqb-true kind 6 e in (omega arith, omega arith)
fits_kind kind (Told t) e = let h = bounds 7 8 kind e in (omega arith, h.1)

-- a frame with reports is of kind 7 or 8
pub told_kind : (kind : ℕ) {body : Body} {t : Reports} → body ≡ Told t → fits kind body ≡ true → 7 ≤ kind
told_kind kind {body} {t} e h = let k : fits kind (Told t) ≡ true = ap (fits kind) (sym e) ∙ h in (bounds 7 8 kind k).0

-- frames without reports are of kinds 1 to 6
pub plan_kind : (kind : ℕ) {body : Body} {p : ℕ} → body ≡ Plan p → fits kind body ≡ true → kind ≤ 6
plan_kind kind {body} {p} e h =
    let k : fits kind (Plan p) ≡ true = ap (fits kind) (sym e) ∙ h in
    let b = bounds 1 5 kind k in omega arith

-- the same of a frame without a plan
pub bare_kind : (kind : ℕ) {body : Body} → body ≡ Empty → fits kind body ≡ true → kind ≤ 6
bare_kind kind e h = let k : kind ≡ 6 = eqb-true kind 6 (ap (fits kind) (sym e) ∙ h) in omega arith

module _ (r : Record) (sender : ℕ) (f : Frame) where
  -- the record with the frame's head and what follows it, by the form of the body
  keep_body : {b : Body} → f.body ≡ b
      → keep_frame r sender f
      ≡ with_body (with_slot r (frame_slot f.kind sender) (record { mark = 1; view = f.view; plan = plan_of b })) f.kind sender b
  unfolding keep_frame
  keep_body e = λ i. with_body (with_slot r (frame_slot f.kind sender) (record { mark = 1; view = f.view; plan = plan_of (e i) })) f.kind sender (e i)

  -- keeping a suggest or a proof fills one slot with its view, and three with its reports
  pub keep_told : {t : Reports} → f.body ≡ Told t
      → keep_frame r sender f
      ≡ with_reports (with_slot r (frame_slot f.kind sender) (record { mark = 1; view = f.view; plan = 0 })) f.kind sender t
  keep_told e = keep_body e

  -- it does not ask for the frame's own sender
  pub keep_told_as : {t : Reports} → f.body ≡ Told t → keep_frame r sender (told f.kind sender f.view t) ≡ keep_frame r sender f
  unfolding keep_frame
  keep_told_as e = sym (keep_told e)
