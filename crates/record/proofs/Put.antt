-- Bytes that hold a record, through calls that put one slot after another.
-- Assumes nothing.
use Prim.Native.Nat.{ℕ, ◌≤◌}
use mathlib.Core.Path.{◌≡◌, refl, sym, ◌∙◌}
use mathlib.Core.Bool.{true}
use mathlib.Core.List.{List}
use native.Mathlib.Omega.{arith}
use Rattle.frame.specs.declared.Report.{Report}
use Rattle.frame.specs.declared.Reports.{Reports}
use Rattle.frame.specs.declared.Body.{Body}
use Rattle.frame.specs.declared.Body.TheVariants.{Plan, Empty, Told}
use Rattle.frame.specs.declared.Frame.{Frame}
use Rattle.frame.specs.Valid.{fits}
use Rattle.record.specs.Slots.{Record, frame_slot, report_slot}
use Rattle.record.specs.inside.Slots.{with_slot}
use Rattle.record.specs.Layout.{decode_record}
use Rattle.record.specs.inside.Layout.{HoldsRecord}
use Rattle.record.specs.Kept.{head_slot}
use Rattle.record.specs.inside.Kept.{with_reports, with_body, keep_frame}
use Rattle.record.proofs.Forms.{told_kind}

-- the same bytes hold an equal record
pub held_as : {o : List ℕ} {r s : Record} → HoldsRecord o r → r ≡ s → HoldsRecord o s
held_as h e = record { size = h.size; is = h.is ∙ e }

-- three reports, one after the other
pub held_reports : (o o₁ o₂ o₃ : List ℕ) {a b c : ℕ} (kind sender : ℕ) (t : Reports)
    → a ≡ report_slot kind 0 sender → b ≡ report_slot kind 1 sender → c ≡ report_slot kind 2 sender
    → HoldsRecord o₁ (with_slot (decode_record o) a t.highest) → HoldsRecord o₂ (with_slot (decode_record o₁) b t.previous)
    → HoldsRecord o₃ (with_slot (decode_record o₂) c t.lock)
    → HoldsRecord o₃ (with_reports (decode_record o) kind sender t)
unfolding with_reports
held_reports o o₁ o₂ o₃ {a} {b} {c} kind sender t ea eb ec x y z =
    let h = t.highest in
    let p = t.previous in
    let l = t.lock in
    let ex = x.is in
    let ey = y.is in
    held_as z ((λ i. with_slot (ey i) c l) ∙ (λ i. with_slot (with_slot (ex i) b p) c l)
    ∙ (λ i. with_slot (with_slot (with_slot (decode_record o) (ea i) h) (eb i) p) (ec i) l))

-- a frame's head, and the reports that follow it where there are some
module _ (o o₁ : List ℕ) (sender : ℕ) (f : Frame) {at : ℕ} {slot : Report} (e : at ≡ frame_slot f.kind sender) (p : slot ≡ head_slot f)
    (h : HoldsRecord o₁ (with_slot (decode_record o) at slot)) where
  -- the bytes hold the record with the frame's own slot
  head : decode_record o₁ ≡ with_slot (decode_record o) (frame_slot f.kind sender) (head_slot f)
  head = h.is ∙ (λ i. with_slot (decode_record o) (e i) (p i))

  -- with what follows the head put too, that is the record with the frame kept
  kept : {b : Body} → f.body ≡ b → with_body (decode_record o₁) f.kind sender b ≡ keep_frame (decode_record o) sender f
  unfolding keep_frame
  kept g = let d = sym g in λ i. with_body (head i) f.kind sender (d i)

  -- nothing follows the head of a frame with a plan
  held_plan : {q : ℕ} → f.body ≡ Plan q → HoldsRecord o₁ (keep_frame (decode_record o) sender f)
  held_plan g = record { size = h.size; is = kept g }

  -- nor that of a view-change
  held_bare : f.body ≡ Empty → HoldsRecord o₁ (keep_frame (decode_record o) sender f)
  held_bare g = record { size = h.size; is = kept g }

  -- reports follow the head of a suggest or a proof: once they are put, the frame is kept
  pub held_told : {o₂ : List ℕ} {t : Reports} → f.body ≡ Told t → HoldsRecord o₂ (with_reports (decode_record o₁) f.kind sender t)
      → HoldsRecord o₂ (keep_frame (decode_record o) sender f)
  held_told g x = held_as x (kept g)

  -- a frame of a kind without reports is its head
  pub held_head : fits f.kind f.body ≡ true → f.kind ≤ 6 → HoldsRecord o₁ (keep_frame (decode_record o) sender f)
  held_head fit low = go f.body refl
    where
      go : (b : Body) → f.body ≡ b → HoldsRecord o₁ (keep_frame (decode_record o) sender f)
      go (Plan q) g = held_plan g
      go Empty g = held_bare g
      go (Told t) g = absurd (omega (arith, low, told_kind f.kind g fit))
