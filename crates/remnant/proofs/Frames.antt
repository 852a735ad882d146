-- Each test of the own row, by the branch that decides it: one frame, and the place of one kind (01, 'What a vault keeps').
-- Assumes nothing.
use Prim.Native.Nat.{ℕ, ◌<◌}
use mathlib.Core.Path.{◌≡◌, refl, sym, ap, ◌∙◌}
use mathlib.Core.Bool.{Bool, true, false, not, ◌&&◌}
use mathlib.Core.List.{List, ◌++◌}
use native.Mathlib.Omega.{arith}
use lib.Dec.{eqb, ltb}
use borrow.Author.Tests.{eq-eqb, lt-ltb}
use Rattle.frame.specs.declared.Report.{Report}
use Rattle.frame.specs.declared.Frame.{Frame}
use Rattle.frame.specs.Refusal.{first, content_rows, leader_rows}
use Rattle.settings.specs.declared.Settings.{Settings}
use Rattle.settings.proofs.Allowed.{allowed}
use Rattle.record.specs.Slots.{frame_slot}
use Rattle.record.specs.Kept.{frame_held}
use Rattle.sound.specs.inside.Sound.{empty_at, no_plan, ahead, frame_sound, place_sound}
use Rattle.sound.proofs.Laws.{place_empty, place_plan, place_of_frame}
use Rattle.remnant.specs.inside.Parts.{id_in, row_in, Fitting, Head}

-- An own frame: its sender is below n, and it may not be above the current view.
module _ (set : Settings) (view : ℕ) (f : Frame) (own : f.sender ≡ set.id) (below : set.id < set.n) where
  -- It is above.
  pub frame_above : (not (eqb f.kind 6) && ltb view f.view) ≡ true → frame_sound set view f ≡ false
  unfolding frame_sound ahead
  frame_above h = let low : f.sender < set.n = omega arith in rw (lt-ltb f.sender set.n low, eq-eqb f.sender set.id own, h) refl

  -- It is not: the table decides.
  pub frame_rows : (not (eqb f.kind 6) && ltb view f.view) ≡ false
      → frame_sound set view f ≡ eqb (first (content_rows f ++ leader_rows f set.n set.id)) 0
  unfolding frame_sound ahead
  frame_rows h = let low : f.sender < set.n = omega arith in rw (lt-ltb f.sender set.n low, eq-eqb f.sender set.id own, h) refl

-- Its place, by its slot.
module _ (s : List ℕ) {set : Settings} (view kind : ℕ) {head : Report} (f : Fitting s set) (h : Head s kind head) where
  -- The own number, and the mark and the plan that stand there.
  there : place_sound (row_in s) set view kind (id_in s) ≡ place_sound (row_in s) set view kind set.id
  there = ap (λ (x : Settings). place_sound (row_in s) set view kind x.id) (sym f.is)

  mark : head.mark ≡ (row_in s (frame_slot kind (id_in s))).mark
  mark = ap (λ (x : Report). x.mark) h.is

  plan : no_plan kind head.plan ≡ no_plan kind (row_in s (frame_slot kind (id_in s))).plan
  plan = ap (λ (x : Report). no_plan kind x.plan) h.is

  -- No mark: nothing is to stand there.
  pub place_none : {b : Bool} → (head.mark ≡ 1 → ⊥) → b ≡ empty_at (row_in s) kind (id_in s) → b ≡ place_sound (row_in s) set view kind set.id
  place_none other e = e ∙ sym (place_empty (row_in s) set view kind (id_in s) (λ (one : (row_in s (frame_slot kind (id_in s))).mark ≡ 1). other (mark ∙ one))) ∙ there

  -- A plan that its kind has not.
  pub place_wrong : head.mark ≡ 1 → no_plan kind head.plan ≡ false → false ≡ place_sound (row_in s) set view kind set.id
  place_wrong one bad = sym (place_plan (row_in s) set view kind (id_in s) (sym mark ∙ one) (sym plan ∙ bad)) ∙ there

  -- A frame: it decides.
  pub place_frame : {b : Bool} (g : Frame) → head.mark ≡ 1 → no_plan kind head.plan ≡ true → g ≡ frame_held (row_in s) kind (id_in s)
      → b ≡ frame_sound set view g → b ≡ place_sound (row_in s) set view kind set.id
  place_frame g one fine is e =
      e ∙ ap (frame_sound set view) is ∙ sym (place_of_frame (row_in s) set view kind (id_in s) (sym mark ∙ one) (sym plan ∙ fine)) ∙ there

  -- It is the own vault's, whose number is below n.
  pub frame_own : (g : Frame) → g ≡ frame_held (row_in s) kind (id_in s) → (g.sender ≡ set.id) × (set.id < set.n)
  unfolding frame_held
  frame_own g is =
      let a = allowed set f.good in
      (ap (λ (x : Frame). x.sender) is ∙ ap (λ (x : Settings). x.id) (sym f.is), a.own)
