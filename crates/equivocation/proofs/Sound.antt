-- What a sound record has (document 01, 'What a vault keeps'): at most 64 vaults, and kept frames of its vaults only. Each follows from the test of
-- the slots, which goes place by place.
-- Assumes nothing.
use Prim.Native.Nat.{ℕ, ◌+◌, ◌-◌, ◌≤◌, ◌<◌}
use mathlib.Core.Path.{◌≡◌, refl, ap, sym, subst, ◌∙◌}
use mathlib.Core.Bool.{Bool, true, false, cond, ◌&&◌, false≢true}
use mathlib.Core.List.{List}
use native.Mathlib.Omega.{arith}
use lib.Dec.{ltb, eqb}
use lib.ListN.{length}
use borrow.Author.Tests.{eqb-true, ltb-true}
use Rattle.rules.proofs.Bools.{both_split}
use Rattle.frame.specs.declared.Frame.{Frame}
use Rattle.frame.specs.Refusal.{first, present}
use Rattle.settings.specs.Settings.{setting_rows}
use Rattle.settings.proofs.Allowed.{allowed}
use Rattle.record.specs.Slots.{rows, kinds, Record, frame_slot, slot_of}
use Rattle.record.specs.Layout.{decode_record}
use Rattle.record.specs.Size.{record_size}
use Rattle.record.specs.Kept.{frame_held}
use Rattle.sound.specs.declared.Lent.TheVariants.{Blank, Unsound, Sound}
use Rattle.sound.specs.inside.Sound.{no_plan, frame_sound, empty_at, place_sound, kind_sound, rows_sound, votes_sound, sound_in, sound, lent_is}
use Rattle.sound.proofs.All.{all_at}
use Rattle.contents.specs.Which.{is_sound}

-- The tests of a lent record, where it is sound.
sound_of : (a b c : Bool) → is_sound (cond a (cond b Blank (cond c Sound Unsound)) Unsound) ≡ true → c ≡ true
sound_of true true c e = absurd (false≢true e)
sound_of true false true e = refl
sound_of true false false e = absurd (false≢true e)
sound_of false b c e = absurd (false≢true e)

-- Lent bytes that are sound spell a record that passes.
pub sound_pass : (b : List ℕ) → is_sound (lent_is b) ≡ true → sound (decode_record b) ≡ true
unfolding lent_is
sound_pass b e = sound_of (eqb (length b) record_size) (eqb (decode_record b).set.n 0) (sound (decode_record b)) e

module _ (r : Record) (pass : sound r ≡ true) where
  -- Its settings pass, and its rows.
  parts_pass : (first (setting_rows r.set) ≡ 0) × (rows_sound (slot_of r) r.set r.view ≡ true)
  unfolding sound_in
  parts_pass =
      let (a, rest) = both_split (eqb (first (setting_rows r.set)) 0) (rows_sound (slot_of r) r.set r.view && votes_sound (slot_of r) r.set.id) pass in
      (eqb-true (first (setting_rows r.set)) 0 a, (both_split (rows_sound (slot_of r) r.set r.view) (votes_sound (slot_of r) r.set.id) rest).0)

  -- So n is at most 64.
  pub size_most : r.set.n ≤ rows
  size_most = (allowed r.set parts_pass.0).most

  -- The place of each kind and sender passes.
  place_pass : (k s : ℕ) → 1 ≤ k → k ≤ kinds → s < rows → place_sound (slot_of r) r.set r.view k s ≡ true
  unfolding rows_sound kind_sound
  place_pass k s low high row =
      let is : k - 1 + 1 ≡ k = omega arith in
      let kind : kind_sound (slot_of r) r.set r.view (k - 1 + 1) ≡ true =
      all_at (λ k. kind_sound (slot_of r) r.set r.view (k + 1)) kinds (k - 1) parts_pass.1 (omega arith) in
      all_at (place_sound (slot_of r) r.set r.view k) rows s (subst (λ (k : ℕ). kind_sound (slot_of r) r.set r.view k ≡ true) is kind) row

  -- A slot that is present stands in a row below n.
  pub sender_below : (k s : ℕ) → 1 ≤ k → k ≤ kinds → s < rows → present (slot_of r (frame_slot k s)) ≡ true → s < r.set.n
  unfolding place_sound frame_sound frame_held
  sender_below k s low high row there =
      let held : Frame = frame_held (slot_of r) k s in
      let plan : Bool = no_plan k (slot_of r (frame_slot k s)).plan in
      let both : (plan && frame_sound r.set r.view held) ≡ true =
      ap (λ (b : Bool). cond b (plan && frame_sound r.set r.view held) (empty_at (slot_of r) k s)) (sym there) ∙ place_pass k s low high row in
      ltb-true s r.set.n (both_split (ltb s r.set.n) _ (both_split plan (frame_sound r.set r.view held) both).1).0
