-- A vault's own part and its contents alone (document 02, wish 6): the slots of the own part are just those that `alone` leaves, so a restart
-- fills each with what stood there, and leaves all others empty (`restored_back`), as `alone` does by contents.
-- Assumes nothing.
use Prim.Native.Nat.{ℕ, ◌%◌, ◌<◌}
use mathlib.Core.Path.{◌≡◌, refl, sym, ◌∙◌, ap, subst}
use mathlib.Core.Logic.{◌⊎◌, inl, inr}
use mathlib.Core.Bool.{Bool, true, false, cond}
use mathlib.Core.List.{◌∷◌, ◌++◌}
use native.Mathlib.Omega.{arith}
use native.Mathlib.Decide.{dec_lt, ℕ_discrete}
use lib.Dec.{ltb}
use borrow.Author.Tests.{lt-ltb, le-ltb, eq-eqb, ne_eqb}
use Rattle.wire.specs.Digits.{digits}
use Rattle.frame.specs.declared.Report.{Report}
use Rattle.record.specs.Slots.{rows, first_report, first_previous, slot_count, empty_slot, slot_of}
use Rattle.record.specs.Layout.{spelled_slots}
use Rattle.record.specs.inside.Layout.{FitsBytes}
use Rattle.own.specs.Part.{remnant_slots, own_slot, remnant_of, put_over, over, restored}
use Rattle.own.specs.inside.Own.{own_in}
use Rattle.own.proofs.Slots.{Own, whether, own_is, own_below, own_at, over_own, over_else}
use Rattle.own.proofs.Stored.{view_read, plan_read, slot_read}
use Rattle.protocol.specs.Record.{Record}
use Rattle.protocol.specs.Alone.{alone}
use Rattle.protocol.proofs.Sound.{id_below, size_below}
use Rattle.contents.specs.Contents.{slot_at, slots_at, slotted}
use Rattle.contents.proofs.Slotted.{slot_slotted, slot_beyond}
use Rattle.contents.proofs.Widths.{fits_slotted}
use Rattle.contents.proofs.Spelling.{Fine}

-- ---- what is alone

module _ (r : Record) where
  -- What stands in an own slot stays.
  slot_own : (i : ℕ) → Own r.set.id i → slot_at (alone r) i ≡ slot_at r i
  unfolding slot_at alone
  slot_own i own = go (dec_lt i first_previous)
    where
      go : Dec (i < first_previous) → slot_at (alone r) i ≡ slot_at r i
      go (yes low) = rw (eq-eqb (i % rows) r.set.id (own low))
      go (no far) = rw (le-ltb i first_report (omega arith), le-ltb i first_previous (omega arith))

  -- Every other slot is empty.
  slot_other : (i : ℕ) → (Own r.set.id i → ⊥) → slot_at (alone r) i ≡ empty_slot
  unfolding slot_at alone
  slot_other i other = go (dec_lt i first_previous) (ℕ_discrete (i % rows) r.set.id)
    where
      both : (b : Bool) → cond b empty_slot empty_slot ≡ empty_slot
      both true = refl
      both false = refl

      go : Dec (i < first_previous) → Dec (i % rows ≡ r.set.id) → slot_at (alone r) i ≡ empty_slot
      go (no far) b = absurd (other (λ (low : i < first_previous). absurd (far low)))
      go (yes low) (yes e) = absurd (other (λ _. e))
      go (yes low) (no ne) = rw (ne_eqb (i % rows) r.set.id ne, lt-ltb i first_previous low) (both (ltb i first_report))

  -- So the remnant's slots stay.
  own_stays : r.set.id < rows → (t : ℕ) → slot_of (slotted (alone r)) (own_slot r.set.id t) ≡ slot_of (slotted r) (own_slot r.set.id t)
  unfolding slotted
  own_stays row t =
      let i = own_slot r.set.id t in
      ap (λ (x : Report). cond (ltb i slot_count) x empty_slot) (slot_own i (own_is r.set.id row t))

-- ---- there and back

module _ (r : Record) (fine : Fine r) where
  -- The own number has a row.
  own_row : r.set.id < rows
  own_row = omega (arith, id_below r.set fine.sound.settings, size_below r.set fine.sound.settings)

  -- The record that they fill has the widths of its bytes.
  fits : FitsBytes (slotted r)
  fits = fits_slotted r fine.sound fine.ranged

  -- Each slot that a restart makes is what `alone` leaves there.
  slot_back : (i : ℕ) → put_over r.set.id (own_in (remnant_of (slotted r))) (λ i. empty_slot) remnant_slots i ≡ slots_at (alone r) i
  unfolding slotted
  slot_back i = go (dec_lt i slot_count) (whether r.set.id i)
    where
      made : ℕ → Report
      made t = own_in (remnant_of (slotted r)) t

      go : Dec (i < slot_count) → Own r.set.id i ⊎ (Own r.set.id i → ⊥) → put_over r.set.id made (λ i. empty_slot) remnant_slots i ≡ slots_at (alone r) i
      go (yes low) (inl is) =
          let (t, under, at) = own_at r.set.id own_row i low is in
          subst (λ (i : ℕ). put_over r.set.id made (λ i. empty_slot) remnant_slots i ≡ slots_at (alone r) i) at
          (over_own r.set.id own_row (λ i. empty_slot) made remnant_slots t under ∙ slot_read (slotted r) fits t under ∙ sym (own_stays r own_row t))
      go (yes low) (inr other) =
          over_else r.set.id own_row (λ i. empty_slot) made remnant_slots i (λ t under e. other (subst (Own r.set.id) e (own_is r.set.id own_row t)))
          ∙ sym (slot_slotted (alone r) i low ∙ slot_other r i other)
      go (no far) is =
          over_else r.set.id own_row (λ i. empty_slot) made remnant_slots i
          (λ (t : ℕ) (under : t < remnant_slots) (e : own_slot r.set.id t ≡ i). omega (arith, own_below r.set.id own_row t under))
          ∙ sym (slot_beyond (alone r) i (omega arith))

  -- A restart makes the record that the contents alone fill.
  pub restored_back : restored (remnant_of (slotted r)) ≡ slotted (alone r)
  unfolding over remnant_of slotted alone
  restored_back =
      let view = view_read (slotted r) fits in
      let plan = plan_read (slotted r) fits in
      let slots = slot_back in
      λ k. record { set = r.set; view = view k; plan = plan k; slots = λ i. slots i k }

  -- 'any number of times': what is left has the same remnant.
  pub remnant_alone : remnant_of (slotted (alone r)) ≡ remnant_of (slotted r)
  unfolding remnant_of slotted alone
  remnant_alone =
      let stays = own_stays r own_row in
      λ k. (r.set.n ∷ r.set.f ∷ r.set.id ∷ r.set.class ∷ digits 4 r.view)
      ++ (digits 8 r.start ++ spelled_slots (λ t. stays t k) 0 remnant_slots)
