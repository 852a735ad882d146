-- The numbers in slots have the widths of their bytes just where those of the contents do (document 01, 'A view is 32 bits wide',
-- 'A plan is any 64-bit number'). A kept frame has bytes, so its view, its plan and its reports fit; other slots hold votes.
-- Assumes nothing.
use Prim.Native.Nat.{ℕ, zero, suc, ◌^◌, ◌<◌}
use mathlib.Core.Path.{◌≡◌, refl, sym, subst}
use mathlib.Core.Bool.{Bool, true, false, cond}
use mathlib.Core.List.{◌++◌}
use mathlib.Core.Option.{Option, none, some}
use native.Mathlib.Omega.{arith}
use native.Mathlib.Decide.{dec_lt}
use lib.Dec.{eqb}
use borrow.Author.Tests.{ltb-false}
use Rattle.rules.specs.Rules.{Vote}
use Rattle.rules.proofs.Reports.{none≢some}
use Rattle.wire.specs.Fields as wire
use Rattle.frame.specs.declared.Report.{Report}
use Rattle.frame.specs.declared.Body.{Body}
use Rattle.frame.specs.declared.Body.TheVariants.{Plan, Empty, Told}
use Rattle.frame.specs.declared.Frame.{Frame}
use Rattle.frame.specs.Format.{head_fields, body_fields}
use Rattle.frame.specs.Valid.{Valid}
use Rattle.record.specs.Slots as slots
use Rattle.record.specs.Slots.{slot_count, previous_slot, decision_slot, empty_slot, slot_of}
use Rattle.record.specs.inside.Layout as layout
use Rattle.record.specs.inside.Layout.{Small}
use Rattle.record.specs.Kept.{plan_of, head_slot}
use Rattle.protocol.specs.Record.{Record, reported, spelt}
use Rattle.protocol.specs.Pass.{has_previous}
use Rattle.settings.specs.Settings.{setting_rows}
use Rattle.protocol.specs.inside.Sound.{FitsVote, Ranged}
use Rattle.protocol.specs.Sound.{Sound}
use Rattle.protocol.proofs.Tables.{when_some}
use Rattle.protocol.proofs.Slots.{view_fits}
use Rattle.protocol.proofs.Went.{none_given, third_of}
use Rattle.protocol.proofs.Sound.{id_below, size_below}
use Rattle.contents.specs.Contents.{previous_of, contents, head_of, report_of_body, report_of_frame, slot_at, slotted}
use Rattle.contents.proofs.Places.{slot_head, slot_told, slot_previous, slot_decision, everywhere}
use Rattle.contents.proofs.Slotted.{slot_slotted, slot_beyond}

-- ---- from slots to contents

-- The vote in a slot has the slot's widths.
reported_fits : (y : Report) (x : Vote) → Small y → reported y ≡ some x → FitsVote x
reported_fits y x small e = go (eqb y.mark 1) e
  where
    go : (b : Bool) → cond b (some (record { view = y.view; plan = y.plan })) none ≡ some x → FitsVote x
    go true e = let is : record { view = y.view; plan = y.plan } ≡ x = cc in rw (← is) (small.view, small.plan)
    go false e = absurd (none≢some e)

-- Contents of slots that have their widths have theirs.
pub ranged_fits : (r : slots.Record) → layout.FitsBytes r → Ranged (contents r)
unfolding contents previous_of
ranged_fits r z = record {
  start = z.plan;
  view = z.view;
  previous = λ k x e. reported_fits (slot_of r (previous_slot (suc k))) x (z.slots (previous_slot (suc k))) (when_some (has_previous k) _ e).1;
  decision = λ x e. reported_fits (slot_of r decision_slot) x (z.slots decision_slot) e;
}

-- ---- from contents to slots

-- The empty slot has its widths.
small_empty : Small empty_slot
small_empty = record { mark = omega arith; view = omega arith; plan = omega arith }

-- A spelt vote has its widths.
small_spelt : (o : Option Vote) → ((x : Vote) → o ≡ some x → FitsVote x) → Small (spelt o)
small_spelt none fit = small_empty
small_spelt (some x) fit = record { mark = omega arith; view = (fit x refl).0; plan = (fit x refl).1 }

module _ (x : Frame) (valid : Valid x) where
  -- The head of a frame that has bytes has its widths.
  small_head : Small (head_slot x)
  small_head = record { mark = omega arith; view = view_fits x valid; plan = go x.body valid.sized }
    where
      go : (b : Body) → wire.Sized (head_fields x ++ body_fields b) → plan_of b < 256 ^ 8
      go (Plan p) s = s.1.1.1.0
      go Empty s = omega arith
      go (Told t) s = omega arith

  -- So have its reports.
  small_told : (w : ℕ) → Small (report_of_body w x.body)
  small_told w = go x.body valid.sized w
    where
      go : (b : Body) → wire.Sized (head_fields x ++ body_fields b) → (w : ℕ) → Small (report_of_body w b)
      go (Plan p) s w = small_empty
      go Empty s w = small_empty
      go (Told t) s zero = let m = s.1.1.1 in record { mark = m.0; view = m.1.0; plan = m.1.1.0 }
      go (Told t) s (suc zero) = let m = s.1.1.1.1.1.1 in record { mark = m.0; view = m.1.0; plan = m.1.1.0 }
      go (Told t) s (suc (suc w)) = let m = s.1.1.1.1.1.1.1.1.1 in record { mark = m.0; view = m.1.0; plan = m.1.1.0 }

module _ (c : Record) (sound : Sound c) (ranged : Ranged c) where
  -- So every place that sound contents fill has its widths.
  small_at : (i : ℕ) → i < slot_count → Small (slot_at c i)
  small_at = everywhere (λ (i : ℕ). Small (slot_at c i))
      (λ k j low high row. subst Small (sym (slot_head c k j low high row)) (head (c.kept k j) (λ x e. (sound.kept k j x e).valid)))
      (λ k w j low high lw row. subst Small (sym (slot_told c k w j low high lw row)) (told w (c.kept k j) (λ x e. (sound.kept k j x e).valid)))
      (λ k has. subst Small (sym (slot_previous c k has)) (small_spelt (c.previous k) (ranged.previous k)))
      (subst Small (sym (slot_decision c)) (small_spelt c.decision ranged.decision))
    where
      head : (o : Option Frame) → ((x : Frame) → o ≡ some x → Valid x) → Small (head_of o)
      head none valid = small_empty
      head (some x) valid = small_head x (valid x refl)

      told : (w : ℕ) (o : Option Frame) → ((x : Frame) → o ≡ some x → Valid x) → Small (report_of_frame w o)
      told w none valid = small_empty
      told w (some x) valid = small_told x (valid x refl) w

  -- So has every slot, as those beyond are empty.
  small_slot : (i : ℕ) → Small (slot_of (slotted c) i)
  small_slot i = go (dec_lt i slot_count)
    where
      go : Dec (i < slot_count) → Small (slot_of (slotted c) i)
      go (yes low) = subst Small (sym (slot_slotted c i low)) (small_at i low)
      go (no far) = subst Small (sym (slot_beyond c i (omega arith))) small_empty

  -- The record that sound contents fill has the widths of its bytes.
  pub fits_slotted : layout.FitsBytes (slotted c)
  unfolding slotted
  fits_slotted = record {
    set = record {
      n = omega (arith, size_below c.set sound.settings);
      f = omega (arith, third_of c.set sound.settings, size_below c.set sound.settings);
      id = omega (arith, id_below c.set sound.settings, size_below c.set sound.settings);
      class = omega (arith, ltb-false 7 c.set.class (none_given (setting_rows c.set) sound.settings).1.1.1.0);
    };
    view = ranged.view;
    plan = ranged.start;
    slots = small_slot;
    beyond = slot_beyond c;
  }
