-- Laws of refusals 16 and 17 and of the previous vote, case by case: 'Checked downwards' (01, Refusals), and 'a new vote for the
-- same plan leaves previous alone' (01, Wrong turns). Each definition computes to one value once its tests are known.
-- Assumes nothing.
use Prim.Native.Nat.{ℕ, ◌≤◌}
use mathlib.Core.Path.{◌≡◌}
use mathlib.Core.Bool.{true, false, not, ◌&&◌}
use lib.Dec.{eqb}
use Rattle.frame.specs.declared.Report.{Report}
use Rattle.frame.specs.Format.{within}
use Rattle.frame.specs.Refusal.{first, present}
use Rattle.frame.proofs.Laws.{both, bounds}
use Rattle.record.specs.Slots.{Record, frame_slot, previous_slot}
use Rattle.record.specs.inside.Slots.{with_slot}
use Rattle.record.specs.inside.Keeping.{stale, outdone, keep_rows, moves, own_slot, shifted_slots}

module _ (slots : ℕ → Report) (current sender kind view : ℕ) where
  -- a view below current (kind 6: at or below) gives 16
  pub refused_stale : stale current kind view ≡ true → first (keep_rows slots current sender kind view) ≡ 16
  refused_stale e = rw e

  -- else a frame kept at this view or a higher one gives 17
  pub refused_outdone : stale current kind view ≡ false → outdone (slots (frame_slot kind sender)) view ≡ true
      → first (keep_rows slots current sender kind view) ≡ 17
  refused_outdone e g = rw (e, g)

  -- else nothing is given, and the frame can be kept
  pub taken : stale current kind view ≡ false → outdone (slots (frame_slot kind sender)) view ≡ false
      → first (keep_rows slots current sender kind view) ≡ 0
  taken e g = rw (e, g)

module _ (r : Record) (kind plan : ℕ) where
  -- the own kept vote for another plan becomes the previous one
  pub shifted_moves : moves (own_slot r kind) kind plan ≡ true → shifted_slots r kind plan ≡ with_slot r (previous_slot kind) (own_slot r kind)
  unfolding shifted_slots
  shifted_moves e = rw e

  -- else the record stays as it is
  pub shifted_stays : moves (own_slot r kind) kind plan ≡ false → shifted_slots r kind plan ≡ r
  unfolding shifted_slots
  shifted_stays e = rw e

-- only vote-1 and vote-2 have a previous one
pub moves_kind : (slot : Report) (kind plan : ℕ) → moves slot kind plan ≡ true → (2 ≤ kind) × (kind ≤ 3)
unfolding moves
moves_kind slot kind plan e = bounds 2 3 kind (both (within 2 3 kind) (present slot && not (eqb slot.plan plan)) e).0
