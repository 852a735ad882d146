-- When a frame is refused against the record (refusals 16 and 17), and what the vault's own broadcasts leave in its own row.
-- Assumes nothing.
use Rattle.std.specs.Prelude.{ℕ, Bool, not, ◌&&◌, ◌||◌, cond, List, [], ◌∷◌, leb, ltb, eqb}
use Rattle.frame.specs.declared.Report.{Report}
use Rattle.frame.specs.declared.Frame.{Frame}
use Rattle.frame.specs.Format.{within}
use Rattle.frame.specs.Refusal.{Row, row, present}
use Rattle.record.specs.Slots.{Record, frame_slot, previous_slot, slot_of}
use Rattle.record.specs.inside.Slots.{with_slot}
use Rattle.record.specs.Kept.{plan_of}
use Rattle.record.specs.inside.Kept.{keep_frame}

-- 'view below current (kind 6: at or below)'
unfoldable pub stale : ℕ → ℕ → ℕ → Bool
stale current kind view = ltb view current || (eqb kind 6 && eqb view current)

-- 'same sender and kind kept at this view or a higher one': what stands in the place of the sender and the kind, against a view.
unfoldable pub outdone : Report → ℕ → Bool
outdone slot view = present slot && leb view slot.view

-- Refusals 16 and 17, the place 'against the record', for slots and a current view.
abbrev pub keep_rows : (ℕ → Report) → ℕ → ℕ → ℕ → ℕ → List Row
keep_rows slots current sender kind view =
    row 16 (stale current kind view)
    ∷ row 17 (outdone (slots (frame_slot kind sender)) view)
    ∷ []

-- 'Shifting highest to previous at each vote: a new vote for the same plan leaves previous alone': the kept vote-1 or vote-2
-- becomes the previous one only where it is for another plan than the new one.
unfoldable pub moves : Report → ℕ → ℕ → Bool
moves slot kind plan = within 2 3 kind && (present slot && not (eqb slot.plan plan))

-- The own kept frame of a kind.
abbrev pub own_slot : Record → ℕ → Report
own_slot r kind = slot_of r (frame_slot kind r.set.id)

-- The record with the own kept vote moved to the previous one, where a new vote of that kind for a plan moves it.
unfoldable pub shifted_slots : Record → ℕ → ℕ → Record
shifted_slots r kind plan = cond (moves (own_slot r kind) kind plan) (with_slot r (previous_slot kind) (own_slot r kind)) r

-- 'Its own broadcasts go into its own row', and the kept vote-1 or vote-2 for another plan becomes the previous one.
unfoldable pub own_broadcast : Record → Frame → Record
own_broadcast r f = keep_frame (shifted_slots r f.kind (plan_of f.body)) r.set.id f
