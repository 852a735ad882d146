-- What a step writes and reads of itself.
-- Assumes nothing.
use Rattle.std.specs.Prelude.{ℕ, ◌≡◌, List, [], ◌∷◌}
use Rattle.frame.specs.declared.Report.{Report}
use Rattle.frame.specs.declared.Reports.{Reports}
use Rattle.frame.specs.declared.Frame.{Frame}
use Rattle.frame.specs.declared.Body.TheVariants.{Plan, Empty}
use Rattle.entry.specs.declared.Entry.{Entry}
use Rattle.entry.specs.declared.Entry.TheVariants.{ForAll, ForOne, Timer, Decision}
use Rattle.record.specs.Slots as slots
use Rattle.record.specs.Slots.{frame_slot, previous_slot, slot_of}
use Rattle.steps.specs.declared.Entries.{Entries}
use Rattle.steps.specs.declared.Entries.TheVariants.{Zero, Sent, Decided, Led, Followed}

-- 'Entries lie end to end': those that a step writes, in their order.
abbrev pub list_of : Entries → List Entry
list_of Zero = []
list_of (Sent f) = ForAll f ∷ []
list_of (Decided view plan) = Decision view plan ∷ []
list_of (Led view millis proof) = Timer view millis ∷ ForAll proof ∷ []
list_of (Followed view millis proof to suggest) = Timer view millis ∷ ForAll proof ∷ ForOne to suggest ∷ []

-- The frames of the code, whose sender is the own number: a view-change,
abbrev pub changes : ℕ → ℕ → Frame
changes id w = record { kind = 6; sender = id; view = w; body = Empty }

-- and a vote or a proposal.
abbrev pub votes : ℕ → ℕ → ℕ → ℕ → Frame
votes kind id view p = record { kind = kind; sender = id; view = view; body = Plan p }

-- 'reports highest vote-2, previous vote-2, highest vote-3': the slots that hold the own votes of a kind, and the lock of another.
abbrev pub own_reports : (ℕ → Report) → ℕ → ℕ → ℕ → Reports
own_reports slots id claim lock =
    record { highest = slots (frame_slot claim id); previous = slots (previous_slot claim); lock = slots (frame_slot lock id) }

-- Reports that are those of the own proof ('highest vote-1, previous vote-1, highest vote-4') and of the own suggest.
pub record OwnReports (r : slots.Record) (id : ℕ) (proof suggest : Reports) : Type 0 where
  pub proofs : proof ≡ own_reports (slot_of r) id 2 5
  pub suggests : suggest ≡ own_reports (slot_of r) id 3 4
