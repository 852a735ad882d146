-- What an act changes in a record, slot by slot, so that only that is put back (document 01, 'One pass').
-- Assumes nothing.
use Rattle.std.specs.Prelude.{ℕ, ◌+◌, ◌≤◌, ◌≡◌, ◌⊎◌, List}
use Rattle.record.specs.Slots.{Record, frame_slot, previous_slot, slot_of}
use Rattle.record.specs.Layout.{decode_record}
use Rattle.own.specs.Part.{over}
use Rattle.own.specs.inside.Own.{heard_in, Fitting}

-- Two records are the same but for some slots.
pub record SameBut (differs : ℕ → Type 0) (r t : Record) : Type 0 where
  pub set : t.set ≡ r.set
  pub view : t.view ≡ r.view
  pub plan : t.plan ≡ r.plan
  pub slots : (i : ℕ) → ¬ (differs i) → slot_of t i ≡ slot_of r i

-- The slot of the previous vote-k, for the votes that have one: 'its own previous vote-1 and vote-2'.
abbrev pub AtPrevious : ℕ → ℕ → Type 0
AtPrevious k i = (1 ≤ k) × (k ≤ 2) × (i ≡ previous_slot (k + 1))

-- What sending vote-k changes: the own slot of its kind, and that of the previous vote.
abbrev pub AtVote : ℕ → ℕ → ℕ → Type 0
AtVote id k i = (i ≡ frame_slot (k + 1) id) ⊎ AtPrevious k i

-- An own part that says of a record all but some slots.
pub record PartBut (differs : ℕ → Type 0) (rec : List ℕ) (id : ℕ) (s : List ℕ) : Type 0 where
  pub fits : Fitting rec id s
  pub same : SameBut differs (decode_record rec) (over (heard_in rec) s)
