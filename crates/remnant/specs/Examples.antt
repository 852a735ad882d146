-- The remnant of vault 2 of four, and what a restart makes of it, by the definitions (document 02, wish 6).
-- Assumes nothing.
use Rattle.std.specs.Prelude.{ℕ, ◌≡◌, cond, [], ◌∷◌, eqb, length, take, drop}
use Rattle.frame.specs.declared.Report.{Report}
use Rattle.record.specs.Slots.{Record, frame_slot, previous_slot, decision_slot, empty_slot}
use Rattle.own.specs.Part.{remnant_of, own_slot, restored}

-- A kept vote, and another of an earlier view.
abbrev pub vote : Report
vote = record { mark = 1; view = 3; plan = 7 }

abbrev pub earlier : Report
earlier = record { mark = 1; view = 2; plan = 9 }

-- It keeps its own vote-1 of view 3 for plan 7 and that of vault 1; its own vote-1 before was for plan 9.
unfoldable pub slots : ℕ → Report
slots i = cond (eqb i (frame_slot 2 2)) vote (cond (eqb i (frame_slot 2 1)) vote (cond (eqb i (previous_slot 2)) earlier empty_slot))

abbrev pub kept : Record
kept = record { set = record { n = 4; f = 1; id = 2; class = 0 }; view = 3; plan = 7; slots = slots }

-- Proved as `worked_cases` in proofs/Examples.
pub record WorkedCases : Type 0 where
  -- 'settings, starting plan, current view' stand first.
  pub head : take 16 (remnant_of kept) ≡ 4 ∷ 1 ∷ 2 ∷ 0 ∷ 0 ∷ 0 ∷ 0 ∷ 3 ∷ 0 ∷ 0 ∷ 0 ∷ 0 ∷ 0 ∷ 0 ∷ 0 ∷ 7 ∷ []
  -- The own vote-1 is the second slot behind them.
  pub own : take 13 (drop 29 (remnant_of kept)) ≡ 1 ∷ 0 ∷ 0 ∷ 0 ∷ 3 ∷ 0 ∷ 0 ∷ 0 ∷ 0 ∷ 0 ∷ 0 ∷ 0 ∷ 7 ∷ []
  -- 237 bytes in all.
  pub size : length (remnant_of kept) ≡ 237
  -- The last slot is the decision.
  pub last : own_slot 2 16 ≡ decision_slot
  -- The own vote-1 and the previous one come back, that of vault 1 does not.
  pub back : (restored (remnant_of kept)).slots (frame_slot 2 2) ≡ vote
  pub before : (restored (remnant_of kept)).slots (previous_slot 2) ≡ earlier
  pub gone : (restored (remnant_of kept)).slots (frame_slot 2 1) ≡ empty_slot
  -- 'current view' comes back.
  pub view : (restored (remnant_of kept)).view ≡ 3
