-- The worked cases of document 02, wish 5, by the definitions: four vaults, of which one may lie, each started with plan 7.
-- Assumes nothing.
use Rattle.std.specs.Prelude.{ℕ, ◌≡◌, cond, List, [], ◌∷◌, eqb}
use Rattle.frame.specs.declared.Report.{Report}
use Rattle.record.specs.Slots.{Record, frame_slot, empty_slot}
use Rattle.equivocation.specs.Named.{named}

-- A kept frame: kind, sender, view, plan.
pub record Kept : Type 0 where
  pub kind : ℕ
  pub sender : ℕ
  pub view : ℕ
  pub plan : ℕ

abbrev pub kept : ℕ → ℕ → ℕ → ℕ → Kept
kept kind sender view plan = record { kind = kind; sender = sender; view = view; plan = plan }

-- The slots that hold these frames, and nothing else.
unfoldable pub holding : List Kept → ℕ → Report
holding [] at = empty_slot
holding (x ∷ rest) at = cond (eqb at (frame_slot x.kind x.sender)) (record { mark = 1; view = x.view; plan = x.plan }) (holding rest at)

-- The record of vault id, in view 0.
abbrev pub record_of : ℕ → List Kept → Record
record_of id frames = record { set = record { n = 4; f = 1; id = id; class = 0 }; view = 0; plan = 7; slots = holding frames }

-- Vault 0, which leads view 0: its own proposal and vote-1, a vote-1 of 1, a vote-4 of 2.
abbrev pub a : Record
a = record_of 0 (kept 1 0 0 7 ∷ kept 2 0 0 7 ∷ kept 2 1 0 7 ∷ kept 5 2 3 1 ∷ [])

-- Vault 3: of 1 a vote-1 of the same view for plan 8, of 2 a vote-4 of another view.
abbrev pub b : Record
b = record_of 3 (kept 2 1 0 8 ∷ kept 5 2 4 2 ∷ [])

-- Vault 1: a vote-4 of 2, another proposal of 0, and its own vote-1 for that.
abbrev pub c : Record
c = record_of 1 (kept 5 2 3 9 ∷ kept 1 0 0 153 ∷ kept 2 1 0 153 ∷ [])

-- Two quorums of vote-4 in view 0: at vault 0 for plan 7, at vault 3 for plan 8.
abbrev pub e : Record
e = record_of 0 (kept 1 0 0 7 ∷ kept 2 0 0 7 ∷ kept 5 1 0 7 ∷ kept 5 2 0 7 ∷ kept 5 3 0 7 ∷ [])

abbrev pub g : Record
g = record_of 3 (kept 5 0 0 8 ∷ kept 5 1 0 8 ∷ kept 5 2 0 8 ∷ [])

-- Who is named. Proved as `worked_cases` in proofs/Examples.
pub record WorkedCases : Type 0 where
  -- One vault, by vote-1; the votes-4 of 2 are of two views.
  pub ab : named (a ∷ b ∷ []) ≡ 1 ∷ []
  -- Two, of which one by an own row; the two proposals of 0 don't count.
  pub ac : named (a ∷ c ∷ []) ≡ 1 ∷ 2 ∷ []
  -- The order and a third record change nothing.
  pub bac : named (b ∷ a ∷ c ∷ []) ≡ 1 ∷ 2 ∷ []
  -- The same record twice names nobody.
  pub aa : named (a ∷ a ∷ []) ≡ []
  -- Two quorums: n - 2f are named.
  pub eg : named (e ∷ g ∷ []) ≡ 1 ∷ 2 ∷ []
