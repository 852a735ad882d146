-- Nothing is vacuous: runs over bytes in which vaults decide, some after restarts (document 01, 'Runs, as demand 3 means them'). Proved in proofs/Shown.
-- Assumes nothing.
use Rattle.std.specs.Prelude.{ℕ, ◌<◌, ◌≡◌, true, not, List, ◌∷◌, eqb}
use Rattle.std.proofs.Math.Option.{some}
use Rattle.rules.specs.Sets.{Set, equals}
use Rattle.frame.specs.declared.Body.TheVariants.{Plan}
use Rattle.frame.specs.declared.Frame.{Frame}
use Rattle.entry.specs.declared.Entry.TheVariants.{Decision}
use Rattle.protocol.specs.Tables.{◌∈◌}
use Rattle.contents.specs.Contents.{contents_in}
use Rattle.contents.specs.Left.{wrote}
use Rattle.runs.specs.Runs.{returned, Item, Setting, record_at, written, Run}
use Rattle.runs.specs.Five.{Fixed}

-- A run of four vaults of which one may break the rules: n = 4, f = 1. Those of the set keep them, 'as this paper fixes'.
pub record Shown (keeps : Set) : Type 0 where
  pub setting : Setting
  pub four : setting.vaults ≡ equals 4 1
  pub rules : setting.keeps ≡ keeps
  pub calls : List Item
  pub run : Run setting Fixed calls

module _ {keeps : Set} (s : Shown keeps) where
  -- 'A vault decides p where an accepted call at it writes the host entry 0a with plan p': vault i, in view v.
  abbrev pub DecidesIn : ℕ → ℕ → ℕ → Type 0
  DecidesIn v i p = Decision v p ∈ written s.calls i

  -- Vault i's record keeps the frame in the row of its sender.
  abbrev pub KeepsFrame : ℕ → Frame → Type 0
  KeepsFrame i x = (contents_in (record_at s.setting s.calls i)).kept x.kind x.sender ≡ some x

-- All four keep the rules, and decide in view 0.
abbrev pub AllDecide : Type 0
AllDecide = (s : Shown (λ i. true)) × ((i : ℕ) → i < 4 → DecidesIn s 0 i 7)

-- Vote-1 of vault 3 for plan p, in view 0.
abbrev pub vote_of3 : ℕ → Frame
vote_of3 p = record { kind = 2; sender = 3; view = 0; body = Plan p }

-- Vault 3 lies: its vote-1 in view 0 is for plan 7 at vault 0, and for plan 9 at vault 2. The others decide all the same.
abbrev pub OneLies : Type 0
OneLies = (s : Shown (λ i. not (eqb i 3))) × (KeepsFrame s 0 (vote_of3 7) × (KeepsFrame s 2 (vote_of3 9) × ((i : ℕ) → i < 3 → DecidesIn s 0 i 7)))

-- All four keep the rules, and decide in view 1.
abbrev pub LaterDecide : Type 0
LaterDecide = (s : Shown (λ i. true)) × ((i : ℕ) → i < 4 → DecidesIn s 1 i 7)

-- An accepted restart at vault i, some time in the list.
pub data Restarts (i : ℕ) : List Item → Type 0 where
  here : {l : List Item} {x : Item} {out rec out' : List ℕ} {count : ℕ} → x.at ≡ i → x.event ≡ returned out (wrote count rec out') → Restarts i (x ∷ l)
  before : {l : List Item} {x : Item} → Restarts i l → Restarts i (x ∷ l)

-- 'Come back after a power cut' (document 02, wish 6): all four keep the rules, vaults 0 and 3 are cut off and restart, and three decide, vault 0 one of
-- them.
abbrev pub ReturnedDecide : Type 0
ReturnedDecide = (s : Shown (λ i. true)) × (Restarts 0 s.calls × (Restarts 3 s.calls × ((i : ℕ) → i < 3 → DecidesIn s 0 i 7)))
