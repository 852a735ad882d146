-- A list without cuts is document 01's run: what document 02's wish 6 asks of a start besides, that nothing is stored, is so there by itself.
-- Assumes nothing.
use Rattle.std.specs.Prelude.{ℕ, ◌≡◌, List, [], ◌∷◌}
use Rattle.std.proofs.Math.Option.{none}
use Rattle.runs.specs.Runs.{Rules, Event, made, cut_in, cut, returned, Item, stored_at, IsBlank, Setting, record_at, Run}

-- A call made.
abbrev pub IsMade : Event → Type 0
IsMade (made a out left remnant) = Unit {0}
IsMade (cut_in a out left blank) = ⊥
IsMade (cut blank) = ⊥
IsMade (returned out left) = ⊥

-- 'Each item is one start, frame or timer call', and none is cut.
abbrev pub Uncut : List Item → Type 0
Uncut [] = Unit {0}
Uncut (x ∷ l) = IsMade x.event × Uncut l

-- Where a vault's record is blank, as an accepted start asks, nothing is stored. Proved as `uncut_by` in proofs/Uncut.
abbrev pub BlankStoresNone : Rules → Type 0
BlankStoresNone keeps_rules =
    (c : Setting) (l : List Item) → Run c keeps_rules l → Uncut l → (i : ℕ) → IsBlank (record_at c l i) → stored_at l i ≡ none
