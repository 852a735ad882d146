-- Tables with an entry changed, and membership of a list.
-- Assumes nothing.
use Rattle.std.specs.Prelude.{ℕ, cond, ◌&&◌, eqb}
use mathlib.Core.List.{List, Memᴰ}
use Rattle.entry.specs.declared.Entry.{Entry}

-- A table with one entry changed.
abbrev pub put {ℓ} : {A : Type ℓ} → ℕ → A → (ℕ → A) → ℕ → A
put k x t j = cond (eqb k j) x (t j)

-- The same for a table of two arguments.
abbrev pub put₂ {ℓ} : {A : Type ℓ} → ℕ → ℕ → A → (ℕ → ℕ → A) → ℕ → ℕ → A
put₂ k i x t h j = cond (eqb k h && eqb i j) x (t h j)

-- An entry is one of those written.
infix 50 ◌∈◌
abbrev pub ◌∈◌ : Entry → List Entry → Type 0
◌∈◌ e es = Memᴰ e es
