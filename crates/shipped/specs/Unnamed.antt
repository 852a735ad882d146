-- Who keeps the rules is not named (document 02, wish 5, 'Name the vaults that spoke twice'): not by records of vaults that keep them, in runs as demand 3
-- means them, so where at most f break the rules. Nothing is said of runs in which more do.
-- Assumes nothing.
use Rattle.std.specs.Prelude.{ℕ, ◌<◌, ◌≡◌, true, length, get_or, take}
use mathlib.Core.List.{List, [], Memᴰ}
use Rattle.runs.specs.Runs.{Rules, Setting, Item, Run}
use Rattle.runs.specs.Votes.{Had}
use Rattle.equivocation.specs.Call.{handed_in}
use Rattle.equivocation.specs.Sentences.{Accepted}

-- 'Each one named has two such frames in the records handed in': where each record is one that a rule-keeping vault had at some moment of a run, no
-- rule-keeping vault's number is among the bytes written. Proved as `keepers_unnamed` and `keepers_unnamed_by_exports` in proofs/Unnamed.
abbrev pub KeepersUnnamed : Rules → Type 0
KeepersUnnamed keeps_rules = (c : Setting) (l : List Item) → Run c keeps_rules l
    → (records lengths out left : List ℕ) (count s : ℕ) → Accepted records lengths out count left
    → ((i : ℕ) → i < length lengths → Had c l (get_or (handed_in lengths records) i []))
    → c.keeps s ≡ true → ¬ Memᴰ s (take count left)
