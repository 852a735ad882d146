-- Entries that can be written: what `EntriesReadBack` is of.
-- Assumes nothing.
use Rattle.std.specs.Prelude.{◌^◌, ◌<◌, List, [], ◌∷◌}
use Rattle.frame.specs.Valid.{Valid}
use Rattle.entry.specs.declared.Entry.{Entry}
use Rattle.entry.specs.declared.Entry.TheVariants.{ForAll, ForOne, Timer, Decision}

-- An entry that can be written: its frame is valid, its numbers fit their bytes, and a vault's number is none of the two other recipients.
abbrev pub ValidEntry : Entry → Type 0
ValidEntry (ForAll f) = Valid f
ValidEntry (ForOne to f) = (to < 254) × Valid f
ValidEntry (Timer view millis) = (view < 256 ^ 4) × (millis < 256 ^ 4)
ValidEntry (Decision view plan) = (view < 256 ^ 4) × (plan < 256 ^ 8)

-- All entries of a list can be written.
abbrev pub AllValid : List Entry → Type 0
AllValid [] = Unit {0}
AllValid (e ∷ es) = ValidEntry e × AllValid es
