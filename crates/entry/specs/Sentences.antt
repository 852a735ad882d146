-- Outputs and their entries determine each other.
-- Assumes nothing.
use Rattle.std.specs.Prelude.{◌≡◌, List}
use Rattle.entry.specs.declared.Entry.{Entry}
use Rattle.entry.specs.Layout.{layout}
use Rattle.entry.specs.Valid.{AllValid}
use Rattle.entry.specs.Reading.{entries_of}

-- 'Entries lie end to end: a recipient byte (ff all vaults, else a vault's number, or fe the host), then the frame': an output reads as the
-- entries that were written. Proved as `entries_read_back` in proofs/Theorems.
abbrev pub EntriesReadBack : Type 0
EntriesReadBack = (es : List Entry) → AllValid es → entries_of (layout es) ≡ es

-- And no other entries have the same bytes. Proved as `entries_unique` in proofs/Theorems.
abbrev pub EntriesUnique : Type 0
EntriesUnique = (es fs : List Entry) → AllValid es → AllValid fs → layout es ≡ layout fs → es ≡ fs
