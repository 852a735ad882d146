-- Output entries: their bytes, laid end to end.
-- Assumes nothing.
use Rattle.std.specs.Prelude.{ℕ, List, [], ◌∷◌, ◌++◌}
use Rattle.wire.specs.Fields.{Field, field, spell}
use Rattle.frame.specs.Format.{encode}
use Rattle.entry.specs.declared.Entry.{Entry}
use Rattle.entry.specs.declared.Entry.TheVariants.{ForAll, ForOne, Timer, Decision}

-- 'fe the host', then what it is told, the view (4) and a number: '0b, view (4), milliseconds (4)' or '0a, view (4), plan (8)'.
abbrev pub host_fields : ℕ → ℕ → ℕ → ℕ → List Field
host_fields code view width value = field 1 254 ∷ field 1 code ∷ field 4 view ∷ field width value ∷ []

-- 'a recipient byte (ff all vaults, else a vault's number, or fe the host), then the frame'
unfoldable pub entry_bytes : Entry → List ℕ
entry_bytes (ForAll f) = 255 ∷ encode f
entry_bytes (ForOne to f) = to ∷ encode f
entry_bytes (Timer view millis) = spell (host_fields 11 view 4 millis)
entry_bytes (Decision view plan) = spell (host_fields 10 view 8 plan)

-- 'Entries lie end to end'
abbrev pub layout : List Entry → List ℕ
layout [] = []
layout (e ∷ es) = entry_bytes e ++ layout es
