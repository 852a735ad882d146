-- The entries that the bytes of an output say.
-- Assumes nothing.
use Rattle.std.specs.Prelude.{ℕ, zero, suc, cond, List, [], ◌∷◌, length, get_or, take, drop, eqb}
use Rattle.wire.specs.Digits.{number_at}
use Rattle.frame.specs.Format.{length_of, decode}
use Rattle.entry.specs.declared.Entry.{Entry}
use Rattle.entry.specs.declared.Entry.TheVariants.{ForAll, ForOne, Timer, Decision}

-- 'a recipient byte .. then the frame': the frame's bytes, as many as its kind has, in an entry at the start of some bytes
abbrev pub frame_in : List ℕ → List ℕ
frame_in s = take (length_of (get_or s 1 0)) (drop 1 s)

-- 'fe the host', '0b .. for a timer', '0a .. for a decision', 'ff all vaults, else a vault's number': the entry at the start of some bytes
unfoldable pub entry_at : List ℕ → Entry
entry_at s =
    cond (eqb (get_or s 0 0) 254)
    (cond (eqb (get_or s 1 0) 11) (Timer (number_at 4 s 2) (number_at 4 s 6)) (Decision (number_at 4 s 2) (number_at 8 s 6)))
    (cond (eqb (get_or s 0 0) 255) (ForAll (decode (frame_in s))) (ForOne (get_or s 0 0) (decode (frame_in s))))

-- How many bytes that entry takes.
unfoldable pub size_at : List ℕ → ℕ
size_at s = cond (eqb (get_or s 0 0) 254) (cond (eqb (get_or s 1 0) 11) 10 14) (suc (length_of (get_or s 1 0)))

-- 'Entries lie end to end': the entries of some bytes, at most a given number.
unfoldable pub entries_within : ℕ → List ℕ → List Entry
entries_within zero s = []
entries_within (suc more) s = cond (eqb (length s) 0) [] (entry_at s ∷ entries_within more (drop (size_at s) s))

-- The entries that the bytes of an output say; there are no more of them than bytes.
abbrev pub entries_of : List ℕ → List Entry
entries_of s = entries_within (length s) s
