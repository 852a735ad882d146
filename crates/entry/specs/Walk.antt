-- The entries of an output, one after the other: how many bytes the next one takes.
-- Assumes nothing.
use Rattle.std.specs.Prelude.{ℕ, ◌+◌, ◌≤◌, ◌<◌, ◌≡◌, cond, List, ◌∷◌, ◌++◌, eqb, leb, length, get_or, take, drop}
use Rattle.wire.specs.Fields.{Bytes}
use Rattle.frame.specs.Format.{length_of}
use Rattle.entry.specs.declared.Entry.{Entry}
use Rattle.entry.specs.Layout.{entry_bytes, layout}
use Rattle.entry.specs.Valid.{ValidEntry}

-- 'Host entries: 0b, view (4), milliseconds (4) for a timer; 0a, view (4), plan (8) for a decision': how many bytes, by the second one.
unfoldable pub host_size : ℕ → ℕ
host_size told = cond (eqb told 11) 10 (cond (eqb told 10) 14 0)

-- 'a recipient byte .., then the frame': how many bytes, by the frame's kind; 0 where there is no such kind.
unfoldable pub frame_size : ℕ → ℕ
frame_size kind = cond (eqb (length_of kind) 0) 0 (1 + length_of kind)

-- 'ff all vaults, else a vault's number, or fe the host': how many bytes an entry has, by its first two; 0 where none begins so.
unfoldable pub size_by : ℕ → ℕ → ℕ
size_by to next = cond (eqb to 254) (host_size next) (frame_size next)

-- The same by bytes that must be there.
abbrev pub size_here : List ℕ → ℕ
size_here s = size_by (get_or s 0 0) (get_or s 1 0)

-- How many bytes the entry at the start of some bytes takes; 0 where no whole entry stands there.
unfoldable pub size_in : List ℕ → ℕ
size_in s = cond (leb (size_here s) (length s)) (size_here s) 0

-- 'Entries lie end to end': who starts at 0, and goes on by what `size_in` gives, meets just the entries. Proved as `walks_entries` in
-- proofs/Walk.
pub record WalksEntries : Type 0 where
  -- Where an entry begins, its length is given.
  pub step : (before : List Entry) (e : Entry) (behind : List Entry) → ValidEntry e
      → size_in (drop (length (layout before)) (layout (before ++ (e ∷ behind)))) ≡ length (entry_bytes e)
  -- At the end, and beyond it, 0 is given.
  pub done : (s : List ℕ) (at : ℕ) → length s ≤ at → size_in (drop at s) ≡ 0
  -- Where it is not 0, of any bytes, just so many of them are an entry.
  pub only : (s : List ℕ) → Bytes s → 0 < size_in s → (e : Entry) × (ValidEntry e × (entry_bytes e ≡ take (size_in s) s))
