-- The stage of a rehearsal (document 02, wish 2): 'A program holds 4 vaults, numbers 0 to 3 .., and up to 256 frames on their way.' It is a
-- string of bytes: 256 places for frames, a byte for the liar, four records. The layout is the program's choice; a stage of zeros is empty.
-- Assumes nothing.
use Rattle.std.specs.Prelude.{ℕ, zero, suc, ◌+◌, ◌-◌, ◌*◌, Bool, cond, List, [], ◌∷◌, eqb, length, get_or, take, drop, replicate}
use Rattle.std.proofs.Math.Option.{Option, none, some}
use Rattle.wire.specs.Placed.{placed}
use Rattle.record.specs.Size.{record_size}

-- ---- where things lie

-- 'up to 256 frames on their way'
abbrev pub place_count : ℕ
place_count = 256

-- A place holds one more than its frame's length (0 where no frame waits), the writer, the recipient byte, and up to 45 bytes.
abbrev pub place_size : ℕ
place_size = 48

-- Where place k begins.
abbrev pub place_of : ℕ → ℕ
place_of k = place_size * k

-- Where the liar stands, behind the places: one more than its number, 0 where none is declared.
abbrev pub liar_place : ℕ
liar_place = 12288

-- Where the record of vault v begins, behind the liar.
abbrev pub record_place : ℕ → ℕ
record_place v = 12289 + record_size * v

-- 'A program holds 4 vaults'.
abbrev pub stage_size : ℕ
stage_size = record_place 4

-- All is zero at first: no frame waits, nobody is declared, and the records are blank.
abbrev pub empty_stage : List ℕ
empty_stage = replicate stage_size 0

-- Some bytes of a stage, from a place on.
unfoldable pub part : ℕ → ℕ → List ℕ → List ℕ
part at size s = take size (drop at s)

-- ---- the records

-- The record of vault v.
abbrev pub record_of : List ℕ → ℕ → List ℕ
record_of s v = part (record_place v) record_size s

-- The stage with another record of vault v.
abbrev pub with_record : List ℕ → ℕ → List ℕ → List ℕ
with_record s v rec = placed s (record_place v) rec

-- ---- the liar

-- The byte of the liar.
abbrev pub liar_in : List ℕ → ℕ
liar_in s = get_or (part liar_place 1 s) 0 0

-- '03 declare a vault lying': vault v is the one.
abbrev pub is_liar : List ℕ → ℕ → Bool
is_liar s v = eqb (liar_in s) (suc v)

-- The stage with vault v declared.
abbrev pub with_liar : List ℕ → ℕ → List ℕ
with_liar s v = placed s liar_place (suc v ∷ [])

-- ---- the places

-- A frame on its way: the vault that wrote it, the recipient byte, its bytes.
pub record Waiting : Type 0 where
  pub writer : ℕ
  pub to : ℕ
  pub bytes : List ℕ

-- Its bytes in a place.
unfoldable pub waiting_bytes : Waiting → List ℕ
waiting_bytes w = suc (length w.bytes) ∷ w.writer ∷ w.to ∷ w.bytes

-- The frame that the bytes of a place say.
unfoldable pub waiting_in : List ℕ → Waiting
waiting_in p = record { writer = get_or p 1 0; to = get_or p 2 0; bytes = take (get_or p 0 0 - 1) (drop 3 p) }

-- No frame waits at number k.
unfoldable pub is_free : List ℕ → ℕ → Bool
is_free s k = eqb (get_or (part (place_of k) place_size s) 0 0) 0

-- The frame that waits at number k.
unfoldable pub waiting_at : List ℕ → ℕ → Option Waiting
waiting_at s k = cond (is_free s k) none (some (waiting_in (part (place_of k) place_size s)))

-- The stage with a frame at number k.
abbrev pub with_waiting : List ℕ → ℕ → Waiting → List ℕ
with_waiting s k w = placed s (place_of k) (waiting_bytes w)

-- 'a dropped one frees its number'
abbrev pub with_free : List ℕ → ℕ → List ℕ
with_free s k = placed s (place_of k) (0 ∷ [])

-- The smallest free number of the so many from k on; the number behind them where none is free.
unfoldable pub free_from : List ℕ → ℕ → ℕ → ℕ
free_from s k zero = k
free_from s k (suc more) = cond (is_free s k) k (free_from s (suc k) more)

-- 'a new frame gets the smallest free one'; 256 'where 256 wait' (`SmallestFree` in Sentences).
abbrev pub first_free : List ℕ → ℕ
first_free s = free_from s 0 place_count
