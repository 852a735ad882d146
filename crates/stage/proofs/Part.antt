-- Laws of `part`, some bytes of a stage: a byte of a part is a byte of the stage, and what lies behind the first bytes of a part is a part.
-- So the code reads a place, the liar and a record where they lie on the stage. They hold because a part is `take` of `drop`.
-- Assumes nothing.
use Prim.Native.Nat.{ℕ, zero, suc, ◌+◌, ◌-◌, ◌<◌, ◌≤◌}
use mathlib.Core.Path.{◌≡◌, ap, ◌∙◌}
use mathlib.Core.List.{List, [], ◌∷◌}
use native.Mathlib.Nat.{zero-add, suc-add}
use native.Mathlib.Numerals.{add-one}
use native.Mathlib.Omega.{arith}
use lib.ListN.{length, get_or, take, drop, set, length-drop}
use lib.Seq.{length-take-le, drop-drop, take-nil}
use Rattle.wire.specs.Fields.{Bytes}
use Rattle.record.proofs.Bytes.{byte_part}
use Rattle.wire.proofs.Output.{placed_one, bytes_take, bytes_drop}
use Rattle.stage.specs.Stage.{stage_size, part, liar_place, liar_in, with_liar}

-- A byte of a part is the byte of the stage, so much further on.
pub part_get : (at n i : ℕ) (s : List ℕ) → i < n → get_or (part at n s) i 0 ≡ get_or s (at + i) 0
unfolding part
part_get at n i s h = byte_part at n s i h

-- A part that lies on the stage is as long as it says.
pub length_part : (at n : ℕ) (s : List ℕ) → at + n ≤ length s → length (part at n s) ≡ n
unfolding part
length_part at n s h = length-take-le n (drop at s) (rw length-drop (omega arith))

-- A part of bytes is bytes.
pub bytes_part : (at n : ℕ) (s : List ℕ) → Bytes s → Bytes (part at n s)
unfolding part
bytes_part at n s b = bytes_take n (drop at s) (bytes_drop at s b)

-- A part as the code lends it, `&s[at..at + n]`.
pub part_lent : (at n : ℕ) (s : List ℕ) → take (at + n - at) (drop at s) ≡ part at n s
unfolding part
part_lent at n s = let size : at + n - at ≡ n = omega arith in rw size

-- What is left of the first bytes, without some.
drop_take : (m n : ℕ) (l : List ℕ) → drop m (take (m + n) l) ≡ take n (drop m l)
drop_take zero n l = rw zero-add
drop_take (suc m) n [] = rw (take-nil (suc m + n), take-nil n)
drop_take (suc m) n (x ∷ l) = rw suc-add (drop_take m n l)

-- What lies behind the first bytes of a part is a part.
pub drop_part : (at m n : ℕ) (s : List ℕ) → drop m (part at (m + n) s) ≡ part (at + m) n s
unfolding part
drop_part at m n s = drop_take m n (drop at s) ∙ ap (take n) (drop-drop m at s)

-- ---- the liar

-- The liar's byte is the one behind the places.
pub liar_byte : (s : List ℕ) → liar_in s ≡ get_or s liar_place 0
liar_byte s = part_get liar_place 1 0 s (omega arith)

-- One byte stored behind the places declares a vault.
pub liar_stored : (s : List ℕ) (v : ℕ) → length s ≡ stage_size → set s liar_place (v + 1) ≡ with_liar s v
liar_stored s v e = rw add-one (placed_one s liar_place (suc v) (omega arith))
