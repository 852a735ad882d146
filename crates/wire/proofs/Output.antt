-- Laws of output: 'Entries lie end to end' and 'bytes beyond it keep their contents' (01, Refusals). Bytes put at a place and
-- more put where they end are the two pieces put at once (`placed_more`); a rest of the output that was lent, written at its
-- start and given back, is the output written at that place (`placed_lent`). All hold because the bytes before a place, at it and
-- beyond it are three parts of one list.
-- Assumes nothing.
use mathlib.Core.Path.{◌≡◌, sym, ap, ◌∙◌}
use mathlib.Core.List.{List, [], ◌∷◌, ◌++◌, append_assoc, append-nil}
use Prim.Native.Nat.{ℕ, zero, suc, ◌+◌, ◌/◌, ◌%◌, ◌-◌, ◌<◌, ◌≤◌}
use native.Mathlib.Nat.{add-zero, zero-add, add-suc, suc-add, add_assoc, not-suc-le-zero}
use native.Mathlib.Numerals.{add-one, sub-one}
use native.Mathlib.Omega.{arith}
use lib.ListN.{length, take, drop, set, length-append, length-drop, take-append-drop, drop_of_length-le}
use lib.Seq.{sets, set_comm, set_split, length-take-le, length-sets, take_all, take_at, drop_at, drop-drop, sets-eq, get_or-drop}
use Rattle.wire.specs.Digits.{digits}
use Rattle.wire.specs.Fields.{Field, field, spell, Bytes}
use Rattle.wire.specs.inside.Widths.{widths, total_width}
use Rattle.wire.specs.Placed.{placed}
use Rattle.wire.proofs.Laws.{length_digits, length_spell, spell_append, bytes_append}

-- nothing put is nothing changed
pub placed_none : (o : List ℕ) (at : ℕ) → placed o at [] ≡ o
unfolding placed
placed_none o at = rw add-zero (take-append-drop at o)

-- bytes stored one by one
pub placed_sets : (o : List ℕ) (at : ℕ) (a : List ℕ) → at + length a ≤ length o → sets o at a ≡ placed o at a
unfolding placed
placed_sets o at a h = sets-eq a o at h ∙ append_assoc (take at o) a (drop (at + length a) o)

-- bytes put where there is room leave the length as it was
pub length_placed : (o : List ℕ) (at : ℕ) (a : List ℕ) → at + length a ≤ length o → length (placed o at a) ≡ length o
length_placed o at a h = rw (← placed_sets o at a h) (length-sets o at a)

-- some first bytes of bytes are bytes
pub bytes_take : (n : ℕ) (s : List ℕ) → Bytes s → Bytes (take n s)
bytes_take zero s b i = omega arith
bytes_take (suc n) [] b i = omega arith
bytes_take (suc n) (x ∷ s) b zero = b zero
bytes_take (suc n) (x ∷ s) b (suc i) = bytes_take n s (λ j. b (suc j)) i

-- so are those behind them
pub bytes_drop : (n : ℕ) (s : List ℕ) → Bytes s → Bytes (drop n s)
bytes_drop n s b i = rw get_or-drop (b (n + i))

-- bytes put over bytes leave bytes
pub bytes_placed : (o : List ℕ) (at : ℕ) (a : List ℕ) → Bytes o → Bytes a → Bytes (placed o at a)
unfolding placed
bytes_placed o at a b c =
    bytes_append (take at o) (a ++ drop (at + length a) o) (bytes_take at o b)
    (bytes_append a (drop (at + length a) o) c (bytes_drop (at + length a) o b))

-- two pieces end to end are one
pub placed_more : (o : List ℕ) (at : ℕ) (a b : List ℕ) → at ≤ length o → placed (placed o at a) (at + length a) b ≡ placed o at (a ++ b)
unfolding placed
placed_more o at a b h =
    let k : length (take at o ++ a) ≡ at + length a = length-append (take at o) a ∙ ap (λ (m : ℕ). m + length a) (length-take-le at o h) in
    rw (
      ← append_assoc (take at o) a (drop (at + length a) o),
      take_at (take at o ++ a) (drop (at + length a) o) (at + length a) k,
      ← drop-drop (length b) (at + length a) ((take at o ++ a) ++ drop (at + length a) o),
      drop_at (take at o ++ a) (drop (at + length a) o) (at + length a) k,
      drop-drop,
      length-append,
      append_assoc (take at o) a (b ++ drop (at + length a + length b) o),
      append_assoc a b,
      add_assoc,
    )

-- one byte stored
pub placed_one : (o : List ℕ) (at v : ℕ) → at < length o → set o at v ≡ placed o at (v ∷ [])
unfolding placed
placed_one o at v h = rw add-one (set_split o at v h)

-- one byte stored, and more put after it
pub placed_next : (o : List ℕ) (at v : ℕ) (a : List ℕ) → at < length o → placed (set o at v) (at + 1) a ≡ placed o at (v ∷ a)
placed_next o at v a h = rw (placed_one o at v h) (placed_more o at (v ∷ []) a (omega arith))

-- a rest that was lent, written at its start and given back
pub placed_lent : (o : List ℕ) (at : ℕ) (a : List ℕ) → at + length a ≤ length o
    → take at o ++ (placed (take (length o - at) (drop at o)) 0 a ++ drop (length o - at) (drop at o)) ≡ placed o at a
unfolding placed
placed_lent o at a h =
    let k : length (drop at o) ≤ length o - at = rw length-drop (omega arith) in
    rw (take_all (length o - at) (drop at o) k, drop_of_length-le (drop at o) {i = length o - at} k, append-nil, zero-add, drop-drop)

-- fields put one after the other
abbrev pub puts : List ℕ → ℕ → List Field → List ℕ
puts o at [] = o
puts o at (field w v ∷ fs) = puts (placed o at (digits w v)) (at + w) fs

-- fields put one after the other are their spelling put at once
pub puts_spell : (fs : List Field) (o : List ℕ) (at : ℕ) → at + total_width (widths fs) ≤ length o → puts o at fs ≡ placed o at (spell fs)
puts_spell [] o at h = sym (placed_none o at)
puts_spell (field w v ∷ fs) o at h =
    let room : at + length (digits w v) ≤ length o = rw length_digits (omega arith) in
    let left : at + w + total_width (widths fs) ≤ length (placed o at (digits w v)) = rw (length_placed o at (digits w v) room) (omega arith) in
    puts_spell fs (placed o at (digits w v)) (at + w) left
    ∙ (ap (λ (n : ℕ). placed (placed o at (digits w v)) (at + n) (spell fs)) (sym (length_digits w v)) ∙ placed_more o at (digits w v) (spell fs) (omega arith))

-- fields put in two parts
pub placed_spell : (fs gs : List Field) (o : List ℕ) (at : ℕ) → at ≤ length o
    → placed (placed o at (spell fs)) (at + total_width (widths fs)) (spell gs) ≡ placed o at (spell (fs ++ gs))
placed_spell fs gs o at h = rw (spell_append, ← length_spell fs) (placed_more o at (spell fs) (spell gs) h)

-- the last of a run of stores can be made first
sets_last : (vs l : List ℕ) (i v : ℕ) → sets l i (vs ++ (v ∷ [])) ≡ sets (set l (i + length vs) v) i vs
sets_last [] l i v = rw add-zero
sets_last (x ∷ vs) l i v =
    sets_last vs (set l i x) (suc i) v
    ∙ rw (set_comm l i (suc i + length vs) x v (omega arith), suc-add, add-suc)

-- one turn of the loop that stores digits from the last to the first
pub put_step : (i n at : ℕ) (out : List ℕ) → zero < i
    → sets (set out (at + (i - 1)) (n % 256)) at (digits (i - 1) (n / 256)) ≡ sets out at (digits i n)
unfolding digits
put_step zero n at out h = absurd (not-suc-le-zero h)
put_step (suc j) n at out h = rw sub-one (sym (sets_last (digits j (n / 256)) out at (n % 256) ∙ rw length_digits))
