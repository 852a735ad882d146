-- Laws of the bytes that a text spells: 'not an even count of lower-case hex digits', or more than the limit. The loop that reads a text
-- keeps that the bytes read so far, with what the rest spells, are what the whole spells, and that the rest is all digits where the whole
-- is. So the first byte that is no digit decides, or the text's end.
-- Assumes nothing.
use Prim.Native.Nat.{ℕ, zero, suc, ◌+◌, ◌*◌, ◌/◌, ◌%◌, ◌≤◌, ◌<◌}
use mathlib.Core.Path.{◌≡◌, refl, sym, ap, subst, ◌∙◌}
use mathlib.Core.Bool.{Bool, true, false, not, ◌&&◌, ◌||◌, cond, or-true, or-false}
use mathlib.Core.List.{List, [], ◌∷◌, ◌++◌, append_assoc, append-nil}
use mathlib.Core.Option.{none, some}
use native.Mathlib.Decide.{dec_le}
use native.Mathlib.Omega.{arith}
use borrow.Author.Tests.{eq-eqb, ne_eqb, lt-ltb, le-ltb, ltb-true}
use lib.Dec.{ltb, eqb}
use lib.ListN.{length, get_or, take, drop, set, length-set, drop_of_length-le}
use lib.Seq.{drop-cons, take-suc-set, take_all, length-take-le}
use Rattle.wire.specs.Fields.{Bytes}
use Rattle.lines.specs.Digits.{value_of, all_digits, bad_line, spelled, bytes_of}

module _ (limit : ℕ) (text : List ℕ) where
  -- Beyond the limit nothing is spelled.
  pub long_spells_none : limit < length text → none ≡ bytes_of limit text
  unfolding bytes_of bad_line
  long_spells_none long = simp (lt-ltb limit (length text) long, or-true)

  -- Nor by an odd count of digits.
  pub odd_spells_none : (length text % 2 ≡ 0 → ⊥) → none ≡ bytes_of limit text
  unfolding bytes_of bad_line
  odd_spells_none odd = simp (ne_eqb (length text % 2) 0 odd)

  -- An even count within the limit: the digits decide.
  even_spells : length text % 2 ≡ 0 → length text ≤ limit → bytes_of limit text ≡ cond (all_digits text) (some (spelled text)) none
  unfolding bytes_of bad_line
  even_spells even short = simp (eq-eqb (length text % 2) 0 even, le-ltb limit (length text) short, or-false) (go (all_digits text))
    where
      go : (b : Bool) → cond (not b) none (some (spelled text)) ≡ cond b (some (spelled text)) none
      go true = refl
      go false = refl

-- What holds after i of count bytes.
pub record SpelledTo (limit : ℕ) (text bytes : List ℕ) (size count i : ℕ) : Type 0 where
  pub even : count * 2 ≡ length text
  pub short : length text ≤ limit
  pub few : count ≤ size
  pub at : i ≤ count
  pub same : length bytes ≡ size
  pub digits : all_digits (drop (2 * i) text) ≡ all_digits text
  pub spells : take i bytes ++ spelled (drop (2 * i) text) ≡ spelled text

-- The next two digits.
two_more : (text : List ℕ) (i : ℕ) → 2 * i + 1 < length text
    → drop (2 * i) text ≡ get_or text (2 * i) 0 ∷ get_or text (2 * i + 1) 0 ∷ drop (2 * (i + 1)) text
two_more text i room =
    let second : suc (2 * i) ≡ 2 * i + 1 = omega arith in
    let third : suc (2 * i + 1) ≡ 2 * (i + 1) = omega arith in
    drop-cons text (2 * i) 0 (omega arith)
    ∙ ap (λ (k : ℕ). get_or text (2 * i) 0 ∷ drop k text) second
    ∙ ap (λ (l : List ℕ). get_or text (2 * i) 0 ∷ l) (drop-cons text (2 * i + 1) 0 room)
    ∙ ap (λ (k : ℕ). get_or text (2 * i) 0 ∷ get_or text (2 * i + 1) 0 ∷ drop k text) third

module _ (limit : ℕ) (text bytes : List ℕ) (size count i : ℕ) (so : SpelledTo limit text bytes size count i) where
  -- Within the loop both are behind: the digits decide.
  even_here : bytes_of limit text ≡ cond (all_digits text) (some (spelled text)) none
  even_here = even_spells limit text (omega arith) so.short

  -- A byte that is no digit in the rest is one in the whole, so nothing is spelled.
  not_digits : all_digits (drop (2 * i) text) ≡ false → none ≡ bytes_of limit text
  not_digits bad = sym (even_here ∙ ap (λ (b : Bool). cond b (some (spelled text)) none) (sym so.digits ∙ bad))

  -- The next two digits' values.
  module _ (more : i < count) (high low : ℕ) (eh : high ≡ value_of (get_or text (2 * i) 0)) (el : low ≡ value_of (get_or text (2 * i + 1) 0)) where
    all_two : all_digits (drop (2 * i) text) ≡ (ltb high 16 && (ltb low 16 && all_digits (drop (2 * (i + 1)) text)))
    unfolding all_digits
    all_two = ap all_digits (two_more text i (omega arith)) ∙ rw (← eh, ← el)

    -- A byte that is no digit.
    pub high_spells_none : 15 < high → none ≡ bytes_of limit text
    high_spells_none bad = not_digits (all_two ∙ simp (le-ltb high 16 (omega arith)))

    pub low_spells_none : high ≤ 15 → 15 < low → none ≡ bytes_of limit text
    low_spells_none good bad = not_digits (all_two ∙ simp (lt-ltb high 16 (omega arith), le-ltb low 16 (omega arith)))

    -- One byte more.
    pub spelled_more : high ≤ 15 → low ≤ 15 → SpelledTo limit text (set bytes i (high * 16 + low)) size count (i + 1)
    unfolding spelled
    spelled_more gh gl =
        let b = high * 16 + low in
        let rest = drop (2 * (i + 1)) text in
        let next : i + 1 ≡ suc i = omega arith in
        let two : spelled (drop (2 * i) text) ≡ b ∷ spelled rest = ap spelled (two_more text i (omega arith)) ∙ rw (← eh, ← el) in
        let all : all_digits (drop (2 * i) text) ≡ all_digits rest = all_two ∙ simp (lt-ltb high 16 (omega arith), lt-ltb low 16 (omega arith)) in
        record {
          even = so.even;
          short = so.short;
          few = so.few;
          at = omega arith;
          same = length-set bytes i b ∙ so.same;
          digits = sym all ∙ so.digits;
          spells = ap (λ (k : ℕ). take k (set bytes i b) ++ spelled rest) next
              ∙ ap (λ (l : List ℕ). l ++ spelled rest) (take-suc-set bytes i b (omega arith))
              ∙ append_assoc (take i bytes) (b ∷ []) (spelled rest)
              ∙ ap (λ (l : List ℕ). take i bytes ++ l) (sym two)
              ∙ so.spells;
        }

  -- All are read.
  pub spelled_all : count ≤ i → some (take count bytes) ≡ bytes_of limit text
  unfolding all_digits spelled
  spelled_all done =
      let same : i ≡ count = omega arith in
      let rest : drop (2 * i) text ≡ [] = drop_of_length-le text {i = 2 * i} (omega arith) in
      let all : all_digits text ≡ true = sym so.digits ∙ ap all_digits rest in
      let here : take count bytes ≡ spelled text =
      sym (append-nil (take count bytes)) ∙ ap (λ (k : ℕ). take k bytes ++ []) (sym same)
      ∙ ap (λ (l : List ℕ). take i bytes ++ spelled l) (sym rest) ∙ so.spells in
      ap (λ (l : List ℕ). some l) here ∙ ap (λ (b : Bool). cond b (some (spelled text)) none) (sym all) ∙ sym even_here

-- None is read yet.
pub spelled_first : (limit : ℕ) (text bytes : List ℕ) (count : ℕ) → count ≡ length text / 2 → length text % 2 ≡ 0 → length text ≤ limit
    → limit ≤ 2 * length bytes → SpelledTo limit text bytes (length bytes) count 0
spelled_first limit text bytes count half even short size = record {
  even = omega arith;
  short = short;
  few = omega arith;
  at = omega arith;
  same = refl;
  digits = refl;
  spells = refl;
}

-- What is kept of a line spells what the line spells: of one that is longer, one byte beyond the limit is enough to give 20.
pub kept_spells : (limit : ℕ) (line : List ℕ) → bytes_of limit (take (suc limit) line) ≡ bytes_of limit line
kept_spells limit line = go (dec_le (length line) (suc limit))
  where
    go : Dec (length line ≤ suc limit) → bytes_of limit (take (suc limit) line) ≡ bytes_of limit line
    go (yes short) = ap (bytes_of limit) (take_all (suc limit) line short)
    go (no long) =
        sym (long_spells_none limit (take (suc limit) line) (omega (arith, length-take-le (suc limit) line (omega arith))))
        ∙ long_spells_none limit line (omega arith)

-- Two digits for each byte.
spelled_length : (text : List ℕ) → 2 * length (spelled text) ≤ length text
unfolding spelled
spelled_length [] = omega arith
spelled_length (high ∷ []) = omega arith
spelled_length (high ∷ low ∷ text) = omega (arith, spelled_length text)

-- So a line of bytes has two digits for each: a short line makes a short call.
pub spelled_short : (limit : ℕ) (text s : List ℕ) → bytes_of limit text ≡ some s → 2 * length s ≤ length text
unfolding bytes_of
spelled_short limit text s is = go (bad_line limit text) is
  where
    go : (b : Bool) → cond b none (some (spelled text)) ≡ some s → 2 * length s ≤ length text
    go true e = let z : ◌≡◌ {A = ℕ} 0 1 = cc in absurd (omega arith)
    go false e = let same : spelled text ≡ s = cc in subst (λ (l : List ℕ). 2 * length l ≤ length text) same (spelled_length text)

-- ---- what digits spell

-- Both of two tests hold.
both : (a b : Bool) → (a && b) ≡ true → (a ≡ true) × (b ≡ true)
both true b e = (refl, e)
both false b e = let z : ◌≡◌ {A = ℕ} 0 1 = cc in absurd (omega arith)

-- Two digits spell a byte, so all that they spell are bytes.
spelled_bytes : (text : List ℕ) → all_digits text ≡ true → Bytes (spelled text)
unfolding all_digits spelled
spelled_bytes [] all i = omega arith
spelled_bytes (high ∷ []) all i = omega arith
spelled_bytes (high ∷ low ∷ text) all i = go i (spelled_bytes text last.1)
  where
    first : (ltb (value_of high) 16 ≡ true) × (all_digits (low ∷ text) ≡ true)
    first = both (ltb (value_of high) 16) (all_digits (low ∷ text)) all

    last : (ltb (value_of low) 16 ≡ true) × (all_digits text ≡ true)
    last = both (ltb (value_of low) 16) (all_digits text) first.1

    go : (i : ℕ) → Bytes (spelled text) → get_or ((value_of high * 16 + value_of low) ∷ spelled text) i 0 < 256
    go zero rest = omega (arith, ltb-true (value_of high) 16 first.0, ltb-true (value_of low) 16 last.0)
    go (suc i) rest = rest i

-- What a line's text spells are bytes.
pub spelled_are_bytes : (limit : ℕ) (text s : List ℕ) → bytes_of limit text ≡ some s → Bytes s
unfolding bytes_of bad_line
spelled_are_bytes limit text s is = go (not (eqb (length text % 2) 0 && all_digits text) || ltb limit (length text)) refl is
  where
    go : (b : Bool) → (not (eqb (length text % 2) 0 && all_digits text) || ltb limit (length text)) ≡ b → cond b none (some (spelled text)) ≡ some s → Bytes s
    go true bad is = let z : ◌≡◌ {A = ℕ} 0 1 = cc in absurd (omega arith)
    go false fine is =
        let same : spelled text ≡ s = cc in
        subst Bytes same (spelled_bytes text (digits_all (eqb (length text % 2) 0) (all_digits text) (ltb limit (length text)) fine))
      where
        digits_all : (even all long : Bool) → (not (even && all) || long) ≡ false → all ≡ true
        digits_all true true long e = refl
        digits_all true false long e = let z : ◌≡◌ {A = ℕ} 0 1 = cc in absurd (omega arith)
        digits_all false all long e = let z : ◌≡◌ {A = ℕ} 0 1 = cc in absurd (omega arith)
