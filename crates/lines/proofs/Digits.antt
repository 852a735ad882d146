-- Laws of digits and lines: the value of each kind of byte ('lower-case hex digits'), and bytes put on the page digit by digit
-- ('Output digits are lower-case'). A byte is a decimal digit, a letter, or in one of the three gaps around them. A line may be put in
-- parts: the digits of its first bytes, and then the line of the others.
-- Assumes nothing.
use Prim.Native.Nat.{ℕ, suc, ◌+◌, ◌*◌, ◌-◌, ◌/◌, ◌%◌, ◌≤◌, ◌<◌}
use mathlib.Core.Path.{◌≡◌, refl, sym, ap, subst, ◌∙◌}
use mathlib.Core.Bool.{true, false}
use mathlib.Core.List.{List, [], ◌∷◌, ◌++◌, append-nil}
use native.Mathlib.Omega.{arith}
use borrow.Author.Tests.{lt-ltb, le-ltb, le-leb, lt-leb}
use lib.ListN.{length, get_or, set, drop, length-append, length-set, drop_of_length-le}
use lib.Seq.{drop-cons}
use Rattle.wire.specs.Placed.{placed}
use Rattle.wire.proofs.Output.{placed_none, placed_more, placed_one, placed_next}
use Rattle.lines.specs.Digits.{between, value_of, digit_of, line_of}
use Rattle.lines.specs.inside.Steps.{digits_of, OnPage}

module _ (low high b : ℕ) where
  -- A byte within the two bounds.
  inside : low ≤ b → b ≤ high → between low high b ≡ true
  unfolding between
  inside l h = simp (le-leb low b l, le-leb b high h)

  -- A byte below both.
  under : b < low → between low high b ≡ false
  unfolding between
  under h = simp (lt-leb low b h)

  -- A byte above both.
  over : low ≤ b → high < b → between low high b ≡ false
  unfolding between
  over l h = simp (le-leb low b l, lt-leb b high h)

module _ (b : ℕ) where
  -- The digits 0 to 9.
  pub value_decimal : 48 ≤ b → b ≤ 57 → value_of b ≡ b - 48
  unfolding value_of
  value_decimal l h = simp (inside 48 57 b l h)

  -- The letters a to f.
  pub value_letter : 97 ≤ b → b ≤ 102 → value_of b ≡ b - 87
  unfolding value_of
  value_letter l h = simp (over 48 57 b (omega arith) (omega arith), inside 97 102 b l h)

  -- Below 0: no digit.
  pub value_low : b < 48 → value_of b ≡ 16
  unfolding value_of
  value_low l = simp (under 48 57 b l, under 97 102 b (omega arith))

  -- Between 9 and a, upper-case letters too: no digit.
  pub value_between : 57 < b → b < 97 → value_of b ≡ 16
  unfolding value_of
  value_between l h = simp (over 48 57 b (omega arith) l, under 97 102 b h)

  -- Above f: no digit.
  pub value_high : 102 < b → value_of b ≡ 16
  unfolding value_of
  value_high l = simp (over 48 57 b (omega arith) (omega arith), over 97 102 b (omega arith) l)

  -- The digit of a value below 10.
  pub digit_decimal : b < 10 → digit_of b ≡ 48 + b
  unfolding digit_of
  digit_decimal h = simp (lt-ltb b 10 h)

  -- The digit of a value from 10 on.
  pub digit_letter : 10 ≤ b → digit_of b ≡ 87 + b
  unfolding digit_of
  digit_letter h = simp (le-ltb b 10 h)

-- ---- digits put on a page

-- Two digits stored, and the rest of them put after those.
pub digits_step : (page s : List ℕ) (to i : ℕ) → i < length s → to + 1 < length page
    → placed (set (set page to (digit_of (get_or s i 0 / 16))) (to + 1) (digit_of (get_or s i 0 % 16))) (to + 2) (digits_of (drop (i + 1) s))
    ≡ placed page to (digits_of (drop i s))
unfolding digits_of
digits_step page s to i h room =
    let b = get_or s i 0 in
    let p = set page to (digit_of (b / 16)) in
    let l : length p ≡ length page = length-set page to (digit_of (b / 16)) in
    let two : to + 2 ≡ to + 1 + 1 = omega arith in
    let next : i + 1 ≡ suc i = omega arith in
    rw (two, next, drop-cons s i 0 h)
    (placed_next p (to + 1) (digit_of (b % 16)) (digits_of (drop (suc i) s)) (omega arith)
    ∙ placed_next page to (digit_of (b / 16)) (digit_of (b % 16) ∷ digits_of (drop (suc i) s)) (omega arith))

-- No byte is left, and nothing more is put.
pub digits_done : (page s : List ℕ) (to i : ℕ) → length s ≤ i → page ≡ placed page to (digits_of (drop i s))
unfolding digits_of
digits_done page s to i h = rw (drop_of_length-le s {i = i} h) (sym (placed_none page to))

-- Two digits for each byte.
pub length_digits_of : (s : List ℕ) → length (digits_of s) ≡ 2 * length s
unfolding digits_of
length_digits_of [] = refl
length_digits_of (b ∷ s) = omega (arith, length_digits_of s)

-- Two digits for each byte, and the line's end.
pub length_line : (s : List ℕ) → length (line_of s) ≡ 2 * length s + 1
unfolding line_of
length_line [] = refl
length_line (b ∷ s) = omega (arith, length_line s)

-- ---- a line put in parts

-- A line of bytes in two parts: the digits of the first, and the line of the second.
pub line_after : (a b : List ℕ) → line_of (a ++ b) ≡ digits_of a ++ line_of b
unfolding digits_of line_of
line_after [] b = refl
line_after (x ∷ a) b = ap (λ (l : List ℕ). digit_of (x / 16) ∷ digit_of (x % 16) ∷ l) (line_after a b)

-- Digits put, and then a line put where they end, are the whole line put.
pub line_joined : (a b page : List ℕ) (at : ℕ) (page₁ : List ℕ) (mid : ℕ) (page₂ : List ℕ) (next : ℕ) → at ≤ length page
    → OnPage (digits_of a) page at page₁ mid → OnPage (line_of b) page₁ mid page₂ next → OnPage (line_of (a ++ b)) page at page₂ next
line_joined a b page at page₁ mid page₂ next room digits line = record {
  shown = line.shown
      ∙ (λ i. placed (digits.shown i) (digits.ends i) (line_of b))
      ∙ placed_more page at (digits_of a) (line_of b) room
      ∙ ap (placed page at) (sym (line_after a b));
  ends = omega (arith, line.ends, digits.ends, ap length (line_after a b), length-append (digits_of a) (line_of b));
}

-- Digits put, and then the line's end stored behind them, are the line put.
pub line_ended : (s page : List ℕ) (at : ℕ) (page₁ : List ℕ) (to : ℕ) → at ≤ length page → to < length page₁ → OnPage (digits_of s) page at page₁ to
    → OnPage (line_of s) page at (set page₁ to 10) (to + 1)
unfolding line_of
line_ended s page at page₁ to room more digits =
    subst (λ (l : List ℕ). OnPage (line_of l) page at (set page₁ to 10) (to + 1)) (append-nil s)
    (line_joined s [] page at page₁ to (set page₁ to 10) (to + 1) room digits (record { shown = placed_one page₁ to 10 more; ends = refl }))
