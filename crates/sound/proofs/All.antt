-- Laws of `all`, a test of every number below a bound: one more, in two parts, by another test that agrees, of two tests at once,
-- and in pieces of w. And a number of w digits is 0 just where its digits are.
-- Assumes nothing.
use Prim.Native.Nat.{ℕ, zero, suc, ◌+◌, ◌*◌, ◌<◌, max}
use mathlib.Core.Path.{◌≡◌, refl, ap, sym, ◌∙◌}
use mathlib.Core.Logic.{⊎_elim}
use mathlib.Core.Bool.{Bool, true, false, ◌&&◌}
use mathlib.Core.List.{List}
use native.Mathlib.Nat.{add-zero, add-suc, mul-suc, mul-zero, le_of_suc-le-suc, not-suc-le-zero, eq-or-lt_of_le}
use native.Mathlib.Numerals.{add-one}
use native.Mathlib.Omega.{arith}
use borrow.Author.Tests.{eq-eqb, ne_eqb, eqb-true, eqb-false}
use lib.Dec.{eqb}
use lib.ListN.{get_or}
use Rattle.wire.specs.Digits.{number_at}
use Rattle.frame.proofs.Laws.{both}
use Rattle.sound.specs.inside.Sound.{all}

-- three tests, bracketed the other way
and_assoc : (a b c : Bool) → ((a && b) && c) ≡ (a && (b && c))
and_assoc true b c = refl
and_assoc false b c = refl

-- two pairs of tests, paired the other way
and_swap : (a b c d : Bool) → ((a && b) && (c && d)) ≡ ((a && c) && (b && d))
and_swap true true c d = refl
and_swap true false true d = refl
and_swap true false false d = refl
and_swap false b c d = refl

-- a test that holds may be left out
pub and_true : (b : Bool) → (b && true) ≡ b
and_true true = refl
and_true false = refl

-- a test that fails decides
pub and_false : (b : Bool) → (b && false) ≡ false
and_false true = refl
and_false false = refl

-- one number more
pub all_one : (f : ℕ → Bool) (n : ℕ) → all f (n + 1) ≡ (all f n && f n)
unfolding all
all_one f n = rw add-one

-- tests that agree below n give the same
pub all_same : (f g : ℕ → Bool) (n : ℕ) → ((i : ℕ) → i < n → f i ≡ g i) → all f n ≡ all g n
unfolding all
all_same f g zero h = refl
all_same f g (suc n) h =
    let e = all_same f g n (λ i k. h i (omega arith)) in
    let e₁ = h n (omega arith) in
    λ i. e i && e₁ i

-- all of m + k are the first m and the k behind them
pub all_split : (f : ℕ → Bool) (m k : ℕ) → all f (m + k) ≡ (all f m && all (λ i. f (m + i)) k)
unfolding all
all_split f m zero = rw add-zero (sym (and_true (all f m)))
all_split f m (suc k) = rw (add-suc, all_split f m k) (and_assoc (all f m) (all (λ i. f (m + i)) k) (f (m + k)))

-- two tests of each number, one after the other
pub all_both : (f g : ℕ → Bool) (n : ℕ) → all (λ i. f i && g i) n ≡ (all f n && all g n)
unfolding all
all_both f g zero = refl
all_both f g (suc n) = rw (all_both f g n) (and_swap (all f n) (all g n) (f n) (g n))

-- what holds of all holds of each
pub all_at : (f : ℕ → Bool) (n i : ℕ) → all f n ≡ true → i < n → f i ≡ true
unfolding all
all_at f zero i e h = absurd (not-suc-le-zero h)
all_at f (suc n) i e h =
    let b = both (all f n) (f n) e in
    ⊎_elim (λ (s : i ≡ n). ap f s ∙ b.1) (λ (k : i < n). all_at f n i b.0 k) (eq-or-lt_of_le (le_of_suc-le-suc h))

-- n pieces of w
pub all_pieces : (f : ℕ → Bool) (w n : ℕ) → all (λ i. all (λ j. f (w * i + j)) w) n ≡ all f (w * n)
unfolding all
all_pieces f w zero = rw mul-zero
all_pieces f w (suc n) = rw (all_pieces f w n, mul-suc) (sym (all_split f (w * n) w))

-- one more digit
step : (m d : ℕ) → eqb (m * 256 + d) 0 ≡ (eqb m 0 && eqb d 0)
step m d = go (eqb m 0) refl (eqb d 0) refl
  where
    go : (a : Bool) → eqb m 0 ≡ a → (b : Bool) → eqb d 0 ≡ b → eqb (m * 256 + d) 0 ≡ (a && b)
    go true p true q = eq-eqb (m * 256 + d) 0 (let x = eqb-true m 0 p in let y = eqb-true d 0 q in omega arith)
    go true p false q = ne_eqb (m * 256 + d) 0 (λ (e : m * 256 + d ≡ 0). let y : d ≡ 0 = omega arith in eqb-false d 0 q y)
    go false p b q = ne_eqb (m * 256 + d) 0 (λ (e : m * 256 + d ≡ 0). let y : m ≡ 0 = omega arith in eqb-false m 0 p y)

-- a number is 0 just where each of its bytes is, so an absent slot is zero bytes
pub number_zero : (w : ℕ) (s : List ℕ) (at : ℕ) → eqb (number_at w s at) 0 ≡ all (λ j. eqb (get_or s (at + j) 0) 0) w
unfolding number_at all
number_zero zero s at = refl
number_zero (suc w) s at = step (number_at w s at) (get_or s (at + w) 0) ∙ ap (λ (b : Bool). b && eqb (get_or s (at + w) 0) 0) (number_zero w s at)

-- the larger of two is 0 just where both are
pub larger : (a b : ℕ) → eqb (max a b) 0 ≡ (eqb a 0 && eqb b 0)
larger a b = go (eqb a 0) refl (eqb b 0) refl
  where
    go : (x : Bool) → eqb a 0 ≡ x → (y : Bool) → eqb b 0 ≡ y → eqb (max a b) 0 ≡ (x && y)
    go true p true q = eq-eqb (max a b) 0 (let x = eqb-true a 0 p in let y = eqb-true b 0 q in omega arith)
    go true p false q = ne_eqb (max a b) 0 (λ (e : max a b ≡ 0). let y : b ≡ 0 = omega arith in eqb-false b 0 q y)
    go false p y q = ne_eqb (max a b) 0 (λ (e : max a b ≡ 0). let x : a ≡ 0 = omega arith in eqb-false a 0 p x)
