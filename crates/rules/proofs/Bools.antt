-- What a computed test says: taking `&&`, `||` and `any_below` apart and putting them together.
-- Facts on a vault or a report are `test ≡ true`; these lemmas are all that proofs need of Bool.
-- Assumes nothing.
use Prim.Native.Nat.{ℕ, zero, suc, ◌<◌}
use mathlib.Core.Path.{◌≡◌, refl, sym, ◌∙◌}
use mathlib.Core.Bool.{Bool, true, false, ◌&&◌, ◌||◌, false≢true}
use mathlib.Core.Logic.{◌⊎◌, inl, inr}
use native.Mathlib.Omega.{arith}
use native.Mathlib.Decide.{dec_lt}
use Rattle.rules.specs.inside.Bools.{any_below}

-- Cases on a test that keep the equation.
pub which : (b : Bool) → (b ≡ true) ⊎ (b ≡ false)
which true = inl refl
which false = inr refl

-- A test that is both is no test.
pub clash : {b : Bool} → b ≡ true → b ≡ false → ⊥
clash t f = false≢true (sym f ∙ t)

-- A test that cannot pass fails.
pub not_true : (b : Bool) → (b ≡ true → ⊥) → b ≡ false
not_true true never = absurd (never refl)
not_true false never = refl

-- Two tests that pass together are one.
pub same_test : (a b : Bool) → (a ≡ true → b ≡ true) → (b ≡ true → a ≡ true) → a ≡ b
same_test true b to from = sym (to refl)
same_test false true to from = from refl
same_test false false to from = refl

-- What passes `&&` passes both of its tests.
pub both_split : (a b : Bool) → (a && b) ≡ true → (a ≡ true) × (b ≡ true)
both_split true b h = (refl, h)
both_split false b h = absurd (false≢true h)

-- Two tests that pass make their `&&` pass.
pub both_join : (a b : Bool) → a ≡ true → b ≡ true → (a && b) ≡ true
both_join true b p q = q
both_join false b p q = p

-- The first test makes `||` pass.
pub or_left : (a b : Bool) → a ≡ true → (a || b) ≡ true
or_left true b h = refl
or_left false b h = absurd (false≢true h)

-- The second test makes `||` pass.
pub or_right : (a b : Bool) → b ≡ true → (a || b) ≡ true
or_right true b h = refl
or_right false b h = h

-- What passes `||` passes one of its tests, and it is known which.
pub either : (a b : Bool) → (a || b) ≡ true → (a ≡ true) ⊎ (b ≡ true)
either true b h = inl refl
either false b h = inr h

-- Two tests that fail make their `||` fail.
pub neither : (a b : Bool) → a ≡ false → b ≡ false → (a || b) ≡ false
neither true b p q = p
neither false b p q = q

-- ---- some number below k

-- One number below k that passes is enough for `any_below`.
pub any_at : (test : ℕ → Bool) (k i : ℕ) → i < k → test i ≡ true → any_below test k ≡ true
unfolding any_below
any_at test zero i low here = absurd (omega arith)
any_at test (suc k) i low here = go (dec_lt i k) (any_at test k)
  where
    go : Dec (i < k) → ((j : ℕ) → j < k → test j ≡ true → any_below test k ≡ true) → (any_below test k || test k) ≡ true
    go (yes below) rest = or_left (any_below test k) (test k) (rest i below here)
    go (no above) rest = let e : i ≡ k = omega arith in or_right (any_below test k) (test k) (rw e at here)

-- Where `any_below` passes, a number below k that passes is found.
pub any_where : (test : ℕ → Bool) (k : ℕ) → any_below test k ≡ true → (i : ℕ) × (i < k) × (test i ≡ true)
unfolding any_below
any_where test zero h = absurd (false≢true h)
any_where test (suc k) h = go (either (any_below test k) (test k) h) (any_where test k)
  where
    go : (any_below test k ≡ true) ⊎ (test k ≡ true) → (any_below test k ≡ true → (i : ℕ) × (i < k) × (test i ≡ true)) → (i : ℕ) × (i < suc k) × (test i ≡ true)
    go (inl below) rest = let (i, low, here) = rest below in (i, omega arith, here)
    go (inr here) rest = (k, omega arith, here)
