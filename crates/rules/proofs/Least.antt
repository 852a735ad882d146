-- The least number from w on, among those that some of n vaults have. Whoever has a number from w on has one from the least on, so what
-- counts the ones counts the others (document 02, wish 3: 'a kept view-change for w counts for every view up to w').
-- Assumes nothing.
use Prim.Native.Nat.{ℕ, zero, suc, ◌+◌, ◌-◌, ◌≤◌, ◌<◌}
use mathlib.Core.Path.{◌≡◌, sym, ◌∙◌, ap}
use mathlib.Core.Logic.{◌⊎◌, inl, inr}
use mathlib.Core.Bool.{true, false}
use mathlib.Core.Option.{Option, some}
use native.Mathlib.Omega.{arith}
use native.Mathlib.Decide.{dec_lt}
use lib.Dec.{leb, eqb}
use borrow.Author.Tests.{leb-true, le-leb, eqb-true, eq-eqb}
use Rattle.rules.specs.inside.Bools.{any_below}
use Rattle.rules.specs.Sets.{Set, weigh}
use Rattle.rules.specs.Options.{holds}
use Rattle.rules.proofs.Bools.{which, clash, any_at, any_where}
use Rattle.rules.proofs.Quorums.{outside, weigh_rest}
use Rattle.rules.proofs.Laws.{holds_where}

-- A set that weighs something has a member.
pub member : (weight : ℕ → ℕ) (s : Set) (n : ℕ) → 0 < weigh weight s n → (i : ℕ) × (i < n) × (s i ≡ true)
member weight s n heavy = let (i, low, is, off) = outside weight s (λ j. false) n (omega (arith, weigh_rest weight (λ j. false) n)) in (i, low, is)

-- The vaults that have a number from w on.
abbrev pub up_from : (ℕ → Option ℕ) → ℕ → Set
up_from f w i = holds (leb w) (f i)

-- Of the first n: vault `who` has the least number from w on.
pub record Least (f : ℕ → Option ℕ) (n w : ℕ) : Type 0 where
  pub who : ℕ
  pub least : ℕ
  pub below : who < n
  pub has : f who ≡ some least
  pub up : w ≤ least
  pub all : (i : ℕ) → i < n → up_from f w i ≡ true → up_from f least i ≡ true

module _ (f : ℕ → Option ℕ) (n : ℕ) where
  -- Where nobody has w itself, the least from w + 1 on is the least from w on.
  least_next : (w : ℕ) → any_below (λ i. holds (eqb w) (f i)) n ≡ false → Least f n (suc w) → Least f n w
  least_next w nobody l = record {
    who = l.who;
    least = l.least;
    below = l.below;
    has = l.has;
    up = omega (arith, l.up);
    all = λ i low h. l.all i low (above i low h);
  }
    where
      above : (i : ℕ) → i < n → up_from f w i ≡ true → up_from f (suc w) i ≡ true
      above i low h = let (x, is, le) = holds_where (f i) (leb w) h in rw is (go x is (leb-true w x le) (dec_lt w x))
        where
          go : (x : ℕ) → f i ≡ some x → w ≤ x → Dec (w < x) → leb (suc w) x ≡ true
          go x is le (yes more) = le-leb (suc w) x (omega arith)
          go x is le (no same) = absurd (clash (any_at (λ j. holds (eqb w) (f j)) n i low (rw is (eq-eqb w x (omega arith)))) nobody)

  -- Where somebody has w, that is the least.
  least_here : (w i : ℕ) → i < n → f i ≡ some w → Least f n w
  least_here w i low is = record { who = i; least = w; below = low; has = is; up = omega arith; all = λ j lower h. h }

  -- Somebody has w + d: the search goes up from w, and ends there at the latest.
  least_within : (d w i : ℕ) → i < n → f i ≡ some (w + d) → Least f n w
  least_within zero w i low is = least_here w i low (is ∙ ap some (omega arith))
  least_within (suc d) w i low is = go (which (any_below (λ j. holds (eqb w) (f j)) n)) (least_within d (suc w) i low (is ∙ ap some (omega arith)))
    where
      go : (any_below (λ j. holds (eqb w) (f j)) n ≡ true) ⊎ (any_below (λ j. holds (eqb w) (f j)) n ≡ false) → Least f n (suc w) → Least f n w
      go (inr nobody) next = least_next w nobody next
      go (inl somebody) next =
          let (j, lower, h) = any_where (λ j. holds (eqb w) (f j)) n somebody in
          let (x, at, same) = holds_where (f j) (eqb w) h in
          least_here w j lower (at ∙ ap some (sym (eqb-true w x same)))

  -- Where those from w on weigh something, there is a least.
  pub least_from : (weight : ℕ → ℕ) (w : ℕ) → 0 < weigh weight (up_from f w) n → Least f n w
  least_from weight w heavy =
      let (i, low, h) = member weight (up_from f w) n heavy in
      let (x, is, le) = holds_where (f i) (leb w) h in
      let up : w ≤ x = leb-true w x le in
      least_within (x - w) w i low (is ∙ ap some (omega arith))
