-- The count that is carried down the candidate views is that of the members there, and each member comes in once (document 02, wish 4).
-- One lemma on sets that grow as the view falls: claimers of a plan, and vaults with a lock above a view.
-- Assumes nothing.
use Prim.Native.Nat.{ℕ, zero, suc, ◌+◌, ◌-◌, ◌≤◌, ◌<◌}
use mathlib.Core.Path.{◌≡◌, refl, sym, ◌∙◌, ap}
use mathlib.Core.Bool.{Bool, true, false, cond, not, ◌&&◌}
use native.Mathlib.Omega.{arith}
use native.Mathlib.Decide.{ℕ_discrete, dec_lt}
use lib.Dec.{ltb, eqb}
use borrow.Author.Tests.{lt-ltb, le-ltb, eq-eqb, ne_eqb, not-true}
use Rattle.rules.specs.Sets.{Set, weigh}
use Rattle.rules.specs.Rules.{Reports, claims}
use Rattle.rules.proofs.Bools.{clash, both_split}
use Rattle.rules.proofs.Laws.{holds_map}
use Rattle.rules.proofs.Single.{claims_fall}
use Rattle.claims.specs.Carried.{Grows, Descends, coming_in, carried, claimers, CarriedCount, CountedOnce}

-- What two sets weigh together, where a third has the members of both and no vault is in both.
pub weigh_join : (weight : ℕ → ℕ) (s t both : Set) (k : ℕ)
    → ((i : ℕ) → i < k → cond (both i) (weight i) 0 ≡ cond (s i) (weight i) 0 + cond (t i) (weight i) 0)
    → weigh weight both k ≡ weigh weight s k + weigh weight t k
unfolding weigh
weigh_join weight s t both zero each = refl
weigh_join weight s t both (suc k) each =
    omega (arith, weigh_join weight s t both k (λ i low. each i (omega arith)), each k (omega arith))

-- Those of a set, by those that are in a smaller one and those that are not.
split_share : (x : ℕ) (above here : Bool) → (above ≡ true → here ≡ true) → cond here x 0 ≡ cond above x 0 + cond (here && not above) x 0
split_share x true here to = rw (to refl) (omega arith)
split_share x false true to = omega arith
split_share x false false to = refl

module _ (members : ℕ → Set) (grows : Grows members) (x : ℕ → ℕ) (down : Descends x) where
  -- The candidates after one are not above it.
  later : (j k : ℕ) → j ≤ k → x k ≤ x j
  later j zero le = let e : j ≡ 0 = omega arith in rw e (omega arith)
  later j (suc k) le = go (ℕ_discrete j (suc k)) (later j k)
    where
      go : Dec (j ≡ suc k) → (j ≤ k → x k ≤ x j) → x (suc k) ≤ x j
      go (yes same) rest = rw same (omega arith)
      go (no differ) rest = omega (arith, down k, rest (omega arith))

  -- The carried count at a candidate is that of the members there.
  pub carried_members : (weight : ℕ → ℕ) (n k : ℕ) → carried weight members x n k ≡ weigh weight (members (x k)) n
  unfolding carried coming_in
  carried_members weight n zero = refl
  carried_members weight n (suc k) =
      ap (λ (c : ℕ). c + weigh weight (λ i. members (x (suc k)) i && not (members (x k) i)) n) (carried_members weight n k)
      ∙ sym (weigh_join weight (members (x k)) (λ i. members (x (suc k)) i && not (members (x k) i)) (members (x (suc k))) n
      (λ i low. split_share (weight i) (members (x k) i) (members (x (suc k)) i) (grows (x k) (x (suc k)) i (down k))))

  -- A vault that is a member at a candidate does not come in after it.
  in_before : (i j k : ℕ) → j < k → members (x j) i ≡ true → coming_in members x k i ≡ true → ⊥
  unfolding coming_in
  in_before i j zero less at comes = absurd (omega arith)
  in_before i j (suc k) less at comes =
      clash (grows (x j) (x k) i (later j k (omega arith)) at) (not-true (members (x k) i) (both_split (members (x (suc k)) i) _ comes).1)

  -- Who comes in at a candidate is a member there.
  is_member : (i k : ℕ) → coming_in members x k i ≡ true → members (x k) i ≡ true
  unfolding coming_in
  is_member i zero comes = comes
  is_member i (suc k) comes = (both_split (members (x (suc k)) i) _ comes).0

  -- A vault comes in at one candidate at most.
  pub once_member : (i j k : ℕ) → coming_in members x j i ≡ true → coming_in members x k i ≡ true → j ≡ k
  once_member i j k one other = go (dec_lt j k) (dec_lt k j)
    where
      go : Dec (j < k) → Dec (k < j) → j ≡ k
      go (yes less) d = absurd (in_before i j k less (is_member i j one) other)
      go (no more) (yes less) = absurd (in_before i k j less (is_member i k other) one)
      go (no more) (no less) = omega arith

-- ---- claimers

-- 'A claimer at a view is a claimer at every lower view', as its report claims there (`claims_fall`).
claimers_grow : (rs : Reports) (p : ℕ) → Grows (claimers rs p)
claimers_grow rs p u w i le = holds_map (rs i) (claims p u) (claims p w) (λ r is h. claims_fall r p u w le h)

-- The count at each candidate view is that of the claimers there.
pub carried_count : CarriedCount
carried_count weight rs p n x down k = carried_members (claimers rs p) (claimers_grow rs p) x down weight n k

-- A reporter is counted once for a plan.
pub counted_once : CountedOnce
counted_once rs p i x down j k = once_member (claimers rs p) (claimers_grow rs p) x down i j k

-- ---- ends

-- Each vault is a member at the views below its end. So those whose end is t come in at view t - 1.
pub ends_join : (weight end : ℕ → ℕ) (n t : ℕ) → 0 < t
    → weigh weight (λ i. ltb (t - 1) (end i)) n ≡ weigh weight (λ i. ltb t (end i)) n + weigh weight (λ i. eqb (end i) t) n
ends_join weight end n t there = weigh_join weight (λ i. ltb t (end i)) (λ i. eqb (end i) t) (λ i. ltb (t - 1) (end i)) n (λ i low. each (end i) (weight i))
  where
    each : (e x : ℕ) → cond (ltb (t - 1) e) x 0 ≡ cond (ltb t e) x 0 + cond (eqb e t) x 0
    each e x = go (ℕ_discrete e t) (dec_lt t e)
      where
        go : Dec (e ≡ t) → Dec (t < e) → cond (ltb (t - 1) e) x 0 ≡ cond (ltb t e) x 0 + cond (eqb e t) x 0
        go (yes same) d = rw (eq-eqb e t same, lt-ltb (t - 1) e (omega arith), le-ltb t e (omega arith)) (omega arith)
        go (no differ) (yes more) = rw (ne_eqb e t differ, lt-ltb (t - 1) e (omega arith), lt-ltb t e more) (omega arith)
        go (no differ) (no less) = rw (ne_eqb e t differ, le-ltb (t - 1) e (omega arith), le-ltb t e (omega arith)) refl
