-- Quorums and blocking sets (document 01, 'Words and ranges'), over any weights; each vault weighs 1 in document 01.
-- All follows from `shared`: two sets that together outweigh all vaults and the rule-breakers have a rule-keeper in common,
-- found by going down from the last vault. 'A set with P of size k exists' is the same as 'the count of P is at least k'
-- (`counted`), as a set with P weighs no more than all with P.
-- Assumes nothing.
use Prim.Native.Nat.{ℕ, zero, suc, ◌+◌, ◌-◌, ◌*◌, ◌≤◌, ◌<◌}
use mathlib.Core.Path.{◌≡◌, refl, sym, ◌∙◌, ap}
use mathlib.Core.Bool.{Bool, true, false, not, cond, ◌&&◌}
use mathlib.Core.Logic.{◌⊎◌, inl, inr, ◌↔◌}
use native.Mathlib.Omega.{arith}
use native.Mathlib.Numerals.{add-one}
use native.Mathlib.Decide.{dec_le}
use lib.Dec.{leb}
use borrow.Author.Tests.{leb-true, le-leb, not-true, not-false}
use Rattle.rules.specs.Sets.{Vaults, equals, Set, weigh, size, total}
use Rattle.rules.specs.Quorums.{is_quorum, is_blocking, Group, Quorum, Blocking}
use Rattle.rules.specs.inside.Mostly.{Mostly}
use Rattle.rules.proofs.Bools.{clash, not_true, same_test}

-- ---- what a set weighs

-- The first 0 vaults weigh 0: where a loop's count begins.
pub weigh_none : (w : ℕ → ℕ) (s : Set) → weigh w s 0 ≡ 0
unfolding weigh
weigh_none w s = refl

-- One vault more: what a loop adds to its count.
pub weigh_more : (w : ℕ → ℕ) (s : Set) (k : ℕ) → weigh w s (k + 1) ≡ weigh w s k + cond (s k) (w k) 0
unfolding weigh
weigh_more w s k = rw add-one

-- A loop's count after one vault more, of which the code says what it adds.
pub weigh_step : (w : ℕ → ℕ) (s : Set) (k c a : ℕ) → c ≡ weigh w s k → a ≡ cond (s k) (w k) 0 → c + a ≡ weigh w s (k + 1)
weigh_step w s k c a count more = rw (weigh_more w s k, ← count, ← more)

-- What one vault adds is at most its weight.
pub share_most : (b : Bool) (x a : ℕ) → a ≡ cond b x 0 → a ≤ x
share_most true x a e = omega arith
share_most false x a e = omega arith

-- The first vaults of a set weigh no more than all of it.
pub weigh_prefix : (w : ℕ → ℕ) (s : Set) (k n : ℕ) → k ≤ n → weigh w s k ≤ weigh w s n
unfolding weigh
weigh_prefix w s k zero le = let e : k ≡ 0 = omega arith in rw e (omega arith)
weigh_prefix w s k (suc n) le = go (dec_le k n) (weigh_prefix w s k n)
  where
    go : Dec (k ≤ n) → (k ≤ n → weigh w s k ≤ weigh w s n) → weigh w s k ≤ weigh w s n + cond (s n) (w n) 0
    go (yes low) rest = omega (arith, rest low)
    go (no last) rest = let e : k ≡ suc n = omega arith in rw e (omega arith)

-- One vault: it is in both sets and outside the third, or adds to the two no more than to all and the third.
share : (a b c : Bool) (w : ℕ) → ((a ≡ true) × (b ≡ true) × (c ≡ false)) ⊎ (cond a w 0 + cond b w 0 ≤ w + cond c w 0)
share true true false w = inl (refl, refl, refl)
share true true true w = inr (omega arith)
share true false c w = inr (omega arith)
share false true c w = inr (omega arith)
share false false c w = inr (omega arith)

-- Two sets that together outweigh all and a third have a common member outside the third.
pub shared : (w : ℕ → ℕ) (s t l : Set) (k : ℕ) → weigh w (λ i. true) k + weigh w l k < weigh w s k + weigh w t k
    → (i : ℕ) × (i < k) × (s i ≡ true) × (t i ≡ true) × (l i ≡ false)
unfolding weigh
shared w s t l zero more = absurd (omega arith)
shared w s t l (suc k) more = go (share (s k) (t k) (l k) (w k)) (shared w s t l k)
  where
    go : ((s k ≡ true) × (t k ≡ true) × (l k ≡ false)) ⊎ (cond (s k) (w k) 0 + cond (t k) (w k) 0 ≤ w k + cond (l k) (w k) 0)
        → (weigh w (λ i. true) k + weigh w l k < weigh w s k + weigh w t k → (i : ℕ) × (i < k) × (s i ≡ true) × (t i ≡ true) × (l i ≡ false))
        → (i : ℕ) × (i < suc k) × (s i ≡ true) × (t i ≡ true) × (l i ≡ false)
    go (inl here) rest = let (a, b, c) = here in (k, omega arith, a, b, c)
    go (inr low) rest = let (i, below, a, b, c) = rest (omega arith) in (i, omega arith, a, b, c)

-- A set that outweighs another has a member outside it.
pub outside : (w : ℕ → ℕ) (s l : Set) (k : ℕ) → weigh w l k < weigh w s k → (i : ℕ) × (i < k) × (s i ≡ true) × (l i ≡ false)
outside w s l k more = let (i, low, a, b, c) = shared w s (λ j. true) l k (omega arith) in (i, low, a, c)

-- A set within another weighs no more.
pub weigh_mono : (w : ℕ → ℕ) (s t : Set) (k : ℕ) → ((i : ℕ) → i < k → s i ≡ true → t i ≡ true) → weigh w s k ≤ weigh w t k
weigh_mono w s t k within = go (dec_le (weigh w s k) (weigh w t k))
  where
    go : Dec (weigh w s k ≤ weigh w t k) → weigh w s k ≤ weigh w t k
    go (yes le) = le
    go (no more) = let (i, low, a, c) = outside w s t k (omega arith) in absurd (clash (within i low a) c)

-- Sets with the same members weigh the same.
pub weigh_same : (w : ℕ → ℕ) (s t : Set) (k : ℕ) → ((i : ℕ) → i < k → s i ≡ t i) → weigh w s k ≡ weigh w t k
weigh_same w s t k same =
    omega (arith, weigh_mono w s t k (λ i low h. sym (same i low) ∙ h), weigh_mono w t s k (λ i low h. same i low ∙ h))

-- A set and the rest weigh what all weigh.
pub weigh_rest : (w : ℕ → ℕ) (s : Set) (k : ℕ) → weigh w s k + weigh w (λ i. not (s i)) k ≡ weigh w (λ i. true) k
unfolding weigh
weigh_rest w s zero = refl
weigh_rest w s (suc k) = omega (arith, weigh_rest w s k, rest (s k) (w k))
  where
    rest : (a : Bool) (x : ℕ) → cond a x 0 + cond (not a) x 0 ≡ x
    rest true x = omega arith
    rest false x = omega arith

-- What two sets share weighs at least what they weigh more than all.
pub weigh_shared : (w : ℕ → ℕ) (s t : Set) (k : ℕ) → weigh w s k + weigh w t k ≤ weigh w (λ i. true) k + weigh w (λ i. s i && t i) k
unfolding weigh
weigh_shared w s t zero = omega arith
weigh_shared w s t (suc k) = omega (arith, weigh_shared w s t k, common (s k) (t k) (w k))
  where
    common : (a b : Bool) (x : ℕ) → cond a x 0 + cond b x 0 ≤ x + cond (a && b) x 0
    common true b x = omega arith
    common false true x = omega arith
    common false false x = omega arith

-- ---- quorums and blocking sets, by weight

-- A quorum by weight: with f added it weighs no less than all vaults.
pub quorum_weighs : (vs : Vaults) (s : Set) → (is_quorum vs s ≡ true) ↔ (total vs ≤ size vs s + vs.f)
unfolding is_quorum
quorum_weighs vs s = (
  λ h. omega (arith, leb-true (total vs - vs.f) (size vs s) h),
  λ h. le-leb (total vs - vs.f) (size vs s) (omega arith),
)

-- A blocking set by weight: it weighs more than f.
pub blocking_weighs : (vs : Vaults) (s : Set) → (is_blocking vs s ≡ true) ↔ (vs.f < size vs s)
unfolding is_blocking
blocking_weighs vs s = (
  λ h. omega (arith, leb-true (vs.f + 1) (size vs s) h),
  λ h. le-leb (vs.f + 1) (size vs s) (omega arith),
)

-- A set is blocking exactly if the rest is no quorum.
pub blocking_rest : (vs : Vaults) (s : Set) → is_blocking vs s ≡ not (is_quorum vs (λ i. not (s i)))
blocking_rest vs s = same_test _ _
    (λ h. ap not (not_true _ (λ q. omega (arith, (blocking_weighs vs s).0 h, (quorum_weighs vs (λ i. not (s i))).0 q, weigh_rest vs.weight s vs.n))))
    (λ h. (blocking_weighs vs s).1 (go (dec_le (total vs) (size vs (λ i. not (s i)) + vs.f)) h))
  where
    go : Dec (total vs ≤ size vs (λ i. not (s i)) + vs.f) → not (is_quorum vs (λ i. not (s i))) ≡ true → vs.f < size vs s
    go (yes le) h = absurd (clash ((quorum_weighs vs (λ i. not (s i))).1 le) (not-true _ h))
    go (no less) h = omega (arith, weigh_rest vs.weight s vs.n)

-- What is enough goes by weight: a set that weighs no less is enough too.
abbrev pub ByWeight : (vs : Vaults) → (Set → Bool) → Type 0
ByWeight vs enough = (s t : Set) → size vs s ≤ size vs t → enough s ≡ true → enough t ≡ true

-- A set that weighs no less than a quorum is one.
pub quorum_by_weight : (vs : Vaults) → ByWeight vs (is_quorum vs)
quorum_by_weight vs s t le h = let low : total vs ≤ size vs s + vs.f = (quorum_weighs vs s).0 h in (quorum_weighs vs t).1 (omega arith)

-- A set that weighs no less than a blocking set is one.
pub blocking_by_weight : (vs : Vaults) → ByWeight vs (is_blocking vs)
blocking_by_weight vs s t le h = let low : vs.f < size vs s = (blocking_weighs vs s).0 h in (blocking_weighs vs t).1 (omega arith)

-- A set that has all members of one that is enough is enough.
pub enough_mono : (vs : Vaults) (enough : Set → Bool) → ByWeight vs enough → (s t : Set)
    → ((i : ℕ) → i < vs.n → s i ≡ true → t i ≡ true) → enough s ≡ true → enough t ≡ true
enough_mono vs enough by s t within = by s t (weigh_mono vs.weight s t vs.n within)

-- A quorum or blocking set whose members have P has Q too, where P gives Q.
pub group_map : {vs : Vaults} {enough : Set → Bool} {P Q : ℕ → Type 0} → ((i : ℕ) → i < vs.n → P i → Q i) → Group vs enough P → Group vs enough Q
group_map f g = record { who = g.who; large = g.large; each = λ i low inside. f i low (g.each i low inside) }

-- 'A set with P of size k exists' ⇔ 'the count of P is at least k', for a P that is itself a set.
pub counted : (vs : Vaults) (enough : Set → Bool) → ByWeight vs enough → (s : Set) → Group vs enough (λ i. s i ≡ true) ↔ (enough s ≡ true)
counted vs enough by s = (
  λ g. enough_mono vs enough by g.who s g.each g.large,
  λ h. record { who = s; large = h; each = λ i low inside. inside },
)

-- Some quorum passes a test exactly if all vaults that pass it are a quorum.
pub count_quorum : (vs : Vaults) (s : Set) → Quorum vs (λ i. s i ≡ true) ↔ (is_quorum vs s ≡ true)
count_quorum vs s = counted vs (is_quorum vs) (quorum_by_weight vs) s

-- Some blocking set passes a test exactly if all vaults that pass it are a blocking set.
pub count_blocking : (vs : Vaults) (s : Set) → Blocking vs (λ i. s i ≡ true) ↔ (is_blocking vs s ≡ true)
count_blocking vs s = counted vs (is_blocking vs) (blocking_by_weight vs) s

-- ---- the rule-keepers of a run

module _ {vs : Vaults} {keeps : Set} (most : Mostly vs keeps) where
  -- Two quorums share a rule-keeping vault.
  pub quorums_meet : {P Q : ℕ → Type 0} → Quorum vs (λ i. keeps i ≡ true → P i) → Quorum vs (λ i. keeps i ≡ true → Q i)
      → (i : ℕ) × (i < vs.n) × (keeps i ≡ true) × P i × Q i
  quorums_meet a b =
      let (i, low, s, t, l) = shared vs.weight a.who b.who (λ j. not (keeps j)) vs.n
      (omega (arith, most.third, most.others, (quorum_weighs vs a.who).0 a.large, (quorum_weighs vs b.who).0 b.large)) in
      let h = not-false (keeps i) l in
      (i, low, h, a.each i low s h, b.each i low t h)

  -- A blocking set has a rule-keeping vault.
  pub blocking_keeper : {P : ℕ → Type 0} → Blocking vs (λ i. keeps i ≡ true → P i) → (i : ℕ) × (i < vs.n) × (keeps i ≡ true) × P i
  blocking_keeper a =
      let (i, low, s, l) = outside vs.weight a.who (λ j. not (keeps j)) vs.n
      (omega (arith, most.others, (blocking_weighs vs a.who).0 a.large)) in
      let h = not-false (keeps i) l in
      (i, low, h, a.each i low s h)

  -- A quorum is a blocking set.
  pub quorum_blocks : {P : ℕ → Type 0} → Quorum vs P → Blocking vs P
  quorum_blocks a = record {
    who = a.who;
    large = (blocking_weighs vs a.who).1 (omega (arith, most.third, (quorum_weighs vs a.who).0 a.large));
    each = a.each;
  }

-- ---- document 01's vaults, each of weight 1

-- Where each weighs 1, n vaults weigh n.
pub total_equals : (n f : ℕ) → total (equals n f) ≡ n
unfolding weigh
total_equals zero f = refl
total_equals (suc n) f = omega (arith, total_equals n f)

-- 'A quorum is n - f or more vaults', by a loop's count.
pub quorum_count : (n f : ℕ) (s : Set) (count : ℕ) → count ≡ weigh (λ i. 1) s n → leb (n - f) count ≡ is_quorum (equals n f) s
unfolding is_quorum
quorum_count n f s count is = rw (total_equals n f, is)

-- A set of k numbers has at most k members.
pub weigh_most : (s : Set) (k : ℕ) → weigh (λ i. 1) s k ≤ k
weigh_most s k = omega (arith, weigh_mono (λ i. 1) s (λ i. true) k (λ i low h. refl), total_equals k 0)

-- n - f rule-keepers and f below a third of n: 'f is at least 1 with 3f below n', 'a set of at least n - f numbers'.
pub mostly_equals : (n f : ℕ) (keeps : Set) → 3 * f < n → n ≤ size (equals n f) keeps + f → Mostly (equals n f) keeps
mostly_equals n f keeps third most = record {
  third = omega (arith, total_equals n f);
  others = omega (arith, weigh_rest (λ i. 1) keeps n, total_equals n f);
}
