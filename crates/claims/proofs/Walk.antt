-- The laws of the walk down the candidate views (document 01, step C: 'The search over candidate views ends at the first one that serves the plan';
-- document 02, wish 4). Its count is carried from view to view, and is that of the claimers at the view (`counted_claimers`).
-- Assumes nothing.
use Prim.Native.Nat.{ℕ, zero, suc, ◌+◌, ◌-◌, ◌≤◌, ◌<◌}
use mathlib.Core.Path.{◌≡◌, refl, sym, ◌∙◌, ap}
use mathlib.Core.Bool.{Bool, true, false, cond, not, ◌&&◌}
use mathlib.Core.List.{List}
use mathlib.Core.Logic.{◌⊎◌, inl, inr}
use native.Mathlib.Omega.{arith}
use native.Mathlib.Decide.{ℕ_discrete, dec_lt}
use lib.Dec.{leb, eqb}
use lib.ListN.{length, length-set, get_or, set}
use lib.Seq.{get_or-set_other}
use borrow.Author.Tests.{lt-ltb, le-ltb, eq-eqb, ne_eqb}
use Rattle.rules.specs.Sets.{Set, weigh}
use Rattle.rules.specs.Rules.{Reports}
use Rattle.rules.proofs.Bools.{which, both_split}
use Rattle.rules.proofs.Quorums.{weigh_none, weigh_more, weigh_step, weigh_most, weigh_same, weigh_prefix, share_most}
use Rattle.claims.proofs.Carried.{carried_count}
use Rattle.claims.proofs.Rows.{count_none, count_same, put_keeps, put_counts}
use Rattle.claims.proofs.Standing.{lists_most, count_join, count_rest}
use Rattle.claims.specs.inside.Rows.{rows_size, count_of, SameBelow}
use Rattle.claims.specs.inside.Spans.{stands_at}
use Rattle.claims.specs.declared.Coming.{Coming}
use Rattle.claims.specs.declared.Search.{Search}
use Rattle.claims.specs.Carried.{claimers, coming_in, carried}
use Rattle.claims.specs.inside.Walk.{voted_in, Listed, InOrder, others_of, coming_for, FitsComing, end_at, end_of, coming_at}
use Rattle.claims.specs.inside.Walk.{counted, claimed_in, serving_view, down_from, LaidOut, Told, Walked}
use Rattle.claims.specs.Table.{column}

-- ---- the row, written vault by vault

-- Behind a place a set has no more members than one that holds it.
weigh_behind : (s t : Set) (r n : ℕ) → r ≤ n → ((i : ℕ) → s i ≡ true → t i ≡ true)
    → weigh (λ i. 1) s n + weigh (λ i. 1) t r ≤ weigh (λ i. 1) t n + weigh (λ i. 1) s r
weigh_behind s t r n le to = go n le
  where
    share : (i : ℕ) → cond (s i) 1 0 ≤ cond (t i) 1 0
    share i = pick (which (s i))
      where
        pick : (s i ≡ true) ⊎ (s i ≡ false) → cond (s i) 1 0 ≤ cond (t i) 1 0
        pick (inl at) = rw (at, to i at) (omega arith)
        pick (inr off) = rw off (omega arith)

    go : (n : ℕ) → r ≤ n → weigh (λ i. 1) s n + weigh (λ i. 1) t r ≤ weigh (λ i. 1) t n + weigh (λ i. 1) s r
    go zero le = let e : r ≡ 0 = omega arith in rw e (omega arith)
    go (suc n) le = step (ℕ_discrete r (suc n)) (go n)
      where
        step : Dec (r ≡ suc n) → (r ≤ n → weigh (λ i. 1) s n + weigh (λ i. 1) t r ≤ weigh (λ i. 1) t n + weigh (λ i. 1) s r)
            → weigh (λ i. 1) s (suc n) + weigh (λ i. 1) t r ≤ weigh (λ i. 1) t (suc n) + weigh (λ i. 1) s r
        step (yes same) rest = rw same (omega arith)
        step (no differ) rest =
            let one : suc n ≡ n + 1 = omega arith in
            rw one (omega (arith, rest (omega arith), weigh_more (λ i. 1) s n, weigh_more (λ i. 1) t n, share n))

-- The plans of the first r of n vaults that stand at k are listed, and what lies below them is as it was at first.
pub record Listing (t standings : List ℕ) (n k from : ℕ) (first plans : List ℕ) (count r : ℕ) : Type 0 where
  pub within : r ≤ n
  pub size : length plans ≡ rows_size
  pub same : SameBelow first plans from
  pub listed : Listed t standings r k plans from count

-- Of no vaults none stands there.
pub listing_none : (t standings : List ℕ) (n k from : ℕ) (first : List ℕ) → length first ≡ rows_size → Listing t standings n k from first first 0 0
listing_none t standings n k from first size = record {
  within = omega arith;
  size = size;
  same = λ i low. refl;
  listed = record { number = sym (weigh_none _ _); plan = λ p. count_none first from p ∙ sym (weigh_none _ _) };
}

module _ {t standings : List ℕ} {n k from : ℕ} {first plans : List ℕ} {count r : ℕ} (l : Listing t standings n k from first plans count r) where
  -- There are not more than were looked at.
  pub listing_most : count ≤ r
  listing_most = omega (arith, l.listed.number, weigh_most (stands_at standings k) r)

  -- One vault more: its plan is written behind the others, and stays where it stands at k.
  module _ (low : r < n) (few : n ≤ column) (place : from ≤ column) (share : ℕ) (is : share ≡ cond (stands_at standings k r) 1 0) where
    -- The row with its plan.
    abbrev after : List ℕ
    after = set plans (from + count) (voted_in t r)

    -- There is a place for it.
    fits : from + count < length plans
    fits = omega (arith, l.size, listing_most)

    -- The plans that are p.
    plan_more : (p : ℕ) → count_of after from (count + share) p ≡ weigh (λ i. 1) (λ i. stands_at standings k i && eqb (voted_in t i) p) (r + 1)
    plan_more p = go (which (stands_at standings k r))
      where
        was : count_of plans from count p ≡ weigh (λ i. 1) (λ i. stands_at standings k i && eqb (voted_in t i) p) r
        was = l.listed.plan p

        grown : weigh (λ i. 1) (λ i. stands_at standings k i && eqb (voted_in t i) p) (r + 1)
            ≡ weigh (λ i. 1) (λ i. stands_at standings k i && eqb (voted_in t i) p) r + cond (stands_at standings k r && eqb (voted_in t r) p) 1 0
        grown = weigh_more _ _ r

        go : (stands_at standings k r ≡ true) ⊎ (stands_at standings k r ≡ false)
            → count_of after from (count + share) p ≡ weigh (λ i. 1) (λ i. stands_at standings k i && eqb (voted_in t i) p) (r + 1)
        go (inl stands) =
            let unit : share ≡ 1 = rw stands at is in
            let one : count + share ≡ count + 1 = omega arith in
            rw (grown, stands, one, put_counts plans from count (voted_in t r) fits p) (ap (λ (c : ℕ). c + cond (eqb (voted_in t r) p) 1 0) was)
        go (inr off) =
            let zilch : share ≡ 0 = rw off at is in
            let none : count + share ≡ count = omega arith in
            rw (grown, off, none, put_keeps plans from count (voted_in t r) fits p) (omega (arith, was))

    -- It is listed where it stands there.
    pub listing_more : Listing t standings n k from first after (count + share) (r + 1)
    listing_more = record {
      within = omega arith;
      size = simp length-set l.size;
      same = λ i below. get_or-set_other plans (from + count) i (voted_in t r) 0 (λ (e : i ≡ from + count). omega arith) ∙ l.same i below;
      listed = record { number = weigh_step (λ i. 1) (stands_at standings k) r count share l.listed.number is; plan = λ p. plan_more p };
    }

  module _ (total : ℕ) (all : total ≡ weigh (λ i. 1) (stands_at standings k) n) where
    -- All are listed: the other vaults do not stand there.
    pub listing_all : total ≤ count → (length plans ≡ rows_size) × SameBelow first plans from × Listed t standings n k plans from count
    listing_all enough = (l.size, l.same, record { number = omega (arith, l.listed.number, rest); plan = λ p. found p })
      where
        rest : weigh (λ i. 1) (stands_at standings k) r ≤ weigh (λ i. 1) (stands_at standings k) n
        rest = weigh_prefix (λ i. 1) (stands_at standings k) r n l.within

        found : (p : ℕ) → count_of plans from count p ≡ weigh (λ i. 1) (λ i. stands_at standings k i && eqb (voted_in t i) p) n
        found p =
            omega (
              arith,
              l.listed.plan p,
              l.listed.number,
              weigh_prefix (λ i. 1) (λ i. stands_at standings k i && eqb (voted_in t i) p) r n l.within,
              weigh_behind (λ i. stands_at standings k i && eqb (voted_in t i) p) (stands_at standings k) r n l.within
                  (λ i h. (both_split (stands_at standings k i) _ h).0),
            )

-- There are not more plans than vaults.
pub listed_most : (t standings : List ℕ) (n k : ℕ) (plans : List ℕ) (from count : ℕ) → Listed t standings n k plans from count → count ≤ n
listed_most t standings n k plans from count l = omega (arith, l.number, weigh_most (stands_at standings k) n)

-- A list stays where what lies behind it is written.
pub listed_kept : {t standings : List ℕ} {n k : ℕ} {before after : List ℕ} {from count end : ℕ} → SameBelow before after end → from + count ≤ end
    → Listed t standings n k before from count → Listed t standings n k after from count
listed_kept {before = before} {after = after} {from = from} {count = count} same low l = record {
  number = l.number;
  plan = λ p. count_same before after from count p (λ r (less : r < count). same (from + r) (omega arith)) ∙ l.plan p;
}

-- The first two lists have n plans at most.
pub two_most : {t standings : List ℕ} {n : ℕ} {first second : List ℕ} {both only : ℕ} → Listed t standings n 5 first 0 both
    → Listed t standings n 4 second both only → both + only ≤ n
two_most {standings = standings} {n = n} five four = omega (arith, five.number, four.number, lists_most standings n)

-- The three lists, each written behind the one before.
pub in_order : {t standings : List ℕ} {n : ℕ} {first second third : List ℕ} {both only here : ℕ} → Listed t standings n 5 first 0 both
    → SameBelow first second both → Listed t standings n 4 second both only → SameBelow second third (both + only)
    → Listed t standings n 2 third (both + only) here → InOrder t standings n third both only here
in_order {standings = standings} {n = n} {first = first} {second = second} {third = third} {both = both} {only = only} five same four again two = record {
  first = listed_kept {before = second} {after = third} {end = both + only} again (omega arith)
      (listed_kept {before = first} {after = second} {end = both} same (omega arith) five);
  second = listed_kept {before = second} {after = third} {end = both + only} again (omega arith) four;
  third = two;
  most = omega (arith, five.number, four.number, two.number, lists_most standings n);
}

-- ---- plans that are not p

-- Of no plans none is another.
pub others_none : (plans : List ℕ) (p : ℕ) → 0 ≡ others_of plans 0 p
unfolding others_of
others_none plans p = sym (weigh_none _ _)

-- One plan more.
pub others_more : (plans : List ℕ) (r p count share : ℕ) → count ≡ others_of plans r p → share ≡ cond (not (eqb (get_or plans r 0) p)) 1 0
    → count + share ≡ others_of plans (r + 1) p
unfolding others_of
others_more plans r p count share was is = weigh_step (λ r. 1) (λ r. not (eqb (get_or plans r 0) p)) r count share was is

-- They depend on nothing but their places.
others_same : (before after : List ℕ) (k p : ℕ) → ((r : ℕ) → r < k → get_or after r 0 ≡ get_or before r 0) → others_of after k p ≡ others_of before k p
unfolding others_of
others_same before after k p same = weigh_same _ _ _ k (λ r low. ap (λ (x : ℕ). not (eqb x p)) (same r low))

-- It counts once at most.
pub others_share : (plans : List ℕ) (r p share : ℕ) → share ≡ cond (not (eqb (get_or plans r 0) p)) 1 0 → share ≤ 1
others_share plans r p share is = share_most (not (eqb (get_or plans r 0) p)) 1 share is

-- ---- the candidate views

-- View u is a candidate, and there are one or two.
pub end_bounds : (u v : ℕ) → u < v → (u < end_at u v) × (end_at u v ≤ u + 2) × (end_at u v ≤ v)
end_bounds u v low = go (dec_lt (u + 1) v)
  where
    go : Dec (u + 1 < v) → (u < end_at u v) × (end_at u v ≤ u + 2) × (end_at u v ≤ v)
    go (yes more) = rw (lt-ltb (u + 1) v more) (omega arith, omega arith, omega arith)
    go (no last) = rw (le-ltb (u + 1) v (omega arith)) (low, omega arith, omega arith)

-- Who comes in has a place in the row.
pub coming_fits : (c : Search) (w : ℕ) (t : Coming) → t ≡ coming_at c w → FitsComing c.next → FitsComing c.here → FitsComing t
coming_fits c w t is next here = rw is (go (eqb w c.u))
  where
    go : (b : Bool) → FitsComing (cond b c.here c.next)
    go true = here
    go false = next

-- Of k plans no more than k are others.
others_most : (plans : List ℕ) (k p : ℕ) → others_of plans k p ≤ k
unfolding others_of
others_most plans k p = weigh_most (λ r. not (eqb (get_or plans r 0) p)) k

-- So a count of them has a bound.
pub others_bound : (plans : List ℕ) (k p count : ℕ) → count ≡ others_of plans k p → k ≤ column → count ≤ column
others_bound plans k p count is most = omega (arith, others_most plans k p)

module _ (test : ℕ → Bool) (low v : ℕ) where
  -- Views below low are not tried.
  pub serving_none : (end : ℕ) → end ≤ low → serving_view test low v end ≡ v
  unfolding serving_view
  serving_none zero over = refl
  serving_none (suc w) over = rw (lt-ltb w low (omega arith))

  -- The next view serves, or the walk goes on below it.
  pub serving_next : (end w : ℕ) → end ≡ suc w → low ≤ w → serving_view test low v end ≡ cond (test w) w (serving_view test low v w)
  unfolding serving_view
  serving_next end w is high = rw (is, le-ltb w low high)

-- ---- the carried count

module _ (plans : List ℕ) (c : Search) (p : ℕ) where
  -- Before the first view nothing is counted.
  pub counted_none : counted plans c p 0 ≡ 0
  unfolding counted
  counted_none = refl

  -- One view more: those come in who claim there and were not counted above.
  pub counted_more : (m w : ℕ) → w ≡ end_of c - suc m → counted plans c p (suc m) ≡ counted plans c p m + coming_for plans (coming_at c w) p
  unfolding counted
  counted_more m w is = rw is refl

  module _ (rs : Reports) (below : c.u < end_of c) (two : end_of c ≤ c.u + 2) (told : Told rs c.n c.u (end_of c) plans c.next c.here) where
    -- Who comes in by the row at candidate k comes in by the reports.
    coming_tells : (k : ℕ) → k + c.u < end_of c
        → coming_for plans (coming_at c (down_from (end_of c) k)) p ≡ weigh (λ i. 1) (coming_in (claimers rs p) (down_from (end_of c)) k) c.n
    coming_tells k low = go (ℕ_discrete (down_from (end_of c) k) c.u)
      where
        go : Dec (down_from (end_of c) k ≡ c.u)
            → coming_for plans (coming_at c (down_from (end_of c) k)) p ≡ weigh (λ i. 1) (coming_in (claimers rs p) (down_from (end_of c)) k) c.n
        go (yes last) = rw (eq-eqb (down_from (end_of c) k) c.u last) (told.below p k (omega arith))
        go (no above) =
            let first : k ≡ 0 = omega arith in
            rw (ne_eqb (down_from (end_of c) k) c.u above, first) (told.above (omega arith) p)

    -- The count by the row is the carried count by the reports.
    counted_carried : (k : ℕ) → k + c.u < end_of c → counted plans c p (suc k) ≡ carried (λ i. 1) (claimers rs p) (down_from (end_of c)) c.n k
    unfolding counted carried
    counted_carried zero low = omega (arith, coming_tells 0 low)
    counted_carried (suc k) low =
        let was : counted plans c p (suc k) ≡ carried (λ i. 1) (claimers rs p) (down_from (end_of c)) c.n k = counted_carried k (omega arith) in
        let comes = coming_tells (suc k) low in
        omega (arith, was, comes)

    -- So at each candidate view that is finished.
    module _ (w : ℕ) (from : c.u ≤ w) (to : w < end_of c) where
      -- It is made of the count above and those not yet counted.
      counted_made : counted plans c p (end_of c - w) ≡ carried (λ i. 1) (claimers rs p) (down_from (end_of c)) c.n (end_of c - suc w)
      counted_made =
          let same : end_of c - w ≡ suc (end_of c - suc w) = omega arith in
          ap (counted plans c p) same ∙ counted_carried (end_of c - suc w) (omega arith)

      -- And it is the number of all claimers there.
      pub counted_claimers : counted plans c p (end_of c - w) ≡ weigh (λ i. 1) (claimers rs p w) c.n
      counted_claimers =
          let at : down_from (end_of c) (end_of c - suc w) ≡ w = omega arith in
          counted_made ∙ carried_count (λ i. 1) rs p c.n (down_from (end_of c)) (λ k. omega arith) (end_of c - suc w)
          ∙ ap (λ (x : ℕ). weigh (λ i. 1) (claimers rs p x) c.n) at

-- ---- a plan that is claimed stands in the row

-- More plans count no less.
count_prefix : (plans : List ℕ) (k m p : ℕ) → k ≤ m → count_of plans 0 k p ≤ count_of plans 0 m p
unfolding count_of
count_prefix plans k m p low = weigh_prefix _ _ k m low

module _ (plans : List ℕ) (c : Search) (below : c.u < c.v) (laid : LaidOut c.n c.u (end_of c) c.next c.here) (p : ℕ) where
  module _ (more : c.u + 1 < c.v) where
    -- Both views are candidates.
    end_two : end_of c ≡ c.u + 2
    end_two = rw (lt-ltb (c.u + 1) c.v more) refl

    -- The count at the next view.
    pub counted_next : counted plans c p (end_of c - (c.u + 1)) ≡ c.next.every + count_of plans 0 c.next.some p
    counted_next =
        let one : end_of c - (c.u + 1) ≡ suc 0 = omega (arith, end_two) in
        let at : c.u + 1 ≡ end_of c - suc 0 = omega (arith, end_two) in
        let off = ne_eqb (c.u + 1) c.u (λ (e : c.u + 1 ≡ c.u). omega arith) in
        let come : coming_for plans (coming_at c (c.u + 1)) p ≡ c.next.every + count_of plans 0 c.next.some p
        = rw (off, laid.first, laid.none) (omega (arith, others_none plans p)) in
        ap (counted plans c p) one ∙ counted_more plans c p 0 (c.u + 1) at ∙ omega (arith, counted_none plans c p, come)

    -- The count at u.
    counted_both : counted plans c p (end_of c - c.u)
        ≡ c.next.every + count_of plans 0 c.next.some p
        + (c.here.every + others_of plans c.here.others p + count_of plans c.next.some c.here.some p)
    counted_both =
        let two : end_of c - c.u ≡ suc (end_of c - (c.u + 1)) = omega (arith, end_two) in
        let at : c.u ≡ end_of c - suc (end_of c - (c.u + 1)) = omega (arith, end_two) in
        let come : coming_for plans (coming_at c c.u) p
        ≡ c.here.every + others_of plans c.here.others p + count_of plans c.next.some c.here.some p
        = rw (eq-eqb c.u c.u refl, laid.behind) refl in
        ap (counted plans c p) two ∙ counted_more plans c p (end_of c - (c.u + 1)) c.u at ∙ omega (arith, counted_next, come)

  -- The count at u, where that is the only candidate.
  counted_alone : c.v ≤ c.u + 1 → counted plans c p (end_of c - c.u) ≡ c.here.every + count_of plans c.next.some c.here.some p
  counted_alone last =
      let here : end_of c ≡ c.u + 1 = rw (le-ltb (c.u + 1) c.v last) (omega arith) in
      let one : end_of c - c.u ≡ suc 0 = omega (arith, here) in
      let at : c.u ≡ end_of c - suc 0 = omega (arith, here) in
      let none : c.here.others ≡ 0 = laid.alone (omega (arith, here)) in
      let come : coming_for plans (coming_at c c.u) p ≡ c.here.every + count_of plans c.next.some c.here.some p
      = rw (eq-eqb c.u c.u refl, laid.behind, none) (omega (arith, others_none plans p)) in
      ap (counted plans c p) one ∙ counted_more plans c p 0 c.u at ∙ omega (arith, counted_none plans c p, come)

module _ (plans : List ℕ) (c : Search) (below : c.u < c.v) (laid : LaidOut c.n c.u (end_of c) c.next c.here) (x q : ℕ) where
  -- The plans of those that come in at u or above.
  abbrev all : ℕ → ℕ
  all p = count_of plans 0 (c.next.some + c.here.some) p

  -- At u: who claims x and not q has x as the plan of its highest vote. The first of the row claim q as well, at u or above.
  row_here : counted plans c q (end_of c - c.u) < counted plans c x (end_of c - c.u) → 0 < all x
  row_here less = go (dec_lt (c.u + 1) c.v) (dec_lt 0 (all x))
    where
      go : Dec (c.u + 1 < c.v) → Dec (0 < all x) → 0 < all x
      go d (yes there) = there
      go (yes more) (no never) = absurd (omega (
        arith,
        counted_both plans c below laid x more,
        counted_both plans c below laid q more,
        count_join plans c.next.some c.here.some x,
        count_rest plans c.here.others q,
        others_most plans c.here.others x,
        count_prefix plans c.here.others c.next.some q laid.within,
      ))
      go (no last) (no never) = absurd (omega (
        arith,
        counted_alone plans c below laid x (omega arith),
        counted_alone plans c below laid q (omega arith),
        count_join plans c.next.some c.here.some x,
      ))

  -- More claim x than q at a candidate view: then x stands in the row, among those that come in there or above.
  pub row_has : (w : ℕ) → c.u ≤ w → w < end_of c → counted plans c q (end_of c - w) < counted plans c x (end_of c - w)
      → 0 < count_of plans 0 ((coming_at c w).from + (coming_at c w).some) x
  row_has w from to less = go (ℕ_discrete w c.u)
    where
      go : Dec (w ≡ c.u) → 0 < count_of plans 0 ((coming_at c w).from + (coming_at c w).some) x
      go (yes here) =
          let at : counted plans c q (end_of c - c.u) < counted plans c x (end_of c - c.u) = rw here at less in
          rw (eq-eqb w c.u here, laid.behind) (row_here at)
      go (no off) =
          let (low, two, most) = end_bounds c.u c.v below in
          let next : w ≡ c.u + 1 = omega arith in
          let at : counted plans c q (end_of c - (c.u + 1)) < counted plans c x (end_of c - (c.u + 1)) = rw next at less in
          let more : c.u + 1 < c.v = omega arith in
          let same : c.next.from + c.next.some ≡ c.next.some = omega (arith, laid.first) in
          rw (ne_eqb w c.u off, same) (omega (arith, at, counted_next plans c below laid x more, counted_next plans c below laid q more))

-- What was prepared stays where what lies behind it is written.
pub told_kept : (rs : Reports) (n u end : ℕ) (before after : List ℕ) (next here : Coming) (at : ℕ) → SameBelow before after at → n ≤ at
    → Told rs n u end before next here → Told rs n u end after next here
told_kept rs n u end before after next here at same low told = record {
  laid = told.laid;
  above = λ more p. kept next p (omega (arith, told.laid.first, told.laid.most)) (omega (arith, told.laid.none)) ∙ told.above more p;
  below = λ p k is.
      kept here p (omega (arith, told.laid.behind, told.laid.most)) (omega (arith, told.laid.within, told.laid.most)) ∙ told.below p k is;
}
  where
    kept : (t : Coming) (p : ℕ) → t.from + t.some ≤ at → t.others ≤ at → coming_for after t p ≡ coming_for before t p
    kept t p row few =
        omega (
          arith,
          others_same before after t.others p (λ r (less : r < t.others). same r (omega arith)),
          count_same before after t.from t.some p (λ r (less : r < t.some). same (t.from + r) (omega arith)),
        )

-- ---- the walk

module _ (plans : List ℕ) (c : Search) (low p : ℕ) where
  -- The view that the walk finds below `end`.
  abbrev serves : ℕ → ℕ
  serves end = serving_view (claimed_in plans c p) low c.v end

  -- Before the first view.
  pub walk_begins : (end : ℕ) → end ≡ end_of c → Walked plans c low p end 0
  walk_begins end is = record {
    from = omega arith;
    serves = ap serves (sym is);
    is = sym (ap (counted plans c p) finished ∙ counted_none plans c p);
    tells = λ rs told above below. absurd (omega arith);
  }
    where
      finished : end_of c - end ≡ 0
      finished = omega arith

  -- Views below low are not tried.
  pub walk_over : (end count : ℕ) → Walked plans c low p end count → end ≤ low → c.v ≡ serves (end_of c)
  walk_over end count was over = sym (was.serves ∙ serving_none (claimed_in plans c p) low c.v end over)

  -- All who come in at the next view w are counted.
  module _ (end w count new : ℕ) (was : Walked plans c low p end count) (above : low < end) (is : w ≡ end - 1)
      (comes : new ≡ count + coming_for plans (coming_at c w) p) where
    -- The count is that of view w.
    grown : new ≡ counted plans c p (end_of c - w)
    grown =
        let next : end_of c - w ≡ suc (end_of c - end) = omega (arith, was.from) in
        comes ∙ ap (λ (x : ℕ). x + coming_for plans (coming_at c w) p) was.is
        ∙ sym (ap (counted plans c p) next ∙ counted_more plans c p (end_of c - end) w (omega (arith, was.from)))

    -- A blocking set of those counted is the test that is made at w.
    claimers_tell : leb (c.f + 1) new ≡ claimed_in plans c p w
    unfolding claimed_in
    claimers_tell = ap (leb (c.f + 1)) grown

    -- Whether they are enough tells where the walk goes: it ends at w, or goes on below.
    pub walk_step : (b : Bool) → leb (c.f + 1) new ≡ b → serves (end_of c) ≡ cond b w (serves w)
    walk_step b enough =
        was.serves ∙ serving_next (claimed_in plans c p) low c.v end w (omega arith) (omega arith)
        ∙ ap (λ (b : Bool). cond b w (serves w)) (sym claimers_tell ∙ enough)

    -- It goes on: view w is finished.
    pub walk_on : c.u < end_of c → end_of c ≤ c.u + 2 → leb (c.f + 1) new ≡ false → Walked plans c low p w new
    walk_on below two few = record {
      from = omega (arith, was.from);
      serves = walk_step false few;
      is = grown;
      tells = λ rs told from to. (grown ∙ counted_claimers plans c p rs below two told w from to, grown ∙ counted_made plans c p rs below two told w from to);
    }
