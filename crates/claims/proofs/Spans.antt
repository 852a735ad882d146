-- Candidate views of the lock search are exact. Between a view that too few spans cover and the highest span not above it the same spans
-- cover, so no view there is covered by enough; so the last view of that span is the next candidate, and the first candidate with enough
-- is the highest view with enough. For the same reason the count goes down with the search: between two candidates nobody comes in, and at
-- a candidate those whose span ends there.
-- Assumes nothing.
use Prim.Native.Nat.{ℕ, zero, suc, ◌+◌, ◌-◌, ◌≤◌, ◌<◌, max}
use mathlib.Core.Path.{◌≡◌, refl, sym, ◌∙◌, ap}
use mathlib.Core.Bool.{Bool, true, false, cond}
use mathlib.Core.Logic.{◌↔◌}
use mathlib.Core.List.{List}
use native.Mathlib.Omega.{arith}
use native.Mathlib.Numerals.{add-one}
use native.Mathlib.Decide.{ℕ_discrete, dec_le}
use lib.Dec.{leb, ltb}
use lib.ListN.{get_or}
use borrow.Author.Tests.{leb-true, leb-false, le-leb, lt-leb, ltb-true, lt-ltb}
use Rattle.rules.specs.Sets.{equals, weigh}
use Rattle.rules.specs.Quorums.{is_blocking}
use Rattle.rules.proofs.Bools.{not_true}
use Rattle.rules.proofs.Quorums.{weigh_more, weigh_mono, weigh_same, blocking_weighs}
use Rattle.rules.specs.inside.Views.{views}
use Rattle.rules.proofs.Views.{Falls, views_are}
use Rattle.claims.specs.Carried.{Grows}
use Rattle.claims.specs.inside.Spans.{
  covering,
  stands_at,
  covered,
  covered_views,
  highest_to,
  Within,
  AreSpans,
  LocksCarried,
  LockCarried,
  LockOnce,
}
use Rattle.claims.proofs.Carried.{carried_members, once_member, ends_join}

-- One span more.
pub highest_more : (spans : List ℕ) (w k : ℕ) → highest_to spans w (k + 1) ≡ max (highest_to spans w k) (cond (leb (get_or spans k 0) w) (get_or spans k 0) 0)
unfolding highest_to
highest_more spans w k = rw add-one

-- Of no spans the highest is 0: where the loop starts.
pub highest_none : (spans : List ℕ) (w : ℕ) → highest_to spans w 0 ≡ 0
unfolding highest_to
highest_none spans w = refl

module _ (spans : List ℕ) (n f : ℕ) where
  -- How many cover view u.
  abbrev pub covers : ℕ → ℕ
  covers u = weigh (λ i. 1) (covering spans u) n

  -- View u is covered just where more than f spans cover it.
  pub covered_iff : (u : ℕ) → (covered spans n f u ≡ true) ↔ (f < covers u)
  unfolding covered
  covered_iff u = blocking_weighs (equals n f) (covering spans u)

  -- Those who cover view u cover w too, where no span ends in between.
  pub cover_mono : (u w : ℕ) → ((i : ℕ) → i < n → u < get_or spans i 0 → w < get_or spans i 0) → covers u ≤ covers w
  cover_mono u w to =
      weigh_mono (λ i. 1) (covering spans u) (covering spans w) n (λ i low h. lt-ltb w (get_or spans i 0) (to i low (ltb-true u (get_or spans i 0) h)))

  -- A view below a covered one is covered too, so the covered views are the first so many.
  covered_falls : Falls (covered spans n f)
  covered_falls u w le h =
      (covered_iff w).1 (omega (arith, (covered_iff u).0 h, cover_mono u w (λ i low (l : u < get_or spans i 0). omega arith)))

  -- The highest span not above w is no lower than any of them.
  highest_at : (w k i : ℕ) → i < k → get_or spans i 0 ≤ w → get_or spans i 0 ≤ highest_to spans w k
  unfolding highest_to
  highest_at w zero i low le = absurd (omega arith)
  highest_at w (suc k) i low le = go (ℕ_discrete i k) (highest_at w k i)
    where
      go : Dec (i ≡ k) → (i < k → get_or spans i 0 ≤ w → get_or spans i 0 ≤ highest_to spans w k)
          → get_or spans i 0 ≤ max (highest_to spans w k) (cond (leb (get_or spans k 0) w) (get_or spans k 0) 0)
      go (yes same) rest =
          let at : get_or spans k 0 ≤ w = rw same at le in
          rw (same, le-leb (get_or spans k 0) w at) (omega arith)
      go (no differ) rest = omega (arith, rest (omega arith) le)

  -- It is not above w, so the search goes down.
  pub highest_low : (w k : ℕ) → highest_to spans w k ≤ w
  unfolding highest_to
  highest_low w zero = omega arith
  highest_low w (suc k) = omega (arith, highest_low w k, share (get_or spans k 0) (dec_le (get_or spans k 0) w))
    where
      share : (x : ℕ) → Dec (x ≤ w) → cond (leb x w) x 0 ≤ w
      share x (yes le) = rw (le-leb x w le) le
      share x (no above) = rw (lt-leb x w (omega arith)) (omega arith)

  -- The view at the highest span not above w is covered by as many as w: no span ends in between, so the same spans cover view by view.
  pub candidates_exact : (w : ℕ) → covers (highest_to spans w n) ≡ covers w
  candidates_exact w =
      omega (arith, cover_mono (highest_to spans w n) w (λ i low above. up i low above (dec_le (get_or spans i 0) w)), cover_mono w (highest_to spans w n) down)
    where
      up : (i : ℕ) → i < n → highest_to spans w n < get_or spans i 0 → Dec (get_or spans i 0 ≤ w) → w < get_or spans i 0
      up i low above (yes le) = absurd (omega (arith, highest_at w n i low le))
      up i low above (no high) = omega arith

      down : (i : ℕ) → i < n → w < get_or spans i 0 → highest_to spans w n < get_or spans i 0
      down i low above = omega (arith, highest_low w n)

  -- All spans are at most v: none covers v.
  pub nobody_at : (v : ℕ) → Within spans n v → covers v ≡ 0
  unfolding weigh
  nobody_at v within =
      omega (arith, weigh_mono (λ i. 1) (covering spans v) (λ i. false) n (λ i low h. absurd (above i low h)), nothing n)
    where
      above : (i : ℕ) → i < n → covering spans v i ≡ true → ⊥
      above i low h = omega (arith, ltb-true v (get_or spans i 0) h, within i low)

      nothing : (k : ℕ) → weigh (λ i. 1) (λ i. false) k ≡ 0
      nothing zero = refl
      nothing (suc k) = omega (arith, nothing k)

  -- The first candidate is sought from v. No lock is above it, so the count starts at 0.
  pub locks_first : (v t : ℕ) → Within spans n v → t ≡ highest_to spans v n → LocksCarried spans n f v t 0
  locks_first v t within is = record {
    are = sym (ap covers is ∙ candidates_exact v ∙ nobody_at v within);
    few = omega arith;
    low = omega (arith, is, highest_low v n);
  }

  -- One vault more of those that come in at a candidate: what the loop adds to the count that is carried down to it.
  pub locks_more : (t k locks count share : ℕ) → count ≡ locks + weigh (λ i. 1) (stands_at spans t) k → share ≡ cond (stands_at spans t k) 1 0
      → count + share ≡ locks + weigh (λ i. 1) (stands_at spans t) (k + 1)
  locks_more t k locks count share is adds = omega (arith, weigh_more (λ i. 1) (stands_at spans t) k)

  module _ (v t locks : ℕ) (c : LocksCarried spans n f v t locks) where
    -- There is no candidate left: too few have a lock above view 0.
    pub locks_none : t ≡ 0 → 0 ≡ covered_views spans n f v
    unfolding covered_views
    locks_none none =
        sym (views_are (covered spans n f) covered_falls v 0 (omega arith) (λ u (same : u + 1 ≡ 0). absurd (omega arith))
        (λ below. not_true (covered spans n f 0) (λ h. over ((covered_iff 0).0 h))))
      where
        over : f < covers 0 → ⊥
        over more = let at : locks ≡ covers 0 = c.are ∙ ap covers none in omega (arith, c.few)

    module _ (there : 0 < t) (all : ℕ) (count : all ≡ locks + weigh (λ i. 1) (stands_at spans t) n) where
      -- Those whose span ends at t have come in: the count is that of all whose lock is above view t - 1.
      pub locks_counted : all ≡ covers (t - 1)
      locks_counted =
          count ∙ ap (λ (x : ℕ). x + weigh (λ i. 1) (stands_at spans t) n) c.are ∙ sym (ends_join (λ i. 1) (λ i. get_or spans i 0) n t there)

      -- They are enough: view t - 1 is the highest with enough, as too few have a lock above view t.
      pub locks_found : leb (f + 1) all ≡ true → t ≡ covered_views spans n f v
      unfolding covered_views
      locks_found enough =
          sym (views_are (covered spans n f) covered_falls v t c.low (λ u (same : u + 1 ≡ t). at u (omega arith))
          (λ below. not_true (covered spans n f t) (λ h. omega (arith, (covered_iff t).0 h, c.are, c.few))))
        where
          at : (u : ℕ) → u ≡ t - 1 → covered spans n f u ≡ true
          at u same = rw same ((covered_iff (t - 1)).1 (omega (arith, leb-true (f + 1) all enough, locks_counted)))

      -- They are too few: the count goes down with the search to the next candidate, where the same locks are above the view.
      pub locks_next : leb (f + 1) all ≡ false → (next : ℕ) → next ≡ highest_to spans (t - 1) n → LocksCarried spans n f v next all
      locks_next few next is = record {
        are = locks_counted ∙ sym (ap covers is ∙ candidates_exact (t - 1));
        few = omega (arith, leb-false (f + 1) all few);
        low = omega (arith, is, highest_low (t - 1) n, c.low);
      }

-- ---- the theorem on carried counts, of locks

-- A lock above a view is above every lower view.
locks_grow : (spans : List ℕ) → Grows (covering spans)
locks_grow spans u w i le h = lt-ltb w (get_or spans i 0) (omega (arith, ltb-true u (get_or spans i 0) h))

-- The count at each candidate view is that of the vaults whose lock is above it.
pub lock_carried : LockCarried
lock_carried weight spans n x down k = carried_members (covering spans) (locks_grow spans) x down weight n k

-- A vault's lock is counted once.
pub lock_once : LockOnce
lock_once spans i x down j k = once_member (covering spans) (locks_grow spans) x down i j k

-- ---- the spans of the vaults

module _ (spans : List ℕ) (n : ℕ) (span : ℕ → ℕ) (are : AreSpans spans n span) where
  -- A test of views that asks for a blocking set passes in as many views as the spans say.
  pub spans_reach : (f v : ℕ) (test : ℕ → Bool) → ((u : ℕ) → u < v → test u ≡ is_blocking (equals n f) (λ i. ltb u (span i)))
      → covered_views spans n f v ≡ views test v
  unfolding covered_views covered is_blocking
  spans_reach f v test asks = weigh_same (λ u. 1) (covered spans n f) test v (λ u low. ap (leb (f + 1)) (same u) ∙ sym (asks u low))
    where
      same : (u : ℕ) → weigh (λ i. 1) (covering spans u) n ≡ weigh (λ i. 1) (λ i. ltb u (span i)) n
      same u = weigh_same (λ i. 1) (covering spans u) (λ i. ltb u (span i)) n (λ i low. ap (λ (t : ℕ). ltb u t) (are i low))
