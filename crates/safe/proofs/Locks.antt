-- What the search rests on that has to do with locks (document 01, 'When a plan is safe'). By spans, the lowest view above which some
-- quorum has no lock. A report's lock allows every plan, its own, or none; and at the lowest view some plan is not allowed, as else a
-- quorum had no lock above an earlier view.
-- Assumes nothing.
use Prim.Native.Nat.{ℕ, zero, suc, ◌+◌, ◌-◌, ◌*◌, ◌≤◌, ◌<◌, min, max}
use mathlib.Core.Path.{◌≡◌, refl, sym, ◌∙◌, ap}
use mathlib.Core.Logic.{◌≢◌, ◌⊎◌, inl, inr, ⊎_elim}
use mathlib.Core.Bool.{true, false, not, ◌||◌, false≢true}
use mathlib.Core.Option.{Option, none, some}
use mathlib.Core.List.{List}
use native.Mathlib.Omega.{arith}
use native.Mathlib.Decide.{ℕ_discrete}
use lib.Dec.{leb, ltb, eqb}
use lib.ListN.{get_or}
use borrow.Author.Tests.{le-leb, lt-leb, leb-true, eqb-true, eqb-false, eq-eqb, ne_eqb, not-true}
use Rattle.rules.specs.Sets.{Vaults, equals}
use Rattle.rules.specs.Quorums.{is_quorum}
use Rattle.rules.proofs.Bools.{clash, not_true, both_split, either}
use Rattle.rules.proofs.Quorums.{blocking_rest, quorum_by_weight}
use Rattle.rules.specs.Options.{is_none, holds}
use Rattle.rules.specs.Rules.{Vote, Report, Reports, view_of, lock_allows, allows, unlocked, reporting}
use Rattle.rules.specs.inside.Counts.{free, allowed, plan_or, plan_by}
use Rattle.rules.specs.inside.Views.{under, cleared, lock_span, lowest_view, Lowest}
use Rattle.rules.proofs.Single.{under_rises}
use Rattle.rules.proofs.Laws.{enough_reports}
use Rattle.rules.proofs.Views.{Falls, views_iff, cleared_spans}
use Rattle.claims.specs.inside.Spans.{AreSpans, covered_views}
use Rattle.claims.specs.Table.{column, vote_above, reporter, reports_in_table}
use Rattle.claims.proofs.Rows.{view_in}
use Rattle.claims.proofs.Spans.{spans_reach}

-- ---- spans

-- The spans of the locks tell the lowest view with a cleared quorum.
pub spans_lock : (n f v : ℕ) (rs : Reports) (spans : List ℕ) → AreSpans spans n (λ i. lock_span v (rs i))
    → covered_views spans n f v ≡ lowest_view (equals n f) rs v
unfolding lowest_view
spans_lock n f v rs spans are =
    spans_reach spans n (λ i. lock_span v (rs i)) are f v (λ u. not (cleared (equals n f) rs u))
    (λ u low. ap not (cleared_spans (equals n f) rs v u low) ∙ sym (blocking_rest (equals n f) (λ i. ltb u (lock_span v (rs i)))))

-- ---- the lock of one report

module _ (t : List ℕ) (r : ℕ) (reports : reporter t r ≡ true) where
  -- The plan of vault r's lock.
  abbrev plan : ℕ
  plan = get_or t (column * 6 + r) 0

  -- Its span goes by its view.
  pub span_in : (v : ℕ) → lock_span v (reports_in_table t r) ≡ min (get_or t (column * 5 + r) 0 - 1) v
  unfolding reports_in_table
  span_in v = rw (reports, view_in (get_or t (column * 5 + r) 0) plan)

  -- It allows p at view u where it is absent or does not stand against p. Its view + 1 is above, 0 where there is none.
  module _ (above : ℕ) (lock : above ≡ get_or t (column * 5 + r) 0) (u p : ℕ) where
    -- Whether the report allows p, by its two columns of the table.
    allows_in : reporting (reports_in_table t) (allows p u) r ≡ (is_none (vote_above above plan) || holds (lock_allows p u) (vote_above above plan))
    unfolding reports_in_table allows
    allows_in = rw (reports, lock)

    -- Where it has a lock, that lock alone decides.
    there : above ≢ 0 → reporting (reports_in_table t) (allows p u) r ≡ lock_allows p u (record { view = above - 1; plan = plan })
    unfolding vote_above
    there is = allows_in ∙ rw (ne_eqb above 0 is)

    -- It is absent or below u.
    pub allows_every : above ≤ u → reporting (reports_in_table t) (allows p u) r ≡ true
    unfolding vote_above
    allows_every low = go (ℕ_discrete above 0)
      where
        go : Dec (above ≡ 0) → reporting (reports_in_table t) (allows p u) r ≡ true
        go (yes absent) = allows_in ∙ rw (eq-eqb above 0 absent)
        go (no is) = there is ∙ rw (le-leb (above - 1) u (omega arith), ne_eqb (above - 1) u (λ (e : above - 1 ≡ u). omega arith))

    -- It is at view u.
    pub allows_one : u < above → above - 1 ≡ u → reporting (reports_in_table t) (allows p u) r ≡ eqb plan p
    allows_one high at = there (λ (e : above ≡ 0). omega arith) ∙ rw (le-leb (above - 1) u (omega arith), eq-eqb (above - 1) u at)

    -- It is above view u.
    pub allows_none : u < above → above - 1 ≢ u → reporting (reports_in_table t) (allows p u) r ≡ false
    allows_none high off = there (λ (e : above ≡ 0). omega arith) ∙ rw (lt-leb (above - 1) u (over off))
      where
        over : above - 1 ≢ u → u < above - 1
        over off = go (ℕ_discrete (above - 1) u)
          where
            go : Dec (above - 1 ≡ u) → u < above - 1
            go (yes at) = absurd (off at)
            go (no differ) = omega arith

-- ---- a plan that is not allowed

-- A plan above those of the first k locks.
unfoldable fresh_plan : Reports → ℕ → ℕ
fresh_plan rs zero = 0
fresh_plan rs (suc k) = max (fresh_plan rs k) (plan_by (λ r. r.lock) 0 (rs k) + 1)

-- It is above the plan of each of those locks, so it is none of them.
fresh_above : (rs : Reports) (k i : ℕ) → i < k → plan_by (λ r. r.lock) 0 (rs i) < fresh_plan rs k
unfolding fresh_plan
fresh_above rs zero i low = absurd (omega arith)
fresh_above rs (suc k) i low = go (ℕ_discrete i k) (fresh_above rs k i)
  where
    go : Dec (i ≡ k) → (i < k → plan_by (λ r. r.lock) 0 (rs i) < fresh_plan rs k)
        → plan_by (λ r. r.lock) 0 (rs i) < max (fresh_plan rs k) (plan_by (λ r. r.lock) 0 (rs k) + 1)
    go (yes same) rest = rw same (omega arith)
    go (no differ) rest = omega (arith, rest (omega arith))

-- A lock for another plan allows p at view u only below it.
other_lock : (o : Option Vote) (p u : ℕ) → plan_or 0 o < p → (is_none o || holds (lock_allows p u) o) ≡ true → (is_none o ≡ true) ⊎ (view_of o < u)
other_lock none p u less h = inl refl
other_lock (some x) p u less h =
    let (low, at) = both_split (leb x.view u) _ h in
    inr (go (leb-true x.view u low) (either (not (eqb x.view u)) _ at))
  where
    go : x.view ≤ u → (not (eqb x.view u) ≡ true) ⊎ (eqb x.plan p ≡ true) → x.view < u
    go le (inl off) = under' le (eqb-false x.view u (not-true _ off))
      where
        under' : x.view ≤ u → x.view ≢ u → x.view < u
        under' le off = pick (ℕ_discrete x.view u)
          where
            pick : Dec (x.view ≡ u) → x.view < u
            pick (yes same) = absurd (off same)
            pick (no differ) = omega arith
    go le (inr same) = let e : x.plan ≡ p = eqb-true x.plan p same in absurd (omega arith)

module _ (vs : Vaults) (rs : Reports) (v u : ℕ) (l : Lowest vs rs v u) where
  -- A plan that no lock is for.
  abbrev fresh : ℕ
  fresh = fresh_plan rs vs.n

  -- With no quorum cleared at a view, none is at an earlier one, so `lowest_view` may count them.
  locked_falls : Falls (λ w. not (cleared vs rs w))
  unfolding cleared
  locked_falls a b le h =
      ap not (not_true (cleared vs rs b) (λ at. clash
      (enough_reports vs (is_quorum vs) (quorum_by_weight vs) rs (under b) (under a) (λ i low r is. under_rises r b a le) at) (not-true _ h)))

  -- A report that allows the fresh plan at u has no lock, or one below u.
  lock_below : (i : ℕ) → i < vs.n → (r : Report) → rs i ≡ some r → allows fresh u r ≡ true → (unlocked r ≡ true) ⊎ (view_of r.lock < u)
  unfolding allows unlocked
  lock_below i low r is h = other_lock r.lock fresh u (rw is at (fresh_above rs vs.n i low)) h

  -- If a quorum allowed the fresh plan at view 0, that quorum would have no lock at all.
  at_start : u ≡ 0 → allowed vs rs fresh u ≡ true → free vs rs ≡ true
  unfolding allowed free
  at_start first h =
      enough_reports vs (is_quorum vs) (quorum_by_weight vs) rs (allows fresh u) unlocked
      (λ i low r is a. ⊎_elim (λ none. none) (λ (less : view_of r.lock < u). absurd (omega arith)) (lock_below i low r is a)) h

  -- If a quorum allowed it at a later u, that quorum would be cleared one view earlier.
  before : u ≢ 0 → allowed vs rs fresh u ≡ true → cleared vs rs (u - 1) ≡ true
  unfolding allowed cleared under unlocked
  before later h =
      enough_reports vs (is_quorum vs) (quorum_by_weight vs) rs (allows fresh u) (under (u - 1)) (λ i low r is a. go r.lock (lock_below i low r is a)) h
    where
      go : (o : Option Vote) → (is_none o ≡ true) ⊎ (view_of o < u) → leb (view_of o) (u - 1) ≡ true
      go none e = le-leb 0 (u - 1) (omega arith)
      go (some x) (inl e) = absurd (false≢true e)
      go (some x) (inr less) = le-leb x.view (u - 1) (omega arith)

  -- At the lowest view some plan is not allowed.
  pub some_blocked : (p : ℕ) × (allowed vs rs p u ≡ false)
  unfolding lowest_view
  some_blocked = (fresh, not_true _ (go (ℕ_discrete u 0)))
    where
      go : Dec (u ≡ 0) → allowed vs rs fresh u ≡ true → ⊥
      go (yes first) h = clash (at_start first h) l.locked
      go (no later) h =
          let less : u - 1 < lowest_view vs rs v = omega (arith, l.is) in
          clash (before later h) (not-true _ ((views_iff (λ w. not (cleared vs rs w)) locked_falls v (u - 1) (omega (arith, l.below))).1 less))
