-- Two views decide (document 01, step C: 'The search over candidate views ends at the first one that serves the plan').
-- What backs a plan falls with the view and what allows it rises. Below the lowest view u with a quorum that has no lock above it no
-- plan is allowed; above u every plan is. So a plan is safe exactly if u serves it or, where locks at u stand against it, the next view.
-- Assumes nothing.
use Prim.Native.Nat.{ℕ, zero, suc, ◌+◌, ◌≤◌, ◌<◌, min}
use mathlib.Core.Path.{◌≡◌, refl, sym, ◌∙◌, ap}
use mathlib.Core.Logic.{◌≢◌, ◌⊎◌, inl, inr, ⊎_elim, ◌↔◌}
use mathlib.Core.Bool.{Bool, true, false, cond, not, ◌&&◌}
use mathlib.Core.Option.{Option, none, some}
use native.Mathlib.Omega.{arith}
use native.Mathlib.Decide.{ℕ_discrete, dec_lt, dec_le}
use lib.Dec.{leb, ltb, eqb}
use borrow.Author.Tests.{ltb-true, le-leb, lt-leb, lt-ltb, le-ltb, eqb-true, not-true}
use Rattle.rules.specs.inside.Bools.{any_below}
use Rattle.rules.specs.Sets.{Vaults, weigh}
use Rattle.rules.specs.Quorums.{is_quorum}
use Rattle.rules.proofs.Bools.{which, clash, not_true, same_test, both_split, both_join, or_left, or_right, either, any_at, any_where}
use Rattle.rules.proofs.Quorums.{quorum_by_weight, enough_mono, weigh_most}
use Rattle.rules.specs.Rules.{Report, Reports, Rule, rule1, rule3, view_of, allows, reporting, TwoSets}
use Rattle.rules.specs.Options.{holds}
use Rattle.rules.specs.inside.Counts.{claimed, free, allowed, two_sets, backed, safe}
use Rattle.rules.specs.inside.Views.{views, under, cleared, lock_span, lowest_view, Lowest}
use Rattle.rules.proofs.Single.{allows_under, under_allows, under_rises}
use Rattle.rules.proofs.Laws.{enough_reports, claimed_iff, claimed_falls, two_iff}

-- ---- tests that fall with the view

-- A test that passes at a view passes at every earlier one.
abbrev pub Falls : (ℕ → Bool) → Type 0
Falls test = (u w : ℕ) → w ≤ u → test u ≡ true → test w ≡ true

module _ (test : ℕ → Bool) (falls : Falls test) where
  -- If the last of c views passes, all c do.
  views_all : (c : ℕ) → ((u : ℕ) → u + 1 ≡ c → test u ≡ true) → views test c ≡ c
  unfolding weigh
  views_all zero last = refl
  views_all (suc c) last =
      let at : test c ≡ true = last c (omega arith) in
      rw at (omega (arith, views_all c (λ u (e : u + 1 ≡ c). falls c u (omega arith) at)))

  -- The first c views pass and the next does not: c views pass.
  pub views_are : (v c : ℕ) → c ≤ v → ((u : ℕ) → u + 1 ≡ c → test u ≡ true) → (c < v → test c ≡ false) → views test v ≡ c
  unfolding weigh
  views_are zero c le last next = omega arith
  views_are (suc v) c le last next = go (dec_lt v c) (views_are v c)
    where
      go : Dec (v < c) → (c ≤ v → ((u : ℕ) → u + 1 ≡ c → test u ≡ true) → (c < v → test c ≡ false) → views test v ≡ c)
          → views test v + cond (test v) 1 0 ≡ c
      go (yes all) rest =
          let e : views test (suc v) ≡ suc v = views_all (suc v) (λ u (e : u + 1 ≡ suc v). last u (omega arith)) in
          omega arith
      go (no part) rest =
          let off : test v ≡ false = not_true (test v) (λ h. clash (falls v c (omega arith) h) (next (omega arith))) in
          rw off (omega (arith, rest (omega arith) last (λ (l : c < v). next (omega arith))))

  -- A view below v passes exactly if it is one of the first so many.
  pub views_iff : (v u : ℕ) → u < v → (test u ≡ true) ↔ (u < views test v)
  unfolding weigh
  views_iff zero u low = absurd (omega arith)
  views_iff (suc v) u low = go (which (test v)) (views_iff v)
    where
      go : (test v ≡ true) ⊎ (test v ≡ false) → ((w : ℕ) → w < v → (test w ≡ true) ↔ (w < views test v))
          → (test u ≡ true) ↔ (u < views test v + cond (test v) 1 0)
      go (inl at) rest =
          let all : views test (suc v) ≡ suc v = views_all (suc v) (λ u (e : u + 1 ≡ suc v). falls v u (omega arith) at) in
          (λ h. omega arith, λ h. falls v u (omega arith) at)
      go (inr off) rest = (λ h. rw off (below h (ℕ_discrete u v)), λ h. (rest u (within (rw off at h))).1 (cut (rw off at h)))
        where
          cut : u < views test v + 0 → u < views test v
          cut h = omega arith

          within : u < views test v + 0 → u < v
          within h = omega (arith, weigh_most test v)

          below : test u ≡ true → Dec (u ≡ v) → u < views test v + 0
          below h (yes same) = absurd (clash (rw same at h) off)
          below h (no differ) = omega (arith, (rest u (omega arith)).0 h)

module _ (vs : Vaults) (rs : Reports) (v : ℕ) where
  -- ---- the views that back a plan

  -- The two-set clause, if it passes at a view, passes at earlier ones.
  two_falls : Falls (two_sets vs rs v)
  two_falls u w le h =
      let t : TwoSets vs rs v u = (two_iff vs rs v u).1 h in
      (two_iff vs rs v w).0 (record {
        p₁ = t.p₁;
        p₂ = t.p₂;
        a = t.a;
        b = t.b;
        another = t.another;
        from = omega arith;
        later = t.later;
        before = t.before;
        first = t.first;
        second = t.second;
      })

  -- What backs a plan at a view backs it at earlier ones.
  backed_falls : (rule : Rule) (p : ℕ) → Falls (backed rule vs rs v p)
  unfolding backed
  backed_falls rule1 p u w le h = claimed_falls vs rs p u w le h
  backed_falls rule3 p u w le h =
      ⊎_elim (λ c. or_left (claimed vs rs p w) _ (claimed_falls vs rs p u w le c)) (λ t. or_right (claimed vs rs p w) _ (two_falls u w le t))
      (either (claimed vs rs p u) _ h)

  -- ---- the two-set clause at view u

  -- The two-set clause needs a view between u and v.
  pub two_late : (u : ℕ) → v ≤ u + 1 → two_sets vs rs v u ≡ false
  two_late u late = not_true _ (λ h. let t : TwoSets vs rs v u = (two_iff vs rs v u).1 h in omega arith)

  -- Where the two-set clause passes, one plan is claimed at u and another at the next view.
  two_claims : (u : ℕ) → two_sets vs rs v u ≡ true → (p₁ p₂ : ℕ) × (p₂ ≢ p₁) × (claimed vs rs p₁ u ≡ true) × (claimed vs rs p₂ (u + 1) ≡ true)
  two_claims u h =
      let t : TwoSets vs rs v u = (two_iff vs rs v u).1 h in (
        t.p₁,
        t.p₂,
        t.another,
        claimed_falls vs rs t.p₁ t.a u t.from ((claimed_iff vs rs t.p₁ t.a).0 t.first),
        claimed_falls vs rs t.p₂ t.b (u + 1) (omega arith) ((claimed_iff vs rs t.p₂ t.b).0 t.second),
      )

  -- No plan is claimed at the next view.
  pub two_none : (u : ℕ) → ((y : ℕ) → claimed vs rs y (u + 1) ≡ false) → two_sets vs rs v u ≡ false
  two_none u never = not_true _ (λ h. let (p₁, p₂, differ, at, next) = two_claims u h in clash next (never p₂))

  -- No plan but m is claimed at u.
  pub two_lone : (u m : ℕ) → ((y : ℕ) → y ≢ m → claimed vs rs y u ≡ false) → two_sets vs rs v u ≡ false
  two_lone u m lone = not_true _ (λ h. let (p₁, p₂, differ, at, next) = two_claims u h in go p₁ p₂ differ at next (ℕ_discrete p₁ m))
    where
      go : (p₁ p₂ : ℕ) → p₂ ≢ p₁ → claimed vs rs p₁ u ≡ true → claimed vs rs p₂ (u + 1) ≡ true → Dec (p₁ ≡ m) → ⊥
      go p₁ p₂ differ at next (yes same) = clash (claimed_falls vs rs p₂ (u + 1) u (omega arith) next) (lone p₂ (λ e. differ (e ∙ sym same)))
      go p₁ p₂ differ at next (no off) = clash at (lone p₁ off)

  -- Plan m is claimed at the next view, and another plan at u.
  pub two_both : (u m x : ℕ) → u + 1 < v → claimed vs rs m (u + 1) ≡ true → x ≢ m → claimed vs rs x u ≡ true → two_sets vs rs v u ≡ true
  two_both u m x low next differ at = (two_iff vs rs v u).0 (record {
    p₁ = x;
    p₂ = m;
    a = u;
    b = u + 1;
    another = λ e. differ (sym e);
    from = omega arith;
    later = omega arith;
    before = low;
    first = (claimed_iff vs rs x u).1 at;
    second = (claimed_iff vs rs m (u + 1)).1 next;
  })

  -- ---- the lowest view with a cleared quorum

  -- Reporters that pass a test are a quorum if those that pass a stronger one are.
  quorum_reports : (s t : Report → Bool) → ((r : Report) → s r ≡ true → t r ≡ true) → is_quorum vs (reporting rs s) ≡ true → is_quorum vs (reporting rs t) ≡ true
  quorum_reports s t to = enough_reports vs (is_quorum vs) (quorum_by_weight vs) rs s t (λ i low r is. to r)

  -- A quorum that allows p at a view has no lock above it.
  allowed_clears : (p u : ℕ) → allowed vs rs p u ≡ true → cleared vs rs u ≡ true
  unfolding allowed cleared
  allowed_clears p u = quorum_reports (allows p u) (under u) (λ r. allows_under r p u)

  -- A quorum with no lock above u allows every plan at every later view.
  cleared_allows : (p u w : ℕ) → u < w → cleared vs rs u ≡ true → allowed vs rs p w ≡ true
  unfolding allowed cleared
  cleared_allows p u w less = quorum_reports (under u) (allows p w) (λ r. under_allows r p u w less)

  -- If no quorum is cleared at a view, none is at an earlier one.
  locked_falls : Falls (λ u. not (cleared vs rs u))
  unfolding cleared
  locked_falls u w le h =
      ap not (not_true (cleared vs rs w) (λ at. clash (quorum_reports (under w) (under u) (λ r. under_rises r w u le) at) (not-true _ h)))

  -- A view below v has a cleared quorum exactly if it is not one of the first so many.
  cleared_iff : (u : ℕ) → u < v → (cleared vs rs u ≡ true) ↔ (lowest_view vs rs v ≤ u)
  unfolding lowest_view
  cleared_iff u low = (
    λ at. go (dec_le (lowest_view vs rs v) u) at,
    λ le. ⊎_elim (λ at. at) (λ off. let less : u < lowest_view vs rs v = (views_iff _ locked_falls v u low).0 (ap not off) in absurd (omega arith))
        (which (cleared vs rs u)),
  )
    where
      go : Dec (lowest_view vs rs v ≤ u) → cleared vs rs u ≡ true → lowest_view vs rs v ≤ u
      go (yes le) at = le
      go (no above) at = absurd (clash at (not-true _ ((views_iff (λ w. not (cleared vs rs w)) locked_falls v u low).1 (omega arith))))

  -- ---- safe plans

  -- A view below v that allows p and backs it makes it safe.
  served_safe : (rule : Rule) (p u : ℕ) → u < v → allowed vs rs p u ≡ true → backed rule vs rs v p u ≡ true → safe rule vs rs v p ≡ true
  unfolding safe
  served_safe rule p u low allow back =
      or_right (eqb v 0) _ (or_right (free vs rs) _
      (any_at (λ w. allowed vs rs p w && backed rule vs rs v p w) v u low (both_join (allowed vs rs p u) _ allow back)))

  -- No quorum is without a lock: then a safe plan has a view that serves it, and a quorum is cleared there.
  module _ (locked : free vs rs ≡ false) (above : v ≢ 0) where
    -- The view that serves a safe plan; it is not below the lowest one with a cleared quorum.
    safe_served : (rule : Rule) (p : ℕ) → safe rule vs rs v p ≡ true
        → (u : ℕ) × (u < v) × (lowest_view vs rs v ≤ u) × (allowed vs rs p u ≡ true) × (backed rule vs rs v p u ≡ true)
    unfolding safe
    safe_served rule p h =
        ⊎_elim (λ start. absurd (above (eqb-true v 0 start)))
        (λ g. ⊎_elim (λ at. absurd (clash at locked)) found (either (free vs rs) _ g))
        (either (eqb v 0) _ h)
      where
        found : any_below (λ u. allowed vs rs p u && backed rule vs rs v p u) v ≡ true
            → (u : ℕ) × (u < v) × (lowest_view vs rs v ≤ u) × (allowed vs rs p u ≡ true) × (backed rule vs rs v p u ≡ true)
        found h =
            let (u, low, both) = any_where (λ w. allowed vs rs p w && backed rule vs rs v p w) v h in
            let (allow, back) = both_split (allowed vs rs p u) _ both in
            (u, low, (cleared_iff u low).0 (allowed_clears p u allow), allow, back)

    -- No view below v has a cleared quorum: no plan is safe.
    pub never_safe : (rule : Rule) (p u : ℕ) → u ≡ lowest_view vs rs v → v ≤ u → safe rule vs rs v p ≡ false
    never_safe rule p u is high = not_true _ (λ h. let (w, low, le, allow, back) = safe_served rule p h in omega arith)

  module _ (rule : Rule) (p u : ℕ) (l : Lowest vs rs v u) where
    -- The same, from the lowest view u.
    served_by : safe rule vs rs v p ≡ true → (w : ℕ) × (w < v) × (u ≤ w) × (allowed vs rs p w ≡ true) × (backed rule vs rs v p w ≡ true)
    served_by h =
        let (w, low, le, allow, back) = safe_served l.locked (λ (z : v ≡ 0). omega (arith, l.below)) rule p h in
        (w, low, omega (arith, l.is), allow, back)

    -- The locks at u allow p: u serves p, or no view does.
    pub first_serves : allowed vs rs p u ≡ true → safe rule vs rs v p ≡ backed rule vs rs v p u
    first_serves allow = same_test _ _ (λ h. let (w, low, le, at, back) = served_by h in backed_falls rule p w u le back) (served_safe rule p u l.below allow)

    -- They stand against it: the next view serves p, or no view does.
    pub next_serves : allowed vs rs p u ≡ false → safe rule vs rs v p ≡ (ltb (u + 1) v && backed rule vs rs v p (u + 1))
    next_serves off = same_test _ _ to from
      where
        later : (w : ℕ) → u ≤ w → allowed vs rs p w ≡ true → Dec (w ≡ u) → u + 1 ≤ w
        later w le at (yes same) = absurd (clash (rw same at at) off)
        later w le at (no differ) = omega arith

        to : safe rule vs rs v p ≡ true → (ltb (u + 1) v && backed rule vs rs v p (u + 1)) ≡ true
        to h =
            let (w, low, le, at, back) = served_by h in
            let less : u + 1 ≤ w = later w le at (ℕ_discrete w u) in
            both_join (ltb (u + 1) v) _ (lt-ltb (u + 1) v (omega arith)) (backed_falls rule p w (u + 1) less back)

        from : (ltb (u + 1) v && backed rule vs rs v p (u + 1)) ≡ true → safe rule vs rs v p ≡ true
        from h =
            let (below, back) = both_split (ltb (u + 1) v) _ h in
            let clear : cleared vs rs u ≡ true = (cleared_iff u l.below).1 (omega (arith, l.is)) in
            served_safe rule p (u + 1) (ltb-true (u + 1) v below) (cleared_allows p u (u + 1) (omega arith) clear) back

  -- ---- locks by the spans of the reports

  -- At a view below v, a quorum is cleared exactly if the others, with a lock above it or no report, are not too many.
  pub cleared_spans : (u : ℕ) → u < v → cleared vs rs u ≡ is_quorum vs (λ i. not (ltb u (lock_span v (rs i))))
  unfolding cleared under
  cleared_spans u low =
      same_test _ _ (enough_mono vs (is_quorum vs) (quorum_by_weight vs) _ _ (λ i below h. sym (same (rs i)) ∙ h))
      (enough_mono vs (is_quorum vs) (quorum_by_weight vs) _ _ (λ i below h. same (rs i) ∙ h))
    where
      same : (o : Option Report) → holds (under u) o ≡ not (ltb u (lock_span v o))
      same none = ap not (sym (lt-ltb u v low))
      same (some r) = go (dec_lt u (view_of r.lock))
        where
          go : Dec (u < view_of r.lock) → leb (view_of r.lock) u ≡ not (ltb u (min (view_of r.lock) v))
          go (yes less) = lt-leb (view_of r.lock) u less ∙ ap not (sym (lt-ltb u (min (view_of r.lock) v) (omega arith)))
          go (no more) = le-leb (view_of r.lock) u (omega arith) ∙ ap not (sym (le-ltb u (min (view_of r.lock) v) (omega arith)))
