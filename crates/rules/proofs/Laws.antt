-- The rules by sets are the rules by counting (document 01, 'When a plan is safe'; step C).
-- A set of reporters that pass a test is enough exactly if all that pass are (`counted`), so only the views and the plans are
-- left to search. Views: those below v. Plans of the two-set clause: a plan that no highest vote is for is claimed only where
-- every plan is, so the highest votes' plans and any two others will do. Plans of step C: for the same reason a plan that no
-- report names is safe only if every plan is, so where the starting plan is not, the smallest safe plan is named by a report.
-- Assumes nothing.
use Prim.Native.Nat.{ℕ, zero, suc, ◌+◌, ◌-◌, ◌≤◌, ◌<◌, min}
use mathlib.Core.Path.{◌≡◌, refl, sym, ◌∙◌, ap, subst}
use mathlib.Core.Logic.{◌≢◌, ◌⊎◌, inl, inr, ⊎_elim, ◌↔◌}
use mathlib.Core.Bool.{Bool, true, false, cond, not, ◌&&◌, false≢true}
use mathlib.Core.Option.{Option, none, some}
use native.Mathlib.Omega.{arith}
use native.Mathlib.Decide.{ℕ_discrete}
use lib.Dec.{ltb, eqb}
use borrow.Author.Tests.{ltb-true, lt-ltb, le-ltb, eqb-true, eqb-false, eq-eqb, ne_eqb, not-true}
use Rattle.rules.specs.inside.Bools.{any_below}
use Rattle.rules.specs.Sets.{Vaults, Set}
use Rattle.rules.specs.Quorums.{is_blocking}
use Rattle.rules.proofs.Bools.{which, clash, not_true, both_split, both_join, or_left, or_right, either, any_at, any_where}
use Rattle.rules.proofs.Quorums.{ByWeight, blocking_by_weight, enough_mono, group_map, count_quorum, count_blocking}
use Rattle.rules.specs.Options.{holds}
use Rattle.rules.specs.Rules.{Vote, Report, Reports, Rule, rule1, rule3, claims, unlocked, allows, reporting, Claimed, TwoSets, Backed, Safe}
use Rattle.rules.specs.Rules.{at_start, no_lock, since, IsSmallest, Chosen, own, other}
use Rattle.rules.specs.inside.Counts.{claimed, free, allowed, plan_or, plan_by, voted_plan, two_claimed, two_sets, backed, safe, names, named_plan}
use Rattle.rules.specs.inside.Counts.{smaller, smallest, choice}
use Rattle.rules.specs.Sentences.{CountingIsTheRule, ChoiceIsTheRule}
use Rattle.rules.proofs.Single.{claims_fall, claims_unnamed, allows_unnamed, names_split}

-- ---- reporters

-- What passes a test passes a weaker one.
pub holds_map : {A : Type 0} (o : Option A) (s t : A → Bool) → ((x : A) → o ≡ some x → s x ≡ true → t x ≡ true) → holds s o ≡ true → holds t o ≡ true
holds_map none s t to h = h
holds_map (some x) s t to h = to x refl h

-- Where an option passes a test, something is there that does.
pub holds_where : {A : Type 0} (o : Option A) (s : A → Bool) → holds s o ≡ true → (x : A) × (o ≡ some x) × (s x ≡ true)
holds_where none s h = absurd (false≢true h)
holds_where (some x) s h = (x, refl, h)

-- Reporters that pass one test are enough if those that pass a stronger one are.
pub enough_reports : (vs : Vaults) (enough : Set → Bool) → ByWeight vs enough → (rs : Reports) (s t : Report → Bool)
    → ((i : ℕ) → i < vs.n → (r : Report) → rs i ≡ some r → s r ≡ true → t r ≡ true) → enough (reporting rs s) ≡ true → enough (reporting rs t) ≡ true
enough_reports vs enough by rs s t to = enough_mono vs enough by (reporting rs s) (reporting rs t) (λ i low h. holds_map (rs i) s t (to i low) h)

-- The vaults whose highest vote is for p.
abbrev pub votes : Reports → ℕ → Set
votes rs p = reporting rs (λ r. holds (λ x. eqb x.plan p) r.highest)

module _ (vs : Vaults) (rs : Reports) where
  -- Some blocking set claims p at u exactly if all that claim it are one.
  pub claimed_iff : (p u : ℕ) → Claimed vs rs p u ↔ (claimed vs rs p u ≡ true)
  unfolding claimed
  claimed_iff p u = count_blocking vs (reporting rs (claims p u))

  -- Claims fall with the view.
  pub claimed_falls : (p u w : ℕ) → w ≤ u → claimed vs rs p u ≡ true → claimed vs rs p w ≡ true
  unfolding claimed
  claimed_falls p u w le h =
      enough_reports vs (is_blocking vs) (blocking_by_weight vs) rs (claims p u) (claims p w) (λ i low r is. claims_fall r p u w le) h

  -- ---- the plans of highest votes

  -- The plan of a reporter whose highest vote is for p is p.
  pub votes_plan : (p i d : ℕ) → votes rs p i ≡ true → plan_by (λ r. r.highest) d (rs i) ≡ p
  votes_plan p i d h =
      let (r, is, voted) = holds_where (rs i) (λ r. holds (λ x. eqb x.plan p) r.highest) h in
      let (x, at, same) = holds_where r.highest (λ x. eqb x.plan p) voted in
      rw (is, at) (eqb-true x.plan p same)

  -- A plan that no highest vote is for is claimed only where every plan is.
  pub unvoted_claims : (p q u : ℕ) → any_below (votes rs p) vs.n ≡ false → claimed vs rs p u ≡ true → claimed vs rs q u ≡ true
  unfolding claimed
  unvoted_claims p q u unvoted h =
      enough_reports vs (is_blocking vs) (blocking_by_weight vs) rs (claims p u) (claims q u)
      (λ i low r is. claims_unnamed r p q u (not_true _
      (λ (at : holds (λ x. eqb x.plan p) r.highest ≡ true). clash (any_at (votes rs p) vs.n i low (rw is at)) unvoted))) h

  -- ---- the two-set clause

  -- p is one of the plans that the clause tries.
  abbrev Tried : ℕ → Type 0
  Tried p = (i : ℕ) × (i < vs.n + 2) × (voted_plan rs vs.n i ≡ p)

  -- The plan of a highest vote is tried.
  tried_voted : (p : ℕ) → any_below (votes rs p) vs.n ≡ true → Tried p
  tried_voted p h =
      let (i, low, at) = any_where (votes rs p) vs.n h in
      (i, omega arith, rw (lt-ltb i vs.n low) (votes_plan p i 0 at))

  -- Plans 0 and 1 are tried.
  tried_small : (p : ℕ) → p < 2 → Tried p
  tried_small p low =
      let e : vs.n + p - vs.n ≡ p = omega arith in
      (vs.n + p, omega arith, rw (le-ltb (vs.n + p) vs.n (omega arith)) e)

  -- Two of the plans tried, claimed at u and at the next view, make the clause pass.
  two_tried : (v u p₁ p₂ : ℕ) → u + 1 < v → p₂ ≢ p₁ → Tried p₁ → Tried p₂ → claimed vs rs p₁ u ≡ true → claimed vs rs p₂ (u + 1) ≡ true
      → two_sets vs rs v u ≡ true
  unfolding two_sets
  two_tried v u p₁ p₂ low differ (i, li, ei) (j, lj, ej) c₁ c₂ =
      both_join (ltb (u + 1) v) _ (lt-ltb (u + 1) v low)
      (any_at (λ k. any_below (λ l. two_claimed vs rs u (plan k) (plan l)) (vs.n + 2)) (vs.n + 2) i li
      (any_at (λ l. two_claimed vs rs u (plan i) (plan l)) (vs.n + 2) j lj both))
    where
      plan : ℕ → ℕ
      plan k = voted_plan rs vs.n k

      both : two_claimed vs rs u (voted_plan rs vs.n i) (voted_plan rs vs.n j) ≡ true
      both = rw (ei, ej) (both_join (not (eqb p₂ p₁)) _ (ap not (ne_eqb p₂ p₁ differ)) (both_join (claimed vs rs p₁ u) _ c₁ c₂))

  -- A plan that is not p, 0 or 1.
  another : (p : ℕ) → (q : ℕ) × (q < 2) × (p ≢ q)
  another zero = (1, omega arith, λ (e : ◌≡◌ {A = ℕ} 0 1). omega arith)
  another (suc p) = (0, omega arith, λ (e : suc p ≡ 0). omega arith)

  -- The two-set clause by sets is the one by counting: plans that no highest vote is for are replaced by 0 and 1.
  pub two_iff : (v u : ℕ) → TwoSets vs rs v u ↔ (two_sets vs rs v u ≡ true)
  unfolding two_sets
  two_iff v u = (to, from)
    where
      to : TwoSets vs rs v u → two_sets vs rs v u ≡ true
      to t = go (which (any_below (votes rs t.p₁) vs.n)) (which (any_below (votes rs t.p₂) vs.n))
        where
          low : u + 1 < v
          low = omega arith

          first : claimed vs rs t.p₁ u ≡ true
          first = claimed_falls t.p₁ t.a u t.from ((claimed_iff t.p₁ t.a).0 t.first)

          second : claimed vs rs t.p₂ (u + 1) ≡ true
          second = claimed_falls t.p₂ t.b (u + 1) (omega arith) ((claimed_iff t.p₂ t.b).0 t.second)

          go : (any_below (votes rs t.p₁) vs.n ≡ true) ⊎ (any_below (votes rs t.p₁) vs.n ≡ false)
              → (any_below (votes rs t.p₂) vs.n ≡ true) ⊎ (any_below (votes rs t.p₂) vs.n ≡ false) → two_sets vs rs v u ≡ true
          go (inl h₁) (inl h₂) = two_tried v u t.p₁ t.p₂ low t.another (tried_voted t.p₁ h₁) (tried_voted t.p₂ h₂) first second
          go (inr h₁) (inl h₂) =
              let (q, small, differ) = another t.p₂ in
              two_tried v u q t.p₂ low differ (tried_small q small) (tried_voted t.p₂ h₂) (unvoted_claims t.p₁ q u h₁ first) second
          go any_below₁ (inr h₂) =
              two_tried v u 0 1 low (λ (e : ◌≡◌ {A = ℕ} 1 0). omega arith) (tried_small 0 (omega arith)) (tried_small 1 (omega arith))
              (claimed_falls 0 (u + 1) u (omega arith) (unvoted_claims t.p₂ 0 (u + 1) h₂ second)) (unvoted_claims t.p₂ 1 (u + 1) h₂ second)

      from : two_sets vs rs v u ≡ true → TwoSets vs rs v u
      from h =
          let (low, found) = both_split (ltb (u + 1) v) _ h in
          let plan = voted_plan rs vs.n in
          let (i, li, more) = any_where (λ k. any_below (λ l. two_claimed vs rs u (plan k) (plan l)) (vs.n + 2)) (vs.n + 2) found in
          let (j, lj, both) = any_where (λ l. two_claimed vs rs u (plan i) (plan l)) (vs.n + 2) more in
          let (differ, c) = both_split (not (eqb (voted_plan rs vs.n j) (voted_plan rs vs.n i))) _ both in
          let (c₁, c₂) = both_split (claimed vs rs (voted_plan rs vs.n i) u) _ c in
          record {
            p₁ = voted_plan rs vs.n i;
            p₂ = voted_plan rs vs.n j;
            a = u;
            b = u + 1;
            another = eqb-false _ _ (not-true _ differ);
            from = omega arith;
            later = omega arith;
            before = ltb-true (u + 1) v low;
            first = (claimed_iff (voted_plan rs vs.n i) u).1 c₁;
            second = (claimed_iff (voted_plan rs vs.n j) (u + 1)).1 c₂;
          }

  -- ---- safe plans

  -- What a rule asks of the claims at a view, by sets and by counting.
  pub backed_iff : (rule : Rule) (v p u : ℕ) → Backed rule vs rs v p u ↔ (backed rule vs rs v p u ≡ true)
  unfolding backed
  backed_iff rule1 v p u = claimed_iff p u
  backed_iff rule3 v p u = (
    ⊎_elim (λ c. or_left (claimed vs rs p u) _ ((claimed_iff p u).0 c)) (λ t. or_right (claimed vs rs p u) _ ((two_iff v u).0 t)),
    λ h. ⊎_elim (λ c. inl ((claimed_iff p u).1 c)) (λ t. inr ((two_iff v u).1 t)) (either (claimed vs rs p u) _ h),
  )

  -- ---- plans named by no report

  -- Plans named by no report behave alike: where one is safe by Rule 1, every plan is.
  pub unnamed_safe : (v p q : ℕ) → any_below (reporting rs (names p)) vs.n ≡ false → Safe rule1 vs rs v p → Safe rule1 vs rs v q
  unnamed_safe v p q unnamed = go
    where
      apart : (i : ℕ) → i < vs.n → (r : Report) → rs i ≡ some r → names p r ≡ false
      apart i low r is = not_true (names p r) (λ (h : names p r ≡ true). clash (any_at (reporting rs (names p)) vs.n i low (rw is h)) unnamed)

      go : Safe rule1 vs rs v p → Safe rule1 vs rs v q
      go (at_start e) = at_start e
      go (no_lock free) = no_lock free
      go (since u low allowing claiming) =
          since u low
          (group_map (λ i below h. holds_map (rs i) (allows p u) (allows q u) (λ r is. allows_unnamed r p q u (names_split r p (apart i below r is)).0) h)
          allowing)
          (group_map (λ i below h. holds_map (rs i) (claims p u) (claims q u) (λ r is. claims_unnamed r p q u (names_split r p (apart i below r is)).1) h)
          claiming)

  -- Where the starting plan is not safe, every safe plan is named by a report.
  pub safe_named : (v start p : ℕ) → ¬ Safe rule1 vs rs v start → Safe rule1 vs rs v p → (i : ℕ) × (i < vs.n) × (reporting rs (names p) i ≡ true)
  safe_named v start p never s = go (which (any_below (reporting rs (names p)) vs.n))
    where
      go : (any_below (reporting rs (names p)) vs.n ≡ true) ⊎ (any_below (reporting rs (names p)) vs.n ≡ false)
          → (i : ℕ) × (i < vs.n) × (reporting rs (names p) i ≡ true)
      go (inl h) = any_where (reporting rs (names p)) vs.n h
      go (inr h) = absurd (never (unnamed_safe v p start h s))

-- ---- counting is the rule

-- A plan is safe exactly if the quorum and the blocking sets named by the rules can be found among the reports.
pub safe_iff : CountingIsTheRule
unfolding safe free allowed
safe_iff vs rs rule v p = (to, λ h. ⊎_elim (λ e. at_start (eqb-true v 0 e)) (λ g. ⊎_elim free' since' (either (free vs rs) _ g)) (either (eqb v 0) _ h))
  where
    serves : ℕ → Bool
    serves u = allowed vs rs p u && backed rule vs rs v p u

    to : Safe rule vs rs v p → safe rule vs rs v p ≡ true
    to (at_start e) = or_left (eqb v 0) _ (eq-eqb v 0 e)
    to (no_lock q) = or_right (eqb v 0) _ (or_left (free vs rs) _ ((count_quorum vs (reporting rs unlocked)).0 q))
    to (since u low q b) =
        or_right (eqb v 0) _ (or_right (free vs rs) _ (any_at serves v u low
        (both_join (allowed vs rs p u) _ ((count_quorum vs (reporting rs (allows p u))).0 q) ((backed_iff vs rs rule v p u).0 b))))

    free' : free vs rs ≡ true → Safe rule vs rs v p
    free' h = no_lock ((count_quorum vs (reporting rs unlocked)).1 h)

    since' : any_below (λ u. allowed vs rs p u && backed rule vs rs v p u) v ≡ true → Safe rule vs rs v p
    since' h =
        let (u, low, both) = any_where (λ u. allowed vs rs p u && backed rule vs rs v p u) v h in
        let (q, b) = both_split (allowed vs rs p u) _ both in
        since u low ((count_quorum vs (reporting rs (allows p u))).1 q) ((backed_iff vs rs rule v p u).1 b)

-- ---- the smallest plan that passes

-- What it is to be the smallest of the plans with numbers below k that pass.
abbrev pub Least : (ℕ → Bool) → (ℕ → ℕ) → ℕ → Option ℕ → Type 0
Least test plan k none = (i : ℕ) → i < k → ¬ (test (plan i) ≡ true)
Least test plan k (some p) = (test p ≡ true) × ((i : ℕ) → i < k → test (plan i) ≡ true → p ≤ plan i)

module _ (test : ℕ → Bool) (plan : ℕ → ℕ) where
  -- One plan more: the least so far, held against it, is the least again.
  least_more : (k : ℕ) (b : Bool) (o : Option ℕ) → test (plan k) ≡ b → Least test plan k o → Least test plan (suc k) (smaller b (plan k) o)
  least_more k false none e l = λ i low h. go i low h (ℕ_discrete i k)
    where
      go : (i : ℕ) → i < suc k → test (plan i) ≡ true → Dec (i ≡ k) → ⊥
      go i low h (yes same) = clash h (ap (λ (j : ℕ). test (plan j)) same ∙ e)
      go i low h (no differ) = l i (omega arith) h
  least_more k false (some p) e l = (l.0, λ i low h. go i low h (ℕ_discrete i k))
    where
      go : (i : ℕ) → i < suc k → test (plan i) ≡ true → Dec (i ≡ k) → p ≤ plan i
      go i low h (yes same) = absurd (clash h (ap (λ (j : ℕ). test (plan j)) same ∙ e))
      go i low h (no differ) = l.1 i (omega arith) h
  least_more k true none e l = (e, λ i low h. go i low h (ℕ_discrete i k))
    where
      go : (i : ℕ) → i < suc k → test (plan i) ≡ true → Dec (i ≡ k) → plan k ≤ plan i
      go i low h (yes same) = rw same (omega arith)
      go i low h (no differ) = absurd (l i (omega arith) h)
  least_more k true (some p) e l = (passes (ℕ_discrete (min (plan k) p) p), λ i low h. go i low h (ℕ_discrete i k))
    where
      passes : Dec (min (plan k) p ≡ p) → test (min (plan k) p) ≡ true
      passes (yes same) = rw same l.0
      passes (no differ) = let same : min (plan k) p ≡ plan k = omega arith in rw same e

      go : (i : ℕ) → i < suc k → test (plan i) ≡ true → Dec (i ≡ k) → min (plan k) p ≤ plan i
      go i low h (yes same) = rw same (omega arith)
      go i low h (no differ) = omega (arith, l.1 i (omega arith) h)

  -- What `smallest` finds is the least of the plans that pass.
  pub smallest_least : (k : ℕ) → Least test plan k (smallest test plan k)
  unfolding smallest
  smallest_least zero =
      let waits : smallest test plan 0 ≡ none = refl {a = none} in
      subst (Least test plan 0) (sym waits) (λ i low. absurd (omega arith))
  smallest_least (suc k) = least_more k (test (plan k)) (smallest test plan k) refl (smallest_least k)

module _ (vs : Vaults) (rs : Reports) (v start : ℕ) where
  -- The least of plans among which each named plan is, is the smallest safe plan.
  pub least_is_smallest : (plan : ℕ → ℕ) (k : ℕ) → ¬ Safe rule1 vs rs v start
      → ((p i : ℕ) → i < vs.n → reporting rs (names p) i ≡ true → (j : ℕ) × (j < k) × (plan j ≡ p))
      → (o : Option ℕ) → Least (safe rule1 vs rs v) plan k o → IsSmallest vs rs v o
  least_is_smallest plan k never index o l = go o l
    where
      find : (x : ℕ) → Safe rule1 vs rs v x → (j : ℕ) × (j < k) × (plan j ≡ x) × (safe rule1 vs rs v (plan j) ≡ true)
      find x s =
          let (i, low, named) = safe_named vs rs v start x never s in
          let (j, below, is) = index x i low named in
          (j, below, is, rw is ((safe_iff vs rs rule1 v x).0 s))

      go : (o : Option ℕ) → Least (safe rule1 vs rs v) plan k o → IsSmallest vs rs v o
      go none l = λ x s. let (j, below, is, h) = find x s in l j below h
      go (some p) l = (
        (safe_iff vs rs rule1 v p).1 l.0,
        λ x s. let (j, below, is, h) = find x s in let le : p ≤ plan j = l.1 j below h in omega arith,
      )

  -- A plan that a report names has a number among the named plans.
  named_index : (p i : ℕ) → i < vs.n → reporting rs (names p) i ≡ true → (j : ℕ) × (j < vs.n + vs.n) × (named_plan rs vs.n start j ≡ p)
  unfolding names
  named_index p i low h =
      let (r, is, named) = holds_where (rs i) (names p) h in
      ⊎_elim (λ locked. (i, omega arith, rw (lt-ltb i vs.n low, is) (plan_at r.lock locked)))
      (λ voted.
      let e : vs.n + i - vs.n ≡ i = omega arith in
      (vs.n + i, omega arith, rw (le-ltb (vs.n + i) vs.n (omega arith), e, is) (plan_at r.highest voted)))
      (either (holds (λ x. eqb x.plan p) r.lock) _ named)
    where
      plan_at : (o : Option Vote) → holds (λ x. eqb x.plan p) o ≡ true → plan_or start o ≡ p
      plan_at none e = absurd (false≢true e)
      plan_at (some x) e = eqb-true x.plan p e

  -- Step C's choice is the one that document 01 asks for.
  pub choice_is : Chosen vs rs v start (choice vs rs v start)
  unfolding choice
  choice_is = go (safe rule1 vs rs v start) refl
    where
      go : (b : Bool) → safe rule1 vs rs v start ≡ b
          → Chosen vs rs v start (cond b (some start) (smallest (safe rule1 vs rs v) (named_plan rs vs.n start) (vs.n + vs.n)))
      go true e = own ((safe_iff vs rs rule1 v start).1 e)
      go false e =
          let never : ¬ Safe rule1 vs rs v start = λ s. clash ((safe_iff vs rs rule1 v start).0 s) e in
          other never
          (least_is_smallest (named_plan rs vs.n start) (vs.n + vs.n) never named_index
          (smallest (safe rule1 vs rs v) (named_plan rs vs.n start) (vs.n + vs.n))
          (smallest_least (safe rule1 vs rs v) (named_plan rs vs.n start) (vs.n + vs.n)))

  -- There is one smallest safe plan, or none.
  smallest_one : (o o' : Option ℕ) → IsSmallest vs rs v o → IsSmallest vs rs v o' → o ≡ o'
  smallest_one none none l l' = refl
  smallest_one none (some q) l l' = absurd (l q l'.0)
  smallest_one (some p) none l l' = absurd (l' p l.0)
  smallest_one (some p) (some q) l l' = let e : p ≡ q = omega (arith, l.1 q l'.0, l'.1 p l.0) in ap some e

  -- There is one choice.
  pub chosen_one : {o o' : Option ℕ} → Chosen vs rs v start o → Chosen vs rs v start o' → o ≡ o'
  chosen_one (own s) (own s') = refl
  chosen_one (own s) (other never l) = absurd (never s)
  chosen_one (other never l) (own s) = absurd (never s)
  chosen_one {o} {o'} (other never l) (other never' l') = smallest_one o o' l l'

-- The choice by counting is the one that document 01 allows, and no other is.
pub chosen_iff : ChoiceIsTheRule
chosen_iff vs rs v start o = (chosen_one vs rs v start (choice_is vs rs v start), λ e. subst (Chosen vs rs v start) e (choice_is vs rs v start))
