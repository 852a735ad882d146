-- What the search finds by its rows is what the rules say (document 01, 'When a plan is safe'; step C).
-- One plan: the views that serve it are u, where the locks there allow it, or the next. The two-set clause: one plan that is claimed at
-- the next view will do, and a plan in no row is claimed only where every plan is. Step C: a safe plan is a lock's that view u serves or a
-- vote's that the next view serves, so each stands in its row; and trying a plan twice changes nothing.
-- Assumes nothing.
use Prim.Native.Nat.{ℕ, zero, suc, ◌+◌, ◌-◌, ◌≤◌, ◌<◌, min}
use mathlib.Core.Path.{◌≡◌, refl, sym, ◌∙◌, ap, subst}
use mathlib.Core.Logic.{◌≢◌, ◌⊎◌, inl, inr, ⊎_elim}
use mathlib.Core.Bool.{Bool, true, false, cond, not, ◌&&◌, ◌||◌, false≢true}
use mathlib.Core.Option.{Option, none, some}
use mathlib.Core.List.{List}
use native.Mathlib.Omega.{arith}
use native.Mathlib.Numerals.{add-one}
use native.Mathlib.Decide.{ℕ_discrete, dec_lt}
use lib.Dec.{leb, ltb, eqb}
use lib.ListN.{length, get_or}
use borrow.Author.Tests.{leb-true, leb-false, lt-ltb, le-ltb, ltb-true, eqb-false, eq-eqb, ne_eqb, not-true}
use Rattle.std.specs.Prelude as prelude
use Rattle.std.specs.Prelude.{Some, None}
use Rattle.std.specs.Option.{is_some}
use Rattle.rules.specs.inside.Bools.{any_below}
use Rattle.rules.specs.Sets.{Vaults, equals}
use Rattle.rules.specs.Quorums.{is_blocking}
use Rattle.rules.proofs.Bools.{which, clash, not_true, both_split, both_join, or_left, or_right}
use Rattle.rules.proofs.Quorums.{quorum_count}
use Rattle.rules.specs.Options.{is_none}
use Rattle.rules.specs.Rules.{Reports, Rule, rule1, rule3, allows, reporting, Safe, at_start, no_lock, since, IsSmallest, other}
use Rattle.rules.specs.inside.Counts.{claimed, free, allowed, two_sets, backed, safe, smaller, choice}
use Rattle.rules.specs.inside.Views.{lowest_view, Lowest}
use Rattle.rules.proofs.Laws.{claimed_falls, safe_iff, choice_is, chosen_one}
use Rattle.rules.proofs.Views.{two_late, two_none, two_lone, two_both, first_serves, next_serves, never_safe}
use Rattle.claims.specs.declared.Search.{Search}
use Rattle.claims.specs.inside.Rows.{rows_size, for_plan, RowTells, SameBelow}
use Rattle.claims.specs.inside.Walk.{coming_at, counted, claimed_in, end_of, serving_view, LaidOut, Told}
use Rattle.claims.specs.Table.{column}
use Rattle.claims.proofs.Rows.{count_where}
use Rattle.claims.proofs.Walk.{serving_none, serving_next, end_bounds, counted_claimers, counted_next, row_has, told_kept}
use Rattle.safe.specs.Choices.{rule_of, chosen}
use Rattle.safe.specs.inside.Choices.{apart, Found}
use Rattle.safe.specs.inside.Searches.{lock_row, allowed_in, served_from, safe_in, passes_in, tried_at, tried_count, smallest_from, smallest_of, Pair}
use Rattle.safe.specs.inside.Searches.{two, unclaimed, lone, Falling, Laid, Prepared, every_safe, Begun}
use Rattle.safe.proofs.Locks.{some_blocked}

-- ---- the views that serve a plan

module _ (plans : List ℕ) (c : Search) (p : ℕ) (below : c.u < c.v) where
  -- Plan p is claimed at view w, by the rows.
  abbrev test : ℕ → Bool
  test w = claimed_in plans c p w

  -- The view that the search for p finds between `low` and `end`, v where it finds none.
  abbrev serving : ℕ → ℕ → ℕ
  serving low end = serving_view test low c.v end

  -- From a view on, that view alone.
  last : (w : ℕ) → serving w (suc w) ≡ cond (test w) w c.v
  last w = serving_next test w c.v (suc w) w refl (omega arith) ∙ ap (λ (x : ℕ). cond (test w) w x) (serving_none test w c.v w (omega arith))

  -- What is found is below v just where the test passed at w: v stands for none.
  passed : (w : ℕ) → w < c.v → (b : Bool) → ltb (cond b w c.v) c.v ≡ b
  passed w low true = lt-ltb w c.v low
  passed w low false = le-ltb c.v c.v (omega arith)

  -- From the next view on, the next view serves.
  pub served_next : served_from plans c (c.u + 1) p ≡ (ltb (c.u + 1) c.v && test (c.u + 1))
  unfolding served_from
  served_next = go (dec_lt (c.u + 1) c.v)
    where
      go : Dec (c.u + 1 < c.v) → ltb (serving (c.u + 1) (cond (ltb (c.u + 1) c.v) (c.u + 2) c.v)) c.v ≡ (ltb (c.u + 1) c.v && test (c.u + 1))
      go (yes low) =
          let e : c.u + 2 ≡ suc (c.u + 1) = omega arith in
          rw (lt-ltb (c.u + 1) c.v low, e, last (c.u + 1)) (passed (c.u + 1) low (test (c.u + 1)))
      go (no high) =
          rw (le-ltb (c.u + 1) c.v (omega arith), serving_none test (c.u + 1) c.v c.v (omega arith)) (le-ltb c.v c.v (omega arith))

  -- From view u on, u serves what the next view serves.
  pub served_here : Falling plans c → served_from plans c c.u p ≡ test c.u
  unfolding served_from
  served_here falls = go (dec_lt (c.u + 1) c.v)
    where
      either' : c.u + 1 < c.v → (a b : Bool) → (a ≡ true → b ≡ true) → ltb (cond a (c.u + 1) (cond b c.u c.v)) c.v ≡ b
      either' low true b to = lt-ltb (c.u + 1) c.v low ∙ sym (to refl)
      either' low false b to = passed c.u below b

      go : Dec (c.u + 1 < c.v) → ltb (serving c.u (cond (ltb (c.u + 1) c.v) (c.u + 2) c.v)) c.v ≡ test c.u
      go (yes low) =
          let e : c.u + 2 ≡ suc (c.u + 1) = omega arith in
          let next = serving_next test c.u c.v (suc (c.u + 1)) (c.u + 1) refl (omega arith) in
          let one : c.u + 1 ≡ suc c.u = omega arith in
          let here : serving c.u (c.u + 1) ≡ cond (test c.u) c.u c.v = ap (serving c.u) one ∙ last c.u in
          rw (lt-ltb (c.u + 1) c.v low, e, next, here) (either' low (test (c.u + 1)) (test c.u) (falls p low))
      go (no high) =
          let e : c.v ≡ suc c.u = omega arith in
          let here : serving c.u c.v ≡ cond (test c.u) c.u c.v = ap (serving c.u) e ∙ last c.u in
          rw (le-ltb (c.u + 1) c.v (omega arith), here) (passed c.u below (test c.u))

-- A candidate view serves exactly what is claimed there.
pub served_at : (plans : List ℕ) (c : Search) (w p : ℕ) → c.u < c.v → Falling plans c → c.u ≤ w → w < end_of c → served_from plans c w p ≡ claimed_in plans c p w
served_at plans c w p below falls high low = go (ℕ_discrete w c.u) (dec_lt (c.u + 1) c.v)
  where
    go : Dec (w ≡ c.u) → Dec (c.u + 1 < c.v) → served_from plans c w p ≡ claimed_in plans c p w
    go (yes here) d = rw here (served_here plans c p below falls)
    go (no off) (yes more) =
        let end : w < c.u + 2 = rw (lt-ltb (c.u + 1) c.v more) at low in
        let e : w ≡ c.u + 1 = omega arith in
        rw e (served_next plans c p below ∙ ap (λ (b : Bool). b && claimed_in plans c p (c.u + 1)) (lt-ltb (c.u + 1) c.v more))
    go (no off) (no less) =
        let end : w < c.v = rw (le-ltb (c.u + 1) c.v (omega arith)) at low in
        absurd (omega arith)

-- ---- a plan that is claimed

module _ (plans : List ℕ) (c : Search) (w : ℕ) (except : Option ℕ) where
  -- x is claimed from view w on, and is not left out.
  abbrev pub tried : ℕ → Bool
  tried x = apart x except && served_from plans c w x

  -- None of the first k plans of the row passes.
  abbrev pub NonePass : ℕ → Type 0
  NonePass k = (j : ℕ) → j < k → tried (get_or plans j 0) ≡ false

  -- Neither the first plan nor one of the row passes: none is claimed but that left out.
  module _ (served : (x : ℕ) → served_from plans c w x ≡ claimed_in plans c x w) (first : ℕ) (off : apart first except ≡ true) where
    -- The first plan is served: it is claimed at w and not left out.
    pub found_first : served_from plans c w first ≡ true → (apart first except && claimed_in plans c first w) ≡ true
    found_first h = both_join (apart first except) _ off (sym (served first) ∙ h)

    -- The same of a plan of the row that passes.
    pub found_other : (x : ℕ) → tried x ≡ true → (apart x except && claimed_in plans c x w) ≡ true
    found_other x h = sym (ap (λ (b : Bool). apart x except && b) (served x)) ∙ h

    -- Where all plans were tried that come in at w or above, no plan at all is claimed but the one left out.
    pub none_found : (laid : LaidOut c.n c.u (end_of c) c.next c.here) → c.u < c.v → c.u ≤ w → w < end_of c → (k : ℕ)
        → (coming_at c w).from + (coming_at c w).some ≤ k → served_from plans c w first ≡ false → NonePass k
        → (x : ℕ) → (apart x except && claimed_in plans c x w) ≡ false
    unfolding claimed_in
    none_found laid below from to k all never before x = not_true _ (λ h. over (both_split (apart x except) _ h).0 (both_split (apart x except) _ h).1)
      where
        over : apart x except ≡ true → claimed_in plans c x w ≡ true → ⊥
        over apt h =
            let few = leb-false (c.f + 1) (counted plans c first (end_of c - w)) (sym (served first) ∙ never) in
            let more = leb-true (c.f + 1) (counted plans c x (end_of c - w)) h in
            let there = row_has plans c below laid x first w from to (omega (arith, few, more)) in
            let (j, low, is) = count_where plans 0 ((coming_at c w).from + (coming_at c w).some) x there in
            let place : 0 + j ≡ j = omega arith in
            let at : get_or plans j 0 ≡ x = rw place at is in
            clash (both_join (apart x except) _ apt (served x ∙ h)) (subst (λ (y : ℕ). tried y ≡ false) at (before j (omega arith)))

-- ---- two plans that are claimed

-- The next view is a candidate where it is below v, and view u always is.
pub end_next : (c : Search) → c.u + 1 < c.v → c.u + 1 < end_of c
end_next c low = rw (lt-ltb (c.u + 1) c.v low) (omega arith)

-- View u is a candidate.
pub end_here : (c : Search) → c.u < c.v → c.u < end_of c
end_here c below = go (ltb (c.u + 1) c.v)
  where
    go : (b : Bool) → c.u < cond b (c.u + 2) c.v
    go true = omega arith
    go false = below

-- A plan of the code's is one of the rules'.
pub is_chosen : (o : prelude.Option ℕ) → is_some o ≡ not (is_none (chosen o))
is_chosen None = refl
is_chosen (Some p) = refl

module _ (next here : ℕ → Bool) (m : Option ℕ) (found : Found next m) where
  -- One is: then another plan that is claimed at u decides.
  pub pair_found : (x : Option ℕ) (b : Bool) → not (is_none m) ≡ true → Found (λ y. apart y m && here y) x → b ≡ not (is_none x) → Pair next here b
  pair_found x b h apt is = go m x found h apt is
    where
      go : (m x : Option ℕ) → Found next m → not (is_none m) ≡ true → Found (λ y. apart y m && here y) x → b ≡ not (is_none x) → Pair next here b
      go none x never h apt is = absurd (false≢true h)
      go (some m) none at h never is =
          lone m (λ y off. not_true _ (λ e. clash (both_join (not (eqb y m)) _ (ap not (ne_eqb y m off)) e) (never y))) is
      go (some m) (some x) at h apt is =
          let (off, e) = both_split (not (eqb x m)) _ apt in
          two m x (eqb-false x m (not-true _ off)) at e is

-- ---- what the rows tell

-- The row of locks is written behind the row of claims, and leaves it.
pub prepares : (rs : Reports) (c : Search) (end : ℕ) (first second : List ℕ) → c.n ≤ column → c.f < c.n → c.u < c.v → length second ≡ rows_size
    → end ≡ end_of c → Told rs c.n c.u end first c.next c.here → SameBelow first second lock_row
    → RowTells rs c.n (λ p. allows p c.u) second lock_row c.locks → Prepared rs c second
prepares rs c end first second most few below size is found same locks = record {
  laid = record {
    size = size;
    below = below;
    few = few;
    most = most;
    claims = told.laid;
    locks = (omega (arith, locks.most), omega (arith, locks.most));
  };
  claims = told_kept rs c.n c.u (end_of c) first second c.next c.here lock_row same most told;
  locks = locks;
}
  where
    told : Told rs c.n c.u (end_of c) first c.next c.here
    told = subst (λ (end : ℕ). Told rs c.n c.u end first c.next c.here) is found

module _ (rs : Reports) (c : Search) (plans : List ℕ) (ready : Prepared rs c plans) where
  -- The vaults of the search, each of weight 1.
  abbrev vs : Vaults
  vs = equals c.n c.f

  -- Claimed at a candidate view by the row is claimed there by the rules.
  claimed_at : (p w : ℕ) → c.u ≤ w → w < end_of c → claimed_in plans c p w ≡ claimed vs rs p w
  unfolding claimed_in claimed is_blocking
  claimed_at p w from to =
      let (below, few, most) = end_bounds c.u c.v ready.laid.below in
      ap (leb (c.f + 1)) (counted_claimers plans c p rs below few ready.claims w from to)

  -- So at u.
  claimed_here : (p : ℕ) → claimed_in plans c p c.u ≡ claimed vs rs p c.u
  claimed_here p = claimed_at p c.u (omega arith) (end_here c ready.laid.below)

  -- And at the next view, where that is below v.
  claimed_next : (p : ℕ) → c.u + 1 < c.v → claimed_in plans c p (c.u + 1) ≡ claimed vs rs p (c.u + 1)
  claimed_next p low = claimed_at p (c.u + 1) (omega arith) (end_next c low)

  -- Below v and claimed there.
  next_claimed : (p : ℕ) → (ltb (c.u + 1) c.v && claimed_in plans c p (c.u + 1)) ≡ (ltb (c.u + 1) c.v && claimed vs rs p (c.u + 1))
  next_claimed p = go (dec_lt (c.u + 1) c.v)
    where
      go : Dec (c.u + 1 < c.v)
          → (ltb (c.u + 1) c.v && claimed_in plans c p (c.u + 1)) ≡ (ltb (c.u + 1) c.v && claimed vs rs p (c.u + 1))
      go (yes low) = ap (λ (b : Bool). ltb (c.u + 1) c.v && b) (claimed_next p low)
      go (no high) = rw (le-ltb (c.u + 1) c.v (omega arith)) refl

  -- Allowed at u by the rows is allowed at u by the rules.
  pub allowed_same : (p : ℕ) → allowed_in plans c p ≡ allowed vs rs p c.u
  unfolding allowed_in allowed
  allowed_same p = quorum_count c.n c.f (reporting rs (allows p c.u)) (for_plan plans lock_row c.locks p) (ready.locks.tells p)

  -- Claims fall with the view.
  pub falling : Falling plans c
  falling p low h = claimed_here p ∙ claimed_falls vs rs p (c.u + 1) c.u (omega arith) (sym (claimed_next p low) ∙ h)

  -- Two plans by the rows are two by the rules.
  pub pair_two : (b : Bool) → c.u + 1 < c.v → Pair (λ x. claimed_in plans c x (c.u + 1)) (λ x. claimed_in plans c x c.u) b → b ≡ two_sets vs rs c.v c.u
  pair_two b low (two m x off next here is) =
      is ∙ sym (two_both vs rs c.v c.u m x low (sym (claimed_next m low) ∙ next) off (sym (claimed_here x) ∙ here))
  pair_two b low (unclaimed never is) = is ∙ sym (two_none vs rs c.v c.u (λ m. sym (claimed_next m low) ∙ never m))
  pair_two b low (lone m others is) = is ∙ sym (two_lone vs rs c.v c.u m (λ x off. sym (claimed_here x) ∙ others x off))

  -- The same for numbers that are those of the search.
  pub pair_same : (b : Bool) (n f u v : ℕ) → c.n ≡ n → c.f ≡ f → c.u ≡ u → c.v ≡ v → u + 1 < v
      → Pair (λ x. claimed_in plans c x (c.u + 1)) (λ x. claimed_in plans c x c.u) b → b ≡ two_sets (equals n f) rs v u
  pair_same b n f u v en ef eu ev low pair = pair_two b (omega arith) pair ∙ rw (en, ef, eu, ev)

  -- ---- safe plans

  module _ (l : Lowest vs rs c.v c.u) where
    -- By Rule 1.
    pub safe_same : (p : ℕ) → safe_in plans c p ≡ safe rule1 vs rs c.v p
    unfolding backed
    safe_same p = go (which (allowed vs rs p c.u))
      where
        go : (allowed vs rs p c.u ≡ true) ⊎ (allowed vs rs p c.u ≡ false) → safe_in plans c p ≡ safe rule1 vs rs c.v p
        go (inl allow) =
            rw (allowed_same p ∙ allow) (served_here plans c p l.below falling ∙ claimed_here p ∙ sym (first_serves vs rs c.v rule1 p c.u l allow))
        go (inr off) =
            rw (allowed_same p ∙ off) (served_next plans c p l.below ∙ next_claimed p
            ∙ sym (next_serves vs rs c.v rule1 p c.u l off))

    -- By Rule 3 the two-set clause backs a plan where the claims do not.
    module _ (p : ℕ) (never : safe_in plans c p ≡ false) where
      -- The plan is not safe by Rule 1, so neither view's claims back it.
      unsafe : safe rule1 vs rs c.v p ≡ false
      unsafe = sym (safe_same p) ∙ never

      -- Where the locks at u allow the plan, the two-set clause at u decides.
      pub three_first : (b : Bool) → allowed_in plans c p ≡ true → b ≡ two_sets vs rs c.v c.u → b ≡ safe rule3 vs rs c.v p
      unfolding backed
      three_first b allow is =
          let at = sym (allowed_same p) ∙ allow in
          is ∙ sym (ap (λ (t : Bool). t || two_sets vs rs c.v c.u) (sym (first_serves vs rs c.v rule1 p c.u l at) ∙ unsafe))
          ∙ sym (first_serves vs rs c.v rule3 p c.u l at)

      -- Where they do not, the two-set clause at the next view decides.
      pub three_next : (b : Bool) → allowed_in plans c p ≡ false → c.u + 1 < c.v → b ≡ two_sets vs rs c.v (c.u + 1) → b ≡ safe rule3 vs rs c.v p
      unfolding backed
      three_next b block low is =
          let off = sym (allowed_same p) ∙ block in
          let under = lt-ltb (c.u + 1) c.v low in
          let few : claimed vs rs p (c.u + 1) ≡ false
          = sym (ap (λ (t : Bool). t && claimed vs rs p (c.u + 1)) under) ∙ sym (next_serves vs rs c.v rule1 p c.u l off) ∙ unsafe in
          is ∙ sym (ap (λ (t : Bool). t || two_sets vs rs c.v (c.u + 1)) few)
          ∙ sym (ap (λ (t : Bool). t && (claimed vs rs p (c.u + 1) || two_sets vs rs c.v (c.u + 1))) under) ∙ sym
          (next_serves vs rs c.v rule3 p c.u l off)

      -- There is no next view below v.
      pub three_last : c.v ≤ c.u + 1 → false ≡ safe rule3 vs rs c.v p
      three_last high = go (which (allowed_in plans c p))
        where
          go : (allowed_in plans c p ≡ true) ⊎ (allowed_in plans c p ≡ false) → false ≡ safe rule3 vs rs c.v p
          go (inl allow) = three_first false allow (sym (two_late vs rs c.v c.u high))
          go (inr block) =
              sym (ap (λ (t : Bool). t && backed rule3 vs rs c.v p (c.u + 1)) (le-ltb (c.u + 1) c.v high))
              ∙ sym (next_serves vs rs c.v rule3 p c.u l (sym (allowed_same p) ∙ block))

    -- What Rule 1 accepts Rule 3 accepts.
    pub three_one : (p : ℕ) → safe_in plans c p ≡ true → true ≡ safe rule3 vs rs c.v p
    three_one p h = sym ((safe_iff vs rs rule3 c.v p).0 (go ((safe_iff vs rs rule1 c.v p).1 (sym (safe_same p) ∙ h))))
      where
        go : Safe rule1 vs rs c.v p → Safe rule3 vs rs c.v p
        go (at_start e) = at_start e
        go (no_lock q) = no_lock q
        go (since u low q b) = since u low q (inl b)

    -- ---- the plans that step C tries

    -- What Rule 1 goes by, where the locks at u allow the plan or not.
    abbrev by : Bool → ℕ → Bool
    by allow p = cond allow (served_from plans c c.u p) (served_from plans c (c.u + 1) p)

    -- With the locks' answer known, being served is being safe by Rule 1.
    by_safe : (b : Bool) (p : ℕ) → allowed_in plans c p ≡ b → by b p ≡ safe rule1 vs rs c.v p
    by_safe b p is = sym (ap (λ (t : Bool). by t p) is) ∙ safe_same p

    -- A plan that passes is safe, and a safe plan passes.
    lock_safe : (p : ℕ) → passes_in plans c true p ≡ true → safe rule1 vs rs c.v p ≡ true
    lock_safe p h = let (allow, at) = both_split (allowed_in plans c p) _ h in sym (by_safe true p allow) ∙ at

    -- The same of a plan of a vote: what the next view serves, view u serves where its locks allow it.
    vote_safe : (p : ℕ) → passes_in plans c false p ≡ true → safe rule1 vs rs c.v p ≡ true
    vote_safe p h = go (which (allowed_in plans c p))
      where
        claims : claimed_in plans c p c.u ≡ true
        claims =
            let (low, at) = both_split (ltb (c.u + 1) c.v) _ (sym (served_next plans c p l.below) ∙ h) in
            falling p (ltb-true (c.u + 1) c.v low) at

        go : (allowed_in plans c p ≡ true) ⊎ (allowed_in plans c p ≡ false) → safe rule1 vs rs c.v p ≡ true
        go (inl allow) = lock_safe p (both_join (allowed_in plans c p) _ allow (served_here plans c p l.below falling ∙ claims))
        go (inr off) = sym (by_safe false p off) ∙ h

    -- Both together: whichever row a passing plan is from, it is safe.
    passes_safe : (locked : Bool) (p : ℕ) → passes_in plans c locked p ≡ true → safe rule1 vs rs c.v p ≡ true
    passes_safe true p = lock_safe p
    passes_safe false p = vote_safe p

    -- And a safe plan passes as one of a lock or as one of a vote.
    safe_passes : (p : ℕ) → safe rule1 vs rs c.v p ≡ true → (passes_in plans c true p ≡ true) ⊎ (passes_in plans c false p ≡ true)
    safe_passes p h = go (which (allowed_in plans c p))
      where
        go : (allowed_in plans c p ≡ true) ⊎ (allowed_in plans c p ≡ false) → (passes_in plans c true p ≡ true) ⊎ (passes_in plans c false p ≡ true)
        go (inl allow) = inl (both_join (allowed_in plans c p) _ allow (by_safe true p allow ∙ h))
        go (inr off) = inr (by_safe false p off ∙ h)

    -- A plan that is not safe does not pass.
    unsafe_passes : (locked : Bool) (p : ℕ) → safe_in plans c p ≡ false → passes_in plans c locked p ≡ false
    unsafe_passes locked p never = not_true _ (λ h. clash (safe_same p ∙ passes_safe locked p h) never)

    -- A lock's plan that passes stands in the row of locks: some plan is not allowed, so those without a lock at u are too few.
    lock_tried : (p : ℕ) → passes_in plans c true p ≡ true → (j : ℕ) × (j < c.locks.some) × (get_or plans (lock_row + j) 0 ≡ p)
    unfolding allowed_in
    lock_tried p h =
        let (q, block) = some_blocked vs rs c.v c.u l in
        let few = leb-false (c.n - c.f) (for_plan plans lock_row c.locks q) (allowed_same q ∙ block) in
        let enough = leb-true (c.n - c.f) (for_plan plans lock_row c.locks p) (both_split (allowed_in plans c p) _ h).0 in
        count_where plans lock_row c.locks.some p (omega (arith, few, enough))

    -- A vote's plan that passes stands in the row of the next view, where some plan is not claimed.
    vote_tried : (q p : ℕ) → passes_in plans c false q ≡ false → passes_in plans c false p ≡ true → (j : ℕ) × (j < c.next.some) × (get_or plans (0 + j) 0 ≡ p)
    unfolding claimed_in
    vote_tried q p never h =
        let (low, at) = both_split (ltb (c.u + 1) c.v) _ (sym (served_next plans c p l.below) ∙ h) in
        let less = ltb-true (c.u + 1) c.v low in
        let off : claimed_in plans c q (c.u + 1) ≡ false
        = sym (ap (λ (b : Bool). b && claimed_in plans c q (c.u + 1)) low) ∙ sym (served_next plans c q l.below) ∙ never in
        let few = leb-false (c.f + 1) (counted plans c q (end_of c - (c.u + 1))) off in
        let more = leb-true (c.f + 1) (counted plans c p (end_of c - (c.u + 1))) at in
        let laid = ready.laid.claims in
        count_where plans 0 c.next.some p
        (omega (arith, few, more, counted_next plans c l.below laid q less, counted_next plans c l.below laid p less))

-- ---- the smallest plan that passes

-- Trying a plan twice changes nothing.
pub smaller_twice : (x : ℕ) (b : Bool) (o next : Option ℕ) → next ≡ smaller b x o → smaller b x next ≡ next
smaller_twice x b o next is = ap (smaller b x) is ∙ go b o ∙ sym is
  where
    go : (b : Bool) (o : Option ℕ) → smaller b x (smaller b x o) ≡ smaller b x o
    go false o = refl
    go true none = let e : min x x ≡ x = omega arith in ap some e
    go true (some y) = let e : min x (min x y) ≡ min x y = omega arith in ap some e

-- A plan is there, and it is one.
none_some : {y : ℕ} → Path (Option ℕ) none (some y) → ⊥
none_some e = false≢true (sym (ap is_none e))

-- Two plans that are there are the same where their options are.
some_same : {x y : ℕ} → Path (Option ℕ) (some x) (some y) → x ≡ y
some_same e = ap plan_in e
  where
    plan_in : Option ℕ → ℕ
    plan_in none = 0
    plan_in (some w) = w

-- The plan found is x or smaller.
abbrev Under : Option ℕ → ℕ → Type 0
Under o x = (y : ℕ) × (o ≡ some y) × (y ≤ x)

-- Trying one more plan leaves what is found at z or below.
smaller_under : (b : Bool) (x z : ℕ) (o : Option ℕ) → Under o z → Under (smaller b x o) z
smaller_under false x z o u = u
smaller_under true x z none u = absurd (none_some u.1)
smaller_under true x z (some w) u = (min x w, refl, omega (arith, some_same u.1, u.2))

-- A plan that passes leaves what is found at it or below.
smaller_at : (x : ℕ) (o : Option ℕ) → Under (smaller true x o) x
smaller_at x none = (x, refl, omega arith)
smaller_at x (some y) = (min x y, refl, omega arith)

-- What is found is what was found before, or the plan just tried.
smaller_is : (b : Bool) (x y : ℕ) (o : Option ℕ) → smaller b x o ≡ some y → (o ≡ some y) ⊎ ((b ≡ true) × (x ≡ y))
smaller_is false x y o is = inl is
smaller_is true x y none is = inr (refl, some_same is)
smaller_is true x y (some z) is = go (ℕ_discrete (min x z) z) (some_same is)
  where
    go : Dec (min x z ≡ z) → min x z ≡ y → (Path (Option ℕ) (some z) (some y)) ⊎ ((Path Bool true true) × (x ≡ y))
    go (yes low) e = inl (ap some (sym low ∙ e))
    go (no high) e = let same : min x z ≡ x = omega arith in inr (refl, sym same ∙ e)

module _ (best : Option ℕ) (test : ℕ → Bool) (plan : ℕ → ℕ) where
  -- One plan more, as the definition has it.
  pub smallest_more : (k : ℕ) → smallest_from best test plan (k + 1) ≡ smaller (test (plan k)) (plan k) (smallest_from best test plan k)
  unfolding smallest_from
  smallest_more k = rw add-one

  -- Before the first plan the best is what was given.
  pub smallest_start : best ≡ smallest_from best test plan 0
  unfolding smallest_from
  smallest_start = refl

  -- It is not above the best before, nor above a plan tried that passes; and it is one of these.
  from_best : (z k : ℕ) → Under best z → Under (smallest_from best test plan k) z
  unfolding smallest_from
  from_best z zero u = u
  from_best z (suc k) u = smaller_under (test (plan k)) (plan k) z (smallest_from best test plan k) (from_best z k u)

  -- The second part: not above a plan tried that passes.
  from_tried : (k j : ℕ) → j < k → test (plan j) ≡ true → Under (smallest_from best test plan k) (plan j)
  unfolding smallest_from
  from_tried zero j low h = absurd (omega arith)
  from_tried (suc k) j low h = go (ℕ_discrete j k) (from_tried k j)
    where
      go : Dec (j ≡ k) → (j < k → test (plan j) ≡ true → Under (smallest_from best test plan k) (plan j))
          → Under (smaller (test (plan k)) (plan k) (smallest_from best test plan k)) (plan j)
      go (yes same) rest =
          let at : test (plan k) ≡ true = subst (λ (i : ℕ). test (plan i) ≡ true) same h in
          rw (same, at) (smaller_at (plan k) (smallest_from best test plan k))
      go (no differ) rest = smaller_under (test (plan k)) (plan k) (plan j) (smallest_from best test plan k) (rest (omega arith) h)

  -- The third: it is the best before, or it passes.
  from_where : (k y : ℕ) → smallest_from best test plan k ≡ some y → (best ≡ some y) ⊎ (test y ≡ true)
  unfolding smallest_from
  from_where zero y is = inl is
  from_where (suc k) y is =
      ⊎_elim (from_where k y) (λ (at, same). inr (subst (λ (x : ℕ). test x ≡ true) same at))
      (smaller_is (test (plan k)) (plan k) y (smallest_from best test plan k) is)

  -- One plan more is tried.
  pub smallest_step : (k x : ℕ) (found next : Option ℕ) → x ≡ plan k → next ≡ smaller (test x) x found → found ≡ smallest_from best test plan k
      → next ≡ smallest_from best test plan (k + 1)
  smallest_step k x found next is step was =
      step ∙ ap (λ (y : ℕ). smaller (test y) y found) is ∙ ap (smaller (test (plan k)) (plan k)) was ∙ sym (smallest_more k)

-- The row of the plans to try lies within the rows.
pub tried_fits : (c : Search) (plans : List ℕ) (locked : Bool) (at count : ℕ) → Laid c plans → at ≡ tried_at locked → count ≡ tried_count c locked
    → (at ≤ lock_row) × (count ≤ column)
tried_fits c plans true at count l is all = (omega arith, omega (arith, l.locks))
tried_fits c plans false at count l is all = (omega arith, omega (arith, l.claims.most, l.most))

-- ---- step C

module _ (rs : Reports) (c : Search) (plans : List ℕ) (ready : Prepared rs c plans) (l : Lowest (equals c.n c.f) rs c.v c.u) (start : ℕ)
    (never : safe_in plans c start ≡ false) where
  -- The smallest of the locks' plans that pass, with which the votes' plans begin.
  abbrev locked : Option ℕ
  locked = smallest_from none (passes_in plans c true) (λ i. get_or plans (lock_row + i) 0) c.locks.some

  -- Every safe plan is the one found, or larger.
  all_under : (x : ℕ) → Safe rule1 (equals c.n c.f) rs c.v x → Under (smallest_of plans c) x
  all_under x s = ⊎_elim at_locks at_votes (safe_passes rs c plans ready l x ((safe_iff (equals c.n c.f) rs rule1 c.v x).0 s))
    where
      at_locks : passes_in plans c true x ≡ true → Under (smallest_of plans c) x
      at_locks h =
          let (j, low, is) = lock_tried rs c plans ready l x h in
          from_best locked (passes_in plans c false) (λ i. get_or plans (0 + i) 0) x c.next.some
          (subst (λ (y : ℕ). Under locked y) is (from_tried none (passes_in plans c true) (λ i. get_or plans (lock_row + i) 0) c.locks.some j low
          (subst (λ (y : ℕ). passes_in plans c true y ≡ true) (sym is) h)))

      at_votes : passes_in plans c false x ≡ true → Under (smallest_of plans c) x
      at_votes h =
          let (j, low, is) = vote_tried rs c plans ready l start x (unsafe_passes rs c plans ready l false start never) h in
          subst (λ (y : ℕ). Under (smallest_of plans c) y) is (from_tried locked (passes_in plans c false) (λ i. get_or plans (0 + i) 0) c.next.some j low
          (subst (λ (y : ℕ). passes_in plans c false y ≡ true) (sym is) h))

  -- What is found is safe by Rule 1.
  found_safe : (y : ℕ) → smallest_of plans c ≡ some y → Safe rule1 (equals c.n c.f) rs c.v y
  found_safe y is =
      (safe_iff (equals c.n c.f) rs rule1 c.v y).1
      (⊎_elim at_locks (passes_safe rs c plans ready l false y) (from_where locked (passes_in plans c false) (λ i. get_or plans (0 + i) 0) c.next.some y is))
    where
      at_locks : locked ≡ some y → safe rule1 (equals c.n c.f) rs c.v y ≡ true
      at_locks e =
          ⊎_elim (λ no. absurd (none_some no)) (passes_safe rs c plans ready l true y)
          (from_where none (passes_in plans c true) (λ i. get_or plans (lock_row + i) 0) c.locks.some y e)

  -- So it is 'the smallest safe plan', and where nothing is found no plan is safe.
  is_smallest : (o : Option ℕ) → smallest_of plans c ≡ o → IsSmallest (equals c.n c.f) rs c.v o
  is_smallest none e = λ x s. let (y, is, le) = all_under x s in none_some (sym e ∙ is)
  is_smallest (some p) e = (found_safe p e, λ x s. least (all_under x s))
    where
      least : {x : ℕ} → Under (smallest_of plans c) x → p ≤ x
      least u = omega (arith, some_same (sym e ∙ u.1), u.2)

  -- The starting plan is not safe: the choice is what is found.
  pub choice_other : smallest_of plans c ≡ choice (equals c.n c.f) rs c.v start
  choice_other =
      chosen_one (equals c.n c.f) rs c.v start (other unsafe (is_smallest (smallest_of plans c) refl)) (choice_is (equals c.n c.f) rs c.v start)
    where
      unsafe : ¬ Safe rule1 (equals c.n c.f) rs c.v start
      unsafe s = clash (safe_same rs c plans ready l start ∙ (safe_iff (equals c.n c.f) rs rule1 c.v start).0 s) never

-- ---- the answers

module _ (vs : Vaults) (rs : Reports) (v : ℕ) where
  -- In view 0 every plan is safe, and so where a quorum has no lock.
  pub safe_every : (rule : Rule) (p : ℕ) → every_safe vs rs v ≡ true → true ≡ safe rule vs rs v p
  unfolding every_safe safe
  safe_every rule p h = go (eqb v 0) (free vs rs) h
    where
      go : (a b : Bool) → (a || b) ≡ true → true ≡ (a || (b || any_below (λ u. allowed vs rs p u && backed rule vs rs v p u) v))
      go true b h = refl
      go false true h = refl
      go false false h = absurd (false≢true h)

  -- Where not every plan is safe, no quorum is without a lock, and the view is not the first.
  pub locked_late : every_safe vs rs v ≡ false → (free vs rs ≡ false) × (v ≢ 0)
  unfolding every_safe
  locked_late h = (not_true _ (λ e. clash (or_right (eqb v 0) _ e) h), λ e. clash (or_left _ (free vs rs) (eq-eqb v 0 e)) h)

  -- Then the lowest view below v is where the search begins.
  pub lowest_at : (u : ℕ) → every_safe vs rs v ≡ false → u ≡ lowest_view vs rs v → u < v → Lowest vs rs v u
  lowest_at u h is below = record { locked = (locked_late h).0; below = below; is = is }

  -- Where there is none, no plan is safe.
  pub none_safe : (rule : Rule) (p u : ℕ) → every_safe vs rs v ≡ false → u ≡ lowest_view vs rs v → v ≤ u → safe rule vs rs v p ≡ false
  none_safe rule p u h is high = let (locked, late) = locked_late h in never_safe vs rs v locked late rule p u is high

  -- The rule of a call.
  pub by_rule : (p : ℕ) (three set b : Bool) → three ≡ set → b ≡ safe (rule_of set) vs rs v p → b ≡ safe (rule_of three) vs rs v p
  by_rule p three set b same is = is ∙ ap (λ (t : Bool). safe (rule_of t) vs rs v p) (sym same)

  -- A safe starting plan is the choice.
  pub choice_start : (start : ℕ) → true ≡ safe rule1 vs rs v start → some start ≡ choice vs rs v start
  unfolding choice
  choice_start start e = rw (sym e)

  -- No plan is safe.
  pub choice_none : (start : ℕ) → ((x : ℕ) → safe rule1 vs rs v x ≡ false) → none ≡ choice vs rs v start
  choice_none start never =
      chosen_one vs rs v start (other (unsafe start) unsafe) (choice_is vs rs v start)
    where
      unsafe : (x : ℕ) → ¬ Safe rule1 vs rs v x
      unsafe x s = clash ((safe_iff vs rs rule1 v x).0 s) (never x)

-- The rows that were prepared from the lowest view on are those of a call.
pub begins : (rs : Reports) (n f v u : ℕ) (c : Search) (plans : List ℕ) → Lowest (equals n f) rs v u
    → Prepared rs c plans × (c.n ≡ n) × (c.f ≡ f) × (c.u ≡ u) × (c.v ≡ v) → Begun rs n f v c plans
begins rs n f v u c plans l (ready, en, ef, eu, ev) =
    record { ready = ready; is_n = en; is_f = ef; is_v = ev; lowest = rw (en, ef, eu, ev) l }

module _ {rs : Reports} {n f v : ℕ} {c : Search} {plans : List ℕ} (b : Begun rs n f v c plans) where
  -- The search's answer by Rule 1 is the call's.
  pub one_same : (p : ℕ) (r : Bool) → r ≡ safe_in plans c p → r ≡ safe rule1 (equals n f) rs v p
  one_same p r is = is ∙ safe_same rs c plans b.ready b.lowest p ∙ rw (b.is_n, b.is_f, b.is_v)

  module _ (start : ℕ) (never : safe_in plans c start ≡ false) where
    -- Where the starting plan is not safe it does not pass.
    pub start_fails : (locked : Bool) → passes_in plans c locked start ≡ false
    start_fails locked = unsafe_passes rs c plans b.ready b.lowest locked start never

    -- The plan that the search finds then is the call's choice.
    pub choice_same : (o : Option ℕ) → o ≡ smallest_of plans c → o ≡ choice (equals n f) rs v start
    choice_same o is = is ∙ choice_other rs c plans b.ready b.lowest start never ∙ rw (b.is_n, b.is_f, b.is_v)
