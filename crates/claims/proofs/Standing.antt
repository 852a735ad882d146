-- Where a vault stands tells at which candidate view it comes in for which plan (document 02, wish 4). A vault's level is one for its own plan and one
-- for every other, so the row of plans, in the order in which vaults stand, tells who comes in at each candidate view (`standing_told`).
-- Assumes nothing.
use Prim.Native.Nat.{ℕ, zero, suc, ◌+◌, ◌-◌, ◌*◌, ◌≤◌, ◌<◌, min, max}
use mathlib.Core.Path.{◌≡◌, refl, sym, ◌∙◌, ap}
use mathlib.Core.Logic.{◌⊎◌, inl, inr}
use mathlib.Core.Bool.{Bool, true, false, cond, not, ◌&&◌}
use mathlib.Core.List.{List}
use mathlib.Core.Option.{Option, none, some}
use native.Mathlib.Omega.{arith}
use native.Mathlib.Decide.{ℕ_discrete, dec_lt}
use lib.Dec.{leb, ltb, eqb}
use lib.ListN.{get_or}
use borrow.Author.Tests.{le-leb, lt-leb, lt-ltb, le-ltb, eq-eqb, ne_eqb}
use Rattle.rules.specs.Sets.{Set, weigh}
use Rattle.rules.specs.Options.{holds}
use Rattle.rules.specs.Rules.{Report, Reports, reach, claims}
use Rattle.rules.proofs.Bools.{which}
use Rattle.rules.proofs.Reports.{none≢some}
use Rattle.rules.proofs.Quorums.{weigh_none, weigh_same, weigh_rest, weigh_most, share_most, total_equals}
use Rattle.claims.specs.Carried.{claimers, coming_in}
use Rattle.claims.specs.Table.{column, vote_in, reporter, reports_in_table}
use Rattle.claims.specs.declared.Coming.{Coming}
use Rattle.claims.specs.inside.Rows.{count_of}
use Rattle.claims.specs.inside.Spans.{stands_at, AreSpans}
use Rattle.claims.specs.inside.Walk.{reach_in, TableReach, claim_end, level, voted_in, other_plan, own_level, other_level, standing}
use Rattle.claims.specs.inside.Walk.{InOrder, others_of, coming_for, down_from, LaidOut, Told}
use Rattle.claims.proofs.Carried.{weigh_join}
use Rattle.claims.proofs.Rows.{view_in, view_for_in, count_none, count_more}

-- 0 either way.
pub nothing : (b : Bool) → ◌≡◌ {A = ℕ} 0 (cond b 0 0)
nothing true = refl
nothing false = refl

-- ---- the levels of one vault

-- The report that the table tells of a vault that has reported.
abbrev told : List ℕ → ℕ → Report
told t i = record { highest = vote_in t 1 i; previous = vote_in t 3 i; lock = vote_in t 5 i }

-- What is read off the table is its reach.
told_reach : (t : List ℕ) (i p : ℕ) → reach (told t i) p ≡ reach_in t i p
unfolding reach reach_in
told_reach t i p = rw (view_for_in p (get_or t (column * 1 + i) 0) (get_or t (column * 2 + i) 0), view_in (get_or t (column * 3 + i) 0) (get_or t (column * 4 + i) 0))

-- So it is of any report that the table tells.
pub table_reach : TableReach
unfolding reports_in_table
table_reach t i p r is = go (reporter t i) is
  where
    go : (b : Bool) → cond b (some (told t i)) none ≡ some r → reach_in t i p ≡ reach r p
    go true e = let same : told t i ≡ r = cc in sym (told_reach t i p) ∙ ap (λ (x : Report). reach x p) same
    go false e = absurd (none≢some e)

-- Where the vault has reported, its claims of p end behind the view that the table tells.
pub end_in : (t : List ℕ) (i end p : ℕ) → reporter t i ≡ true → claim_end end p (reports_in_table t i) ≡ min (reach_in t i p + 1) end
unfolding reports_in_table
end_in t i end p h = rw (h, told_reach t i p)

-- Where it has not, there are none.
pub end_silent : (t : List ℕ) (i end p : ℕ) → reporter t i ≡ false → claim_end end p (reports_in_table t i) ≡ 0
unfolding reports_in_table
end_silent t i end p h = rw h

-- The other plan is another one.
other_differs : (x : ℕ) → eqb x (other_plan x) ≡ false
other_differs x = go (ℕ_discrete x 0)
  where
    go : Dec (x ≡ 0) → eqb x (other_plan x) ≡ false
    go (yes is) = rw is
    go (no differ) = rw (ne_eqb x 0 differ, ne_eqb x 0 differ)

-- How far claims go by the view of the highest vote, where that is for the plan, and of the previous vote.
abbrev far : ℕ → ℕ → ℕ → ℕ → Bool → ℕ
far u end high before b = min (max (cond b high 0) before + 1) end - u

-- A plan matters only by whether it is the vault's own.
far_cases : (u end high before : ℕ) (b : Bool) → far u end high before b ≡ cond b (far u end high before true) (far u end high before false)
far_cases u end high before true = refl
far_cases u end high before false = refl

-- The view of the highest vote makes claims go no less far.
far_more : (u end high before : ℕ) → far u end high before false ≤ far u end high before true
far_more u end high before = cut (max 0 before) (max high before) (omega arith)
  where
    cut : (a b : ℕ) → a ≤ b → min (a + 1) end - u ≤ min (b + 1) end - u
    cut a b le = omega arith

-- They go no farther than `end`.
far_most : (u end high before : ℕ) (b : Bool) → far u end high before b ≤ end - u
far_most u end high before b = cut (max (cond b high 0) before + 1)
  where
    cut : (a : ℕ) → min a end - u ≤ end - u
    cut a = omega arith

module _ (t : List ℕ) (u end i : ℕ) where
  -- The views of its highest vote and of its previous one.
  abbrev high : ℕ
  high = get_or t (column * 1 + i) 0 - 1

  abbrev before : ℕ
  before = get_or t (column * 3 + i) 0 - 1

  -- The level of a vault that has reported.
  level_in : (p : ℕ) → reporter t i ≡ true
      → level u end p (reports_in_table t i) ≡ far u end high before (eqb (voted_in t i) p)
  unfolding reach_in
  level_in p h = ap (λ (x : ℕ). x - u) (end_in t i end p h)

  -- The level of a vault that has not.
  level_silent : (p : ℕ) → reporter t i ≡ false → level u end p (reports_in_table t i) ≡ 0
  level_silent p h = let e : claim_end end p (reports_in_table t i) ≡ 0 = end_silent t i end p h in omega arith

  -- A vault has one level for its own plan and one for every other.
  level_is : (p : ℕ) → level u end p (reports_in_table t i) ≡ cond (eqb (voted_in t i) p) (own_level t u end i) (other_level t u end i)
  level_is p = go (which (reporter t i))
    where
      go : (reporter t i ≡ true) ⊎ (reporter t i ≡ false)
          → level u end p (reports_in_table t i) ≡ cond (eqb (voted_in t i) p) (own_level t u end i) (other_level t u end i)
      go (inl h) =
          rw (level_in p h, level_in (voted_in t i) h, level_in (other_plan (voted_in t i)) h, eq-eqb (voted_in t i) (voted_in t i) refl, other_differs (voted_in t i))
          (far_cases u end high before (eqb (voted_in t i) p))
      go (inr h) = rw (level_silent p h, level_silent (voted_in t i) h, level_silent (other_plan (voted_in t i)) h) (nothing (eqb (voted_in t i) p))

  -- Its own plan it claims no less than another, and none beyond the candidate views.
  levels_order : (other_level t u end i ≤ own_level t u end i) × (own_level t u end i ≤ end - u)
  levels_order = go (which (reporter t i))
    where
      go : (reporter t i ≡ true) ⊎ (reporter t i ≡ false) → (other_level t u end i ≤ own_level t u end i) × (own_level t u end i ≤ end - u)
      go (inl h) =
          rw (level_in (voted_in t i) h, level_in (other_plan (voted_in t i)) h, eq-eqb (voted_in t i) (voted_in t i) refl, other_differs (voted_in t i))
          (far_more u end high before, far_most u end high before true)
      go (inr h) = rw (level_silent (voted_in t i) h, level_silent (other_plan (voted_in t i)) h) (omega arith, omega arith)

-- ---- where one vault comes in

-- A vault claims a plan in the views below the end of its claims.
claims_to : (p w end : ℕ) (o : Option Report) → w < end → holds (claims p w) o ≡ ltb w (claim_end end p o)
unfolding claims
claims_to p w end none low = sym (le-ltb w 0 (omega arith))
claims_to p w end (some r) low = go (dec_lt (reach r p) w)
  where
    go : Dec (reach r p < w) → leb w (reach r p) ≡ ltb w (min (reach r p + 1) end)
    go (yes less) = rw (lt-leb w (reach r p) less, le-ltb w (min (reach r p + 1) end) (omega arith))
    go (no more) = rw (le-leb w (reach r p) (omega arith), lt-ltb w (min (reach r p + 1) end) (omega arith))

-- The claims end at `end` at the latest.
pub end_most : (p end : ℕ) (o : Option Report) → claim_end end p o ≤ end
end_most p end none = omega arith
end_most p end (some r) = omega arith

-- The last view below `end` is claimed just where the level reaches it.
last_one : (u end e d : ℕ) → e ≤ end → 0 < d → u + d ≡ end → ltb (end - 1) e ≡ eqb (e - u) d
last_one u end e d most there is = go (ℕ_discrete e end)
  where
    go : Dec (e ≡ end) → ltb (end - 1) e ≡ eqb (e - u) d
    go (yes all) = rw (lt-ltb (end - 1) e (omega arith), eq-eqb (e - u) d (omega arith))
    go (no less) = rw (le-ltb (end - 1) e (omega arith), ne_eqb (e - u) d (λ (same : e - u ≡ d). omega arith))

-- The one before it is claimed and the last is not, just where the level is 1.
only_one : (u end e : ℕ) → e ≤ end → u + 2 ≡ end → (ltb (end - 2) e && not (ltb (end - 1) e)) ≡ eqb (e - u) 1
only_one u end e most is = go (ℕ_discrete e (u + 1)) (dec_lt (u + 1) e)
  where
    go : Dec (e ≡ u + 1) → Dec (u + 1 < e) → (ltb (end - 2) e && not (ltb (end - 1) e)) ≡ eqb (e - u) 1
    go (yes one) d = rw (lt-ltb (end - 2) e (omega arith), le-ltb (end - 1) e (omega arith), eq-eqb (e - u) 1 (omega arith))
    go (no other) (yes more) =
        rw (lt-ltb (end - 2) e (omega arith), lt-ltb (end - 1) e (omega arith), ne_eqb (e - u) 1 (λ (same : e - u ≡ 1). omega arith))
    go (no other) (no less) = rw (le-ltb (end - 2) e (omega arith), ne_eqb (e - u) 1 (λ (same : e - u ≡ 1). omega arith))

module _ (rs : Reports) (u end p i : ℕ) (two : end ≤ u + 2) where
  -- At the last view below `end` come in those who claim the plan in all d candidate views.
  comes_last : (d : ℕ) → 0 < d → u + d ≡ end → coming_in (claimers rs p) (down_from end) 0 i ≡ eqb (level u end p (rs i)) d
  unfolding coming_in
  comes_last d there is = claims_to p (end - 1) end (rs i) (omega arith) ∙ last_one u end (claim_end end p (rs i)) d (end_most p end (rs i)) there is

  -- At the next view come in those of level 2.
  comes_above : u + 1 < end → coming_in (claimers rs p) (down_from end) 0 i ≡ eqb (level u end p (rs i)) 2
  comes_above more = comes_last 2 (omega arith) (omega arith)

  -- At u come in those of level 1.
  comes_below : (k : ℕ) → k + u + 1 ≡ end → coming_in (claimers rs p) (down_from end) k i ≡ eqb (level u end p (rs i)) 1
  unfolding coming_in
  comes_below zero is = comes_last 1 (omega arith) (omega arith)
  comes_below (suc zero) is =
      rw (claims_to p (end - 2) end (rs i) (omega arith), claims_to p (end - 1) end (rs i) (omega arith))
      (only_one u end (claim_end end p (rs i)) (end_most p end (rs i)) (omega arith))
  comes_below (suc (suc k)) is = absurd (omega arith)

-- ---- how one vault counts

-- Whether a vault comes in, by its level for a plan and by where it stands, as numbers to be summed. At the next view it is one of level 2: it stands
-- at 6, or at 5 or 4 and the plan is its own. At u it is one of level 1: it stands at 3, at 5 and the plan is another, or at 2 and the plan is its own.
abbrev Shares : ℕ → ℕ → Bool → Type 0
Shares height s b =
    (cond (eqb height 2) 1 0 ≡ cond (eqb s 6) 1 0 + (cond (eqb s 5 && b) 1 0 + cond (eqb s 4 && b) 1 0))
    × (cond (eqb height 1) 1 0 ≡ cond (eqb s 3) 1 0 + (cond (eqb s 5 && not b) 1 0 + cond (eqb s 2 && b) 1 0))

-- Each of the six ways in which a vault can stand, for its own plan and for another.
shares : (own other : ℕ) (b : Bool) → other ≤ own → own ≤ 2 → Shares (cond b own other) (own + own + other) b
shares zero zero true le most = (refl, refl)
shares zero zero false le most = (refl, refl)
shares zero (suc m) b le most = absurd (omega arith)
shares (suc zero) zero true le most = (refl, refl)
shares (suc zero) zero false le most = (refl, refl)
shares (suc zero) (suc zero) true le most = (refl, refl)
shares (suc zero) (suc zero) false le most = (refl, refl)
shares (suc zero) (suc (suc m)) b le most = absurd (omega arith)
shares (suc (suc zero)) zero true le most = (refl, refl)
shares (suc (suc zero)) zero false le most = (refl, refl)
shares (suc (suc zero)) (suc zero) true le most = (refl, refl)
shares (suc (suc zero)) (suc zero) false le most = (refl, refl)
shares (suc (suc zero)) (suc (suc zero)) true le most = (refl, refl)
shares (suc (suc zero)) (suc (suc zero)) false le most = (refl, refl)
shares (suc (suc zero)) (suc (suc (suc m))) b le most = absurd (omega arith)
shares (suc (suc (suc m))) other b le most = absurd (omega arith)

-- Nobody stands at two of 5, 4 and 2.
apart : (s : ℕ) → cond (eqb s 5) 1 0 + (cond (eqb s 4) 1 0 + cond (eqb s 2) 1 0) ≤ 1
apart s = go (ℕ_discrete s 5) (ℕ_discrete s 4)
  where
    go : Dec (s ≡ 5) → Dec (s ≡ 4) → cond (eqb s 5) 1 0 + (cond (eqb s 4) 1 0 + cond (eqb s 2) 1 0) ≤ 1
    go (yes five) d = rw five (omega arith)
    go (no other) (yes four) = rw four (omega arith)
    go (no other) (no another) = rw (ne_eqb s 5 other, ne_eqb s 4 another) (omega (arith, share_most (eqb s 2) 1 (cond (eqb s 2) 1 0) refl))

-- ---- sums

-- What three sets weigh together, where a fourth has the members of all and no vault is in two.
weigh_three : (a b c all : Set) (k : ℕ) → ((i : ℕ) → i < k → cond (all i) 1 0 ≡ cond (a i) 1 0 + (cond (b i) 1 0 + cond (c i) 1 0))
    → weigh (λ i. 1) all k ≡ weigh (λ i. 1) a k + (weigh (λ i. 1) b k + weigh (λ i. 1) c k)
unfolding weigh
weigh_three a b c all zero each = refl
weigh_three a b c all (suc k) each = omega (arith, weigh_three a b c all k (λ i low. each i (omega arith)), each k (omega arith))

-- Three sets of the first k vaults have k members at most, where no vault is in two.
three_most : (a b c : Set) (k : ℕ) → ((i : ℕ) → cond (a i) 1 0 + (cond (b i) 1 0 + cond (c i) 1 0) ≤ 1)
    → weigh (λ i. 1) a k + (weigh (λ i. 1) b k + weigh (λ i. 1) c k) ≤ k
unfolding weigh
three_most a b c zero each = omega arith
three_most a b c (suc k) each = omega (arith, three_most a b c k each, each k)

-- The lists of the first n vaults have n plans at most.
pub lists_most : (standings : List ℕ) (n : ℕ)
    → weigh (λ i. 1) (stands_at standings 5) n + (weigh (λ i. 1) (stands_at standings 4) n + weigh (λ i. 1) (stands_at standings 2) n) ≤ n
lists_most standings n = three_most (stands_at standings 5) (stands_at standings 4) (stands_at standings 2) n (λ i. apart (get_or standings i 0))

-- A count goes on behind a place.
pub count_join : (plans : List ℕ) (a b p : ℕ) → count_of plans 0 (a + b) p ≡ count_of plans 0 a p + count_of plans a b p
count_join plans a zero p = let e : a + 0 ≡ a = omega arith in rw e (omega (arith, count_none plans a p))
count_join plans a (suc b) p =
    let e : a + suc b ≡ a + b + 1 = omega arith in
    let f : suc b ≡ b + 1 = omega arith in
    let same : 0 + (a + b) ≡ a + b = omega arith in
    let more : count_of plans 0 (a + b + 1) p ≡ count_of plans 0 (a + b) p + cond (eqb (get_or plans (a + b) 0) p) 1 0 =
    rw same at (count_more plans 0 (a + b) p) in
    rw (e, f) (omega (arith, count_more plans a b p, count_join plans a b p))

-- Those that are p and those that are not.
pub count_rest : (plans : List ℕ) (k p : ℕ) → count_of plans 0 k p + others_of plans k p ≡ k
unfolding count_of others_of
count_rest plans k p =
    omega (
      arith,
      weigh_same (λ r. 1) (λ r. eqb (get_or plans (0 + r) 0) p) (λ r. eqb (get_or plans r 0) p) k (λ r low. same r),
      weigh_rest (λ r. 1) (λ r. eqb (get_or plans r 0) p) k,
      total_equals k 0,
    )
  where
    same : (r : ℕ) → eqb (get_or plans (0 + r) 0) p ≡ eqb (get_or plans r 0) p
    same r = let e : 0 + r ≡ r = omega arith in rw e

-- Those that pass a second test and those that do not.
weigh_halves : (a b : Set) (k : ℕ) → weigh (λ i. 1) a k ≡ weigh (λ i. 1) (λ i. a i && b i) k + weigh (λ i. 1) (λ i. a i && not (b i)) k
weigh_halves a b k = weigh_join (λ i. 1) (λ i. a i && b i) (λ i. a i && not (b i)) a k (λ i low. half (a i) (b i))
  where
    half : (x y : Bool) → cond x 1 0 ≡ cond (x && y) 1 0 + cond (x && not y) 1 0
    half true true = refl
    half true false = refl
    half false y = refl

-- A set without members weighs nothing.
weigh_empty : (a : Set) (k : ℕ) → ((i : ℕ) → i < k → a i ≡ false) → weigh (λ i. 1) a k ≡ 0
unfolding weigh
weigh_empty a zero never = refl
weigh_empty a (suc k) never = rw (never k (omega arith)) (omega (arith, weigh_empty a k (λ i low. never i (omega arith))))

-- ---- the row

module _ (t : List ℕ) (n u end : ℕ) (two : end ≤ u + 2) (standings : List ℕ) (are : AreSpans standings n (standing t u end)) where
  -- Whether vault i comes in for plan p, by the list of standings.
  vault_shares : (p i : ℕ) → i < n → Shares (level u end p (reports_in_table t i)) (get_or standings i 0) (eqb (voted_in t i) p)
  unfolding standing
  vault_shares p i low =
      let (order, most) = levels_order t u end i in
      rw (level_is t u end i p, are i low) (shares (own_level t u end i) (other_level t u end i) (eqb (voted_in t i) p) order (omega arith))

  -- Where u is the only candidate, nobody claims a plan in both views.
  nobody_both : end ≤ u + 1 → (i : ℕ) → i < n → stands_at standings 5 i ≡ false
  unfolding standing
  nobody_both one i low =
      let (order, most) = levels_order t u end i in
      ne_eqb (get_or standings i 0) 5 (λ (at : get_or standings i 0 ≡ 5). omega (arith, are i low, order, most))

  module _ (plans : List ℕ) (both only here : ℕ) (row : InOrder t standings n plans both only here) where
    -- Of the first, who claim their own plan in both views and the others at u, those whose plan is not p.
    others_told : (p : ℕ) → others_of plans both p ≡ weigh (λ i. 1) (λ i. stands_at standings 5 i && not (eqb (voted_in t i) p)) n
    others_told p =
        omega (arith, count_rest plans both p, weigh_halves (stands_at standings 5) (λ i. eqb (voted_in t i) p) n, row.first.number, row.first.plan p)

    module _ (upper all : ℕ) (are_upper : upper ≡ weigh (λ i. 1) (stands_at standings 6) n) (are_all : all ≡ weigh (λ i. 1) (stands_at standings 3) n) where
      -- Who comes in at the next view, and at u.
      abbrev next : Coming
      next = record { every = upper; from = 0; some = both + only; others = 0 }

      abbrev last : Coming
      last = record { every = all; from = both + only; some = here; others = both }

      -- At the next view they are those of level 2.
      told_above : u + 1 < end → (p : ℕ)
          → coming_for plans next p ≡ weigh (λ i. 1) (coming_in (claimers (reports_in_table t) p) (down_from end) 0) n
      unfolding others_of
      told_above more p =
          omega (
            arith,
            are_upper,
            weigh_none (λ r. 1) (λ r. not (eqb (get_or plans r 0) p)),
            count_join plans both only p,
            row.first.plan p,
            row.second.plan p,
            weigh_three (stands_at standings 6) (λ i. stands_at standings 5 i && eqb (voted_in t i) p) (λ i. stands_at standings 4 i && eqb (voted_in t i) p)
                (coming_in (claimers (reports_in_table t) p) (down_from end) 0) n
                (λ i low. rw (comes_above (reports_in_table t) u end p i two more) (vault_shares p i low).0),
          )

      -- At u they are those of level 1.
      told_below : (p k : ℕ) → k + u + 1 ≡ end
          → coming_for plans last p ≡ weigh (λ i. 1) (coming_in (claimers (reports_in_table t) p) (down_from end) k) n
      told_below p k is =
          omega (
            arith,
            are_all,
            others_told p,
            row.third.plan p,
            weigh_three (stands_at standings 3) (λ i. stands_at standings 5 i && not (eqb (voted_in t i) p)) (λ i. stands_at standings 2 i && eqb (voted_in t i) p)
                (coming_in (claimers (reports_in_table t) p) (down_from end) k) n
                (λ i low. rw (comes_below (reports_in_table t) u end p i two k is) (vault_shares p i low).1),
          )

      -- The row lies as it should.
      laid_out : LaidOut n u end next last
      laid_out = record {
        first = refl;
        none = refl;
        behind = refl;
        within = omega arith;
        alone = λ one. row.first.number ∙ weigh_empty (stands_at standings 5) n (nobody_both one);
        most = omega (arith, row.most);
        every = (omega (arith, are_upper, weigh_most (stands_at standings 6) n), omega (arith, are_all, weigh_most (stands_at standings 3) n));
      }

      -- The row tells who comes in for each plan at each candidate view.
      pub standing_told : Told (reports_in_table t) n u end plans next last
      standing_told = record { laid = laid_out; above = told_above; below = told_below }
