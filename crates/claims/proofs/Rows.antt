-- The laws of rows (document 01, 'When a plan is safe'). A report is for every plan, for one, or for none; so a count of equal plans, with those
-- that are for every plan, tells how many are for a plan (`tells_more`).
-- Assumes nothing.
use Prim.Native.Nat.{ℕ, zero, suc, ◌+◌, ◌-◌, ◌^◌, ◌≤◌, ◌<◌}
use mathlib.Core.Path.{◌≡◌, refl, sym, ◌∙◌, ap, subst₂}
use mathlib.Core.Bool.{Bool, true, false, cond}
use mathlib.Core.List.{List, [], ◌∷◌}
use mathlib.Core.Option.{none, some}
use native.Mathlib.Omega.{arith}
use native.Mathlib.Decide.{ℕ_discrete}
use lib.Dec.{eqb}
use lib.ListN.{length, length-set, get_or, set}
use lib.Seq.{get_or-set_same, get_or-set_other}
use borrow.Author.Tests.{eq-eqb, ne_eqb}
use Rattle.rules.specs.Sets.{weigh}
use Rattle.rules.proofs.Quorums.{weigh_none, weigh_more, weigh_same}
use Rattle.rules.specs.Rules.{Report, Reports, view_of, view_for, reporting}
use Rattle.claims.specs.declared.Tally.{Tally}
use Rattle.claims.specs.inside.Rows.{rows_size, Words, count_of, Stance, for_all, for_one, for_none, added, RowTells, SameBelow}
use Rattle.claims.specs.Table.{column, vote_above, reporter, reports_in_table}

-- ---- votes of the table

-- A vote counts with its view, and as 0 where it is absent.
pub view_in : (above plan : ℕ) → view_of (vote_above above plan) ≡ above - 1
unfolding vote_above
view_in above plan = go (ℕ_discrete above 0)
  where
    go : Dec (above ≡ 0) → view_of (cond (eqb above 0) none (some (record { view = above - 1; plan = plan }))) ≡ above - 1
    go (yes absent) = rw (eq-eqb above 0 absent) (omega arith)
    go (no there) = rw (ne_eqb above 0 there)

-- The same of a vote that is for plan p.
pub view_for_in : (p above plan : ℕ) → view_for p (vote_above above plan) ≡ cond (eqb plan p) (above - 1) 0
unfolding vote_above
view_for_in p above plan = go (ℕ_discrete above 0)
  where
    nothing : (b : Bool) → above - 1 ≡ 0 → 0 ≡ cond b (above - 1) 0
    nothing true e = sym e
    nothing false e = refl

    go : Dec (above ≡ 0) → view_for p (cond (eqb above 0) none (some (record { view = above - 1; plan = plan }))) ≡ cond (eqb plan p) (above - 1) 0
    go (yes absent) = let e : above - 1 ≡ 0 = omega arith in rw (eq-eqb above 0 absent) (nothing (eqb plan p) e)
    go (no there) = rw (ne_eqb above 0 there)

-- A vault that has not reported passes no test.
pub silent : (t : List ℕ) (r : ℕ) (test : Report → Bool) → reporter t r ≡ false → reporting (reports_in_table t) test r ≡ false
unfolding reports_in_table
silent t r test h = rw h

-- ---- rows

-- A number of 64 bits written into a row of such numbers leaves one.
pub words_set : (s : List ℕ) (k v : ℕ) → Words s → v < 2 ^ 64 → Words (set s k v)
words_set [] k v w low i = w i
words_set (x ∷ s) zero v w low zero = low
words_set (x ∷ s) zero v w low (suc i) = w (suc i)
words_set (x ∷ s) (suc k) v w low zero = w zero
words_set (x ∷ s) (suc k) v w low (suc i) = words_set s k v (λ j. w (suc j)) low i

-- A row without plans counts none.
pub count_none : (plans : List ℕ) (at p : ℕ) → count_of plans at 0 p ≡ 0
unfolding count_of
count_none plans at p = weigh_none _ _

-- One plan more.
pub count_more : (plans : List ℕ) (at k p : ℕ) → count_of plans at (k + 1) p ≡ count_of plans at k p + cond (eqb (get_or plans (at + k) 0) p) 1 0
unfolding count_of
count_more plans at k p = weigh_more _ _ k

-- The same with those that are for every plan.
pub count_step : (plans : List ℕ) (at k p every count share : ℕ) → count ≡ every + count_of plans at k p
    → share ≡ cond (eqb (get_or plans (at + k) 0) p) 1 0 → count + share ≡ every + count_of plans at (k + 1) p
count_step plans at k p every count share e is = omega (arith, count_more plans at k p)

-- A count depends on nothing but the places of its row.
pub count_same : (before after : List ℕ) (at k p : ℕ) → ((r : ℕ) → r < k → get_or after (at + r) 0 ≡ get_or before (at + r) 0)
    → count_of after at k p ≡ count_of before at k p
unfolding count_of
count_same before after at k p same = weigh_same _ _ _ k (λ r low. ap (λ (x : ℕ). eqb x p) (same r low))

-- A plan that is counted stands in the row.
pub count_where : (plans : List ℕ) (at k p : ℕ) → 0 < count_of plans at k p → (r : ℕ) × (r < k) × (get_or plans (at + r) 0 ≡ p)
unfolding count_of weigh
count_where plans at zero p more = absurd (omega arith)
count_where plans at (suc k) p more = go (ℕ_discrete (get_or plans (at + k) 0) p) (count_where plans at k p)
  where
    go : Dec (get_or plans (at + k) 0 ≡ p)
        → (0 < weigh (λ r. 1) (λ r. eqb (get_or plans (at + r) 0) p) k → (r : ℕ) × (r < k) × (get_or plans (at + r) 0 ≡ p))
        → (r : ℕ) × (r < suc k) × (get_or plans (at + r) 0 ≡ p)
    go (yes is) rest = (k, omega arith, is)
    go (no off) rest =
        let less : 0 < weigh (λ r. 1) (λ r. eqb (get_or plans (at + r) 0) p) k + 0 = rw (ne_eqb (get_or plans (at + k) 0) p off) at more in
        let (r, low, is) = rest (omega arith) in
        (r, omega arith, is)

-- One report more: its plan is written behind the row, and counts where the report is for that plan only.
module _ (plans : List ℕ) (at k x : ℕ) (low : at + k < length plans) where
  -- The row with x behind its k plans.
  abbrev after : List ℕ
  after = set plans (at + k) x

  -- The k plans before it are counted as they were.
  pub put_keeps : (p : ℕ) → count_of after at k p ≡ count_of plans at k p
  put_keeps p = count_same plans after at k p (λ r less. get_or-set_other plans (at + k) (at + r) x 0 (λ (e : at + r ≡ at + k). omega arith))

  -- With it, plan x is counted once more.
  pub put_counts : (p : ℕ) → count_of after at (k + 1) p ≡ count_of plans at k p + cond (eqb x p) 1 0
  put_counts p = count_more after at k p ∙ ap (λ (c : ℕ). c + cond (eqb (get_or after (at + k) 0) p) 1 0) (put_keeps p)
      ∙ ap (λ (y : ℕ). count_of plans at k p + cond (eqb y p) 1 0) (get_or-set_same plans (at + k) x 0 low)

  module _ (rs : Reports) (test : ℕ → Report → Bool) (i all every some : ℕ) where
    -- What the row tells after report i.
    abbrev Grown : Type 0
    Grown = RowTells rs (i + 1) test after at (record { every = all + every; some = k + some })

    -- How many of the first j reports pass the test of plan p.
    abbrev weighed : ℕ → ℕ → ℕ
    weighed p j = weigh (λ i. 1) (reporting rs (test p)) j

    -- A row that tells of the first i reports tells of one more, whether that one is for every plan, for one or for none.
    tells_more : Stance (λ p. reporting rs (test p) i) x every some → RowTells rs i test plans at (record { every = all; some = k }) → Grown
    tells_more (for_all e s pass) row = record { most = omega (arith, row.most); tells = λ p. tell p }
      where
        tell : (p : ℕ) → all + every + count_of after at (k + some) p ≡ weighed p (i + 1)
        tell p =
            let grown : weighed p (i + 1) ≡ weighed p i + cond (reporting rs (test p) i) 1 0 = weigh_more _ _ i in
            let same : k + some ≡ k = omega arith in
            rw (same, put_keeps p, grown, pass p) (omega (arith, row.tells p))
    tells_more (for_one e s pass) row = record { most = omega (arith, row.most); tells = λ p. tell p }
      where
        tell : (p : ℕ) → all + every + count_of after at (k + some) p ≡ weighed p (i + 1)
        tell p =
            let grown : weighed p (i + 1) ≡ weighed p i + cond (reporting rs (test p) i) 1 0 = weigh_more _ _ i in
            let same : k + some ≡ k + 1 = omega arith in
            rw (same, put_counts p, grown, pass p) (omega (arith, row.tells p))
    tells_more (for_none e s pass) row = record { most = omega (arith, row.most); tells = λ p. tell p }
      where
        tell : (p : ℕ) → all + every + count_of after at (k + some) p ≡ weighed p (i + 1)
        tell p =
            let grown : weighed p (i + 1) ≡ weighed p i + cond (reporting rs (test p) i) 1 0 = weigh_more _ _ i in
            let same : k + some ≡ k = omega arith in
            rw (same, put_keeps p, grown, pass p) (omega (arith, row.tells p))

-- ---- a row, written report by report

-- The row at a place tells of the first r of n reports, and what lies below it is as it was at first.
pub record RowCounted (rs : Reports) (test : ℕ → ℕ → Report → Bool) (view n at : ℕ) (first plans : List ℕ) (t : Tally) (r : ℕ) : Type 0 where
  pub within : r ≤ n
  pub size : length plans ≡ rows_size
  pub same : SameBelow first plans at
  pub row : RowTells rs r (λ p. test p view) plans at t

-- An empty row tells of no report.
pub row_none : (rs : Reports) (test : ℕ → ℕ → Report → Bool) (view n at : ℕ) (first : List ℕ) → length first ≡ rows_size
    → RowCounted rs test view n at first first (record { every = 0; some = 0 }) 0
row_none rs test view n at first size = record {
  within = omega arith;
  size = size;
  same = λ i low. refl;
  row = record { most = omega arith; tells = λ p. tell p };
}
  where
    tell : (p : ℕ) → 0 + count_of first at 0 p ≡ weigh (λ i. 1) (reporting rs (test p view)) 0
    tell p = rw (count_none first at p, weigh_none (λ i. 1) (reporting rs (test p view)))

module _ {rs : Reports} {test : ℕ → ℕ → Report → Bool} {view n at : ℕ} {first plans : List ℕ} {t : Tally} {r : ℕ}
    (c : RowCounted rs test view n at first plans t r) where
  module _ (x : ℕ) (share : Tally) (stance : Stance (λ p. reporting rs (test p view) r) x share.every share.some)
      (less : r < n) (few : n ≤ column) (room : at + column ≤ rows_size) where
    -- The report's plan is written behind the row: what lies below it stays.
    pub row_more : (after : List ℕ) (more : Tally) → after ≡ set plans (at + t.some) x → more ≡ added t share
        → RowCounted rs test view n at first after more (r + 1)
    row_more after more put is =
        subst₂ (λ (l : List ℕ) (m : Tally). RowCounted rs test view n at first l m (r + 1)) (sym put) (sym is) (record {
          within = omega arith;
          size = simp length-set c.size;
          same = λ i below. get_or-set_other plans (at + t.some) i x 0 (λ (e : i ≡ at + t.some). omega arith) ∙ c.same i below;
          row = tells_more plans at t.some x (omega (arith, c.size, c.row.most)) rs (λ p. test p view) r t.every share.every share.some stance
              (record { most = c.row.most; tells = c.row.tells });
        })
