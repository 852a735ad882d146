-- A plan's walk down its candidate views: u + 1, where that is below v, and u. Its count is carried along: who claims the plan at a view, and not at
-- the candidate above, comes in there. Prepared for it is one row of plans, in the order in which reporters come in. Assumes nothing.
use Rattle.std.specs.Prelude.{ℕ, zero, suc, ◌+◌, ◌-◌, ◌*◌, ◌≤◌, ◌<◌, min, max, ◌≡◌, Bool, cond, not, ◌&&◌, List, leb, ltb, eqb, get_or}
use Rattle.std.proofs.Math.Option.{Option, none, some}
use Rattle.rules.specs.Sets.{weigh}
use Rattle.rules.specs.Rules.{Report, Reports, reach}
use Rattle.claims.specs.declared.Coming.{Coming}
use Rattle.claims.specs.declared.Search.{Search}
use Rattle.claims.specs.declared.Vote.{Vote}
use Rattle.claims.specs.inside.Rows.{count_of}
use Rattle.claims.specs.inside.Spans.{stands_at}
use Rattle.claims.specs.Carried.{claimers, coming_in, carried}
use Rattle.claims.specs.Table.{column, reports_in_table}

-- ---- how far a vault's claims go

-- The highest view at which a report with these two votes claims p; a vote that is not there has view 0.
abbrev pub reach_by : Vote → Vote → ℕ → ℕ
reach_by highest previous p = max (cond (eqb highest.plan p) highest.view 0) previous.view

-- The vote of vault i in columns c and c + 1.
abbrev pub counted_in : List ℕ → ℕ → ℕ → Vote
counted_in t c i = record { view = get_or t (column * c + i) 0 - 1; plan = get_or t (column * (c + 1) + i) 0 }

-- The highest view at which the report that the table has of vault i claims p, whether it is one of this view or not.
unfoldable pub reach_in : List ℕ → ℕ → ℕ → ℕ
reach_in t i p = reach_by (counted_in t 1 i) (counted_in t 3 i) p

-- What the search asks of its table is the reach of the report that the table tells. Proved as `table_reach` in proofs/Standing.
abbrev pub TableReach : Type 0
TableReach = (t : List ℕ) (i p : ℕ) (r : Report) → reports_in_table t i ≡ some r → reach_in t i p ≡ reach r p

-- In how many views below `end`, from 0 on, a vault claims p: in none where it has not reported.
abbrev pub claim_end : ℕ → ℕ → Option Report → ℕ
claim_end end p none = 0
claim_end end p (some r) = min (reach r p + 1) end

-- In how many of the candidate views, which are those from u on: in 0, 1 or 2.
abbrev pub level : ℕ → ℕ → ℕ → Option Report → ℕ
level u end p o = claim_end end p o - u

-- The plan of vault i's highest vote, and a plan that is another one.
abbrev pub voted_in : List ℕ → ℕ → ℕ
voted_in t i = get_or t (column * 2 + i) 0

abbrev pub other_plan : ℕ → ℕ
other_plan x = cond (eqb x 0) 1 0

-- Vault i's levels for the plan of its highest vote, and for every other plan.
abbrev pub own_level : List ℕ → ℕ → ℕ → ℕ → ℕ
own_level t u end i = level u end (voted_in t i) (reports_in_table t i)

abbrev pub other_level : List ℕ → ℕ → ℕ → ℕ → ℕ
other_level t u end i = level u end (other_plan (voted_in t i)) (reports_in_table t i)

-- Both in one number: 6 for a vault that claims every plan in both candidate views, 5 for one that claims its own in both and the others at u,
-- 4 for its own in both, 3 for every plan at u, 2 for its own at u.
unfoldable pub standing : List ℕ → ℕ → ℕ → ℕ → ℕ
standing t u end i = own_level t u end i + own_level t u end i + other_level t u end i

-- The plans of the first n vaults that stand at k lie end to end, from a place on.
pub record Listed (t standings : List ℕ) (n k : ℕ) (plans : List ℕ) (from count : ℕ) : Type 0 where
  pub number : count ≡ weigh (λ i. 1) (stands_at standings k) n
  pub plan : (p : ℕ) → count_of plans from count p ≡ weigh (λ i. 1) (λ i. stands_at standings k i && eqb (voted_in t i) p) n

-- The lists lie end to end in the order in which vaults come in: own plan in both views and the others at u, own plan in both, own plan at u.
pub record InOrder (t standings : List ℕ) (n : ℕ) (plans : List ℕ) (both only here : ℕ) : Type 0 where
  pub first : Listed t standings n 5 plans 0 both
  pub second : Listed t standings n 4 plans both only
  pub third : Listed t standings n 2 plans (both + only) here
  pub most : both + only + here ≤ n

-- ---- who comes in

-- How many of the first k plans are not p.
unfoldable pub others_of : List ℕ → ℕ → ℕ → ℕ
others_of plans k p = weigh (λ r. 1) (λ r. not (eqb (get_or plans r 0) p)) k

-- How many come in for plan p.
abbrev pub coming_for : List ℕ → Coming → ℕ → ℕ
coming_for plans t p = t.every + others_of plans t.others p + count_of plans t.from t.some p

-- What comes in has its place in the row.
abbrev pub FitsComing : Coming → Type 0
FitsComing t = (t.every ≤ column) × (t.others ≤ column) × (t.from ≤ column) × (t.some ≤ column)

-- The candidate views end before u + 2, or at v where that is lower.
abbrev pub end_at : ℕ → ℕ → ℕ
end_at u v = cond (ltb (u + 1) v) (u + 2) v

abbrev pub end_of : Search → ℕ
end_of c = end_at c.u c.v

-- Who comes in at view u, and at the next.
abbrev pub coming_at : Search → ℕ → Coming
coming_at c w = cond (eqb w c.u) c.here c.next

-- ---- the carried count

-- The count when m candidate views are finished: 'made of the count above and the reporters not yet counted'.
unfoldable pub counted : List ℕ → Search → ℕ → ℕ → ℕ
counted plans c p zero = 0
counted plans c p (suc m) = counted plans c p m + coming_for plans (coming_at c (end_of c - suc m)) p

-- 'a blocking set claiming p at v'', by the row.
unfoldable pub claimed_in : List ℕ → Search → ℕ → ℕ → Bool
claimed_in plans c p w = leb (c.f + 1) (counted plans c p (end_of c - w))

-- 'The search over candidate views ends at the first one that serves the plan': the highest view below `end` and not below `low` that
-- passes, v where none does.
unfoldable pub serving_view : (ℕ → Bool) → ℕ → ℕ → ℕ → ℕ
serving_view test low v zero = v
serving_view test low v (suc w) = cond (ltb w low) v (cond (test w) w (serving_view test low v w))

-- ---- what was prepared

-- The candidate views of a walk that begins below `end`, downwards.
abbrev pub down_from : ℕ → ℕ → ℕ
down_from end k = end - suc k

-- How the row lies: first the plans of those that come in at the next view, then of those that come in at u. The first of all come in once more, at
-- u for every plan but their own; there are none where u is the only candidate.
pub record LaidOut (n u end : ℕ) (next here : Coming) : Type 0 where
  pub first : next.from ≡ 0
  pub none : next.others ≡ 0
  pub behind : here.from ≡ next.some
  pub within : here.others ≤ next.some
  pub alone : end ≤ u + 1 → here.others ≡ 0
  pub most : next.some + here.some ≤ n
  pub every : (next.every ≤ n) × (here.every ≤ n)

-- The row tells who comes in for each plan at each candidate view.
pub record Told (rs : Reports) (n u end : ℕ) (plans : List ℕ) (next here : Coming) : Type 0 where
  pub laid : LaidOut n u end next here
  pub above : u + 1 < end → (p : ℕ) → coming_for plans next p ≡ weigh (λ i. 1) (coming_in (claimers rs p) (down_from end) 0) n
  pub below : (p k : ℕ) → k + u + 1 ≡ end → coming_for plans here p ≡ weigh (λ i. 1) (coming_in (claimers rs p) (down_from end) k) n

-- The walk has finished the views from `end` on, and none of them serves. Whatever the reports are that the row tells of, its count is that of the claimers
-- at view `end`, and is made of the count above and those not yet counted. Before the first view it is 0.
pub record Walked (plans : List ℕ) (c : Search) (low p end count : ℕ) : Type 0 where
  pub from : end ≤ end_of c
  pub serves : serving_view (claimed_in plans c p) low c.v (end_of c) ≡ serving_view (claimed_in plans c p) low c.v end
  pub is : count ≡ counted plans c p (end_of c - end)
  pub tells : (rs : Reports) → Told rs c.n c.u (end_of c) plans c.next c.here → c.u ≤ end → end < end_of c
      → (count ≡ weigh (λ i. 1) (claimers rs p end) c.n)
      × (count ≡ carried (λ i. 1) (claimers rs p) (down_from (end_of c)) c.n (end_of c - suc end))
