-- What the search for safe plans tests, by the rows that were prepared for it; and what it is to be the rows of the reports.
-- Assumes nothing.
use Rattle.std.specs.Prelude.{ℕ, zero, suc, ◌+◌, ◌-◌, ◌≤◌, ◌<◌, ◌≡◌, ◌≢◌, Bool, true, false, cond, ◌&&◌, ◌||◌, List, leb, ltb, eqb, length, get_or}
use Rattle.std.proofs.Math.Option.{Option, none}
use Rattle.rules.specs.Rules.{Reports, allows}
use Rattle.rules.specs.Sets.{Vaults, equals}
use Rattle.rules.specs.inside.Counts.{free, smaller}
use Rattle.rules.specs.inside.Views.{Lowest}
use Rattle.claims.specs.declared.Search.{Search}
use Rattle.claims.specs.inside.Rows.{rows_size, for_plan, FitsRow, RowTells}
use Rattle.claims.specs.inside.Walk.{LaidOut, Told, claimed_in, end_of, serving_view}
use Rattle.claims.specs.Table.{column}

-- Where the row of locks begins, behind the row of claims.
abbrev pub lock_row : ℕ
lock_row = 64

-- ---- tests by the rows

-- 'no lock in q above v'; every lock in q at v' is for p', for some quorum q of reporters, at view u.
unfoldable pub allowed_in : List ℕ → Search → ℕ → Bool
allowed_in plans c p = leb (c.n - c.f) (for_plan plans lock_row c.locks p)

-- 'The search over candidate views ends at the first one that serves the plan': some candidate view, not below low, does.
unfoldable pub served_from : List ℕ → Search → ℕ → ℕ → Bool
served_from plans c low p = ltb (serving_view (claimed_in plans c p) low c.v (end_of c)) c.v

-- Plan p is safe by Rule 1: view u can serve it where the locks there allow it, and any later view can.
abbrev pub safe_in : List ℕ → Search → ℕ → Bool
safe_in plans c p = cond (allowed_in plans c p) (served_from plans c c.u p) (served_from plans c (c.u + 1) p)

-- ---- 'the smallest safe plan'

-- It is a lock's plan that view u serves, or a highest vote's plan that the next view serves.
abbrev pub passes_in : List ℕ → Search → Bool → ℕ → Bool
passes_in plans c true p = allowed_in plans c p && served_from plans c c.u p
passes_in plans c false p = served_from plans c (c.u + 1) p

-- Where the plans to try begin, of locks or of votes, and how many there are.
abbrev pub tried_at : Bool → ℕ
tried_at locked = cond locked lock_row 0

abbrev pub tried_count : Search → Bool → ℕ
tried_count c locked = cond locked c.locks.some c.next.some

-- The smallest of `best`, if any, and of the plans with numbers below k that pass the test.
unfoldable pub smallest_from : Option ℕ → (ℕ → Bool) → (ℕ → ℕ) → ℕ → Option ℕ
smallest_from best test plan zero = best
smallest_from best test plan (suc k) = smaller (test (plan k)) (plan k) (smallest_from best test plan k)

-- The locks' plans are tried first, then the votes'.
abbrev pub smallest_of : List ℕ → Search → Option ℕ
smallest_of plans c =
    smallest_from (smallest_from none (passes_in plans c true) (λ i. get_or plans (lock_row + i) 0) c.locks.some)
    (passes_in plans c false) (λ i. get_or plans (0 + i) 0) c.next.some

-- ---- the two-set clause

-- 'blocking sets claiming p1 at view a and another plan p2 at view b', where a test tells what is claimed at each view.
pub data Pair (next here : ℕ → Bool) (b : Bool) : Type 0 where
  two : (m x : ℕ) → x ≢ m → next m ≡ true → here x ≡ true → b ≡ true → Pair next here b
  unclaimed : ((m : ℕ) → next m ≡ false) → b ≡ false → Pair next here b
  lone : (m : ℕ) → ((x : ℕ) → x ≢ m → here x ≡ false) → b ≡ false → Pair next here b

-- What is claimed at the next view, where that is a candidate, is claimed at view u.
abbrev pub Falling : List ℕ → Search → Type 0
Falling plans c = (p : ℕ) → c.u + 1 < c.v → claimed_in plans c p (c.u + 1) ≡ true → claimed_in plans c p c.u ≡ true

-- ---- what was prepared

-- The rows have their places, and u is a view below v.
pub record Laid (c : Search) (plans : List ℕ) : Type 0 where
  pub size : length plans ≡ rows_size
  pub below : c.u < c.v
  pub few : c.f < c.n
  pub most : c.n ≤ column
  pub claims : LaidOut c.n c.u (end_of c) c.next c.here
  pub locks : FitsRow c.locks

-- They tell who comes in for which plan at the candidate views, and whose locks allow a plan at view u.
pub record Prepared (rs : Reports) (c : Search) (plans : List ℕ) : Type 0 where
  pub laid : Laid c plans
  pub claims : Told rs c.n c.u (end_of c) plans c.next c.here
  pub locks : RowTells rs c.n (λ p. allows p c.u) plans lock_row c.locks

-- In view 0 every plan is safe, and so where 'some quorum q of reporters has no lock at all'.
unfoldable pub every_safe : Vaults → Reports → ℕ → Bool
every_safe vs rs v = eqb v 0 || free vs rs

-- The rows are prepared for a call, whose numbers the search has, from the lowest view on that can serve a plan.
pub record Begun (rs : Reports) (n f v : ℕ) (c : Search) (plans : List ℕ) : Type 0 where
  pub ready : Prepared rs c plans
  pub is_n : c.n ≡ n
  pub is_f : c.f ≡ f
  pub is_v : c.v ≡ v
  pub lowest : Lowest (equals c.n c.f) rs c.v c.u
