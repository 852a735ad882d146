-- When a plan is safe (document 01, 'When a plan is safe in view v above 0'; Rules 1 to 4 of 002, section 3.2).
-- Assumes nothing.
use Rattle.std.specs.Prelude.{ℕ, ◌≤◌, ◌<◌, max, ◌≡◌, ◌≢◌, ◌⊎◌, Bool, true, cond, not, ◌&&◌, ◌||◌, leb, eqb}
use Rattle.std.proofs.Math.Option.{Option, none, some}
use Rattle.rules.specs.Sets.{Vaults, Set}
use Rattle.rules.specs.Quorums.{Quorum, Blocking}
use Rattle.rules.specs.Options.{is_none, holds}

-- A vote for a plan in a view.
pub record Vote : Type 0 where
  pub view : ℕ
  pub plan : ℕ

-- What a suggest or a proof reports: the highest vote, the previous vote, and the lock.
pub record Report : Type 0 where
  pub highest : Option Vote
  pub previous : Option Vote
  pub lock : Option Vote

-- The reports kept of one view, by sender: 'Reports are those in kept suggests (Rule 1) or proofs (Rule 3) of view v'.
abbrev pub Reports : Type 0
Reports = ℕ → Option Report

-- The two rules by which a plan is safe.
pub data Rule : Type 0 where
  rule1 : Rule
  rule3 : Rule

-- The votes that a suggest and a proof report as highest and previous: vote-2 and vote-1.
abbrev pub claim_vote : Rule → ℕ
claim_vote rule1 = 2
claim_vote rule3 = 1

-- 'The lock is vote-3 in a suggest, vote-4 in a proof'.
abbrev pub lock_vote : Rule → ℕ
lock_vote rule1 = 3
lock_vote rule3 = 4

-- A vote's view, 0 where there is none.
abbrev pub view_of : Option Vote → ℕ
view_of none = 0
view_of (some x) = x.view

-- The same for a vote that is for plan p.
abbrev pub view_for : ℕ → Option Vote → ℕ
view_for p none = 0
view_for p (some x) = cond (eqb x.plan p) x.view 0

-- The highest view at which the report claims p: of the highest vote, if that is for p, and of the previous vote.
unfoldable pub reach : Report → ℕ → ℕ
reach r p = max (view_for p r.highest) (view_of r.previous)

-- Rules 2 and 4: the report claims p at view u (`ClaimIsSaid`, in Sentences, has document 01's three cases).
unfoldable pub claims : ℕ → ℕ → Report → Bool
claims p u r = leb u (reach r p)

-- 'no lock at all'.
unfoldable pub unlocked : Report → Bool
unlocked r = is_none r.lock

-- 'no lock above v'' and 'every lock at v' is for p': what both ask of one lock.
abbrev pub lock_allows : ℕ → ℕ → Vote → Bool
lock_allows p u x = leb x.view u && (not (eqb x.view u) || eqb x.plan p)

-- The report has no lock that stands against p at view u.
unfoldable pub allows : ℕ → ℕ → Report → Bool
allows p u r = is_none r.lock || holds (lock_allows p u) r.lock

-- The vaults that reported, and whose report passes the test.
abbrev pub reporting : Reports → (Report → Bool) → Set
reporting rs test i = holds test (rs i)

-- 'a blocking set claiming p at v''.
abbrev pub Claimed : Vaults → Reports → ℕ → ℕ → Type 0
Claimed vs rs p u = Blocking vs (λ i. reporting rs (claims p u) i ≡ true)

-- 'blocking sets claiming p1 at view a and another plan p2 at view b, with v' ≤ a < b < v'.
pub record TwoSets (vs : Vaults) (rs : Reports) (v u : ℕ) : Type 0 where
  pub p₁ : ℕ
  pub p₂ : ℕ
  pub a : ℕ
  pub b : ℕ
  pub another : p₂ ≢ p₁
  pub from : u ≤ a
  pub later : a < b
  pub before : b < v
  pub first : Claimed vs rs p₁ a
  pub second : Claimed vs rs p₂ b

-- What a rule asks of the claims at view u: 'Rule 3 also accepts, instead of the last, ..'.
abbrev pub Backed : Rule → Vaults → Reports → ℕ → ℕ → ℕ → Type 0
Backed rule1 vs rs v p u = Claimed vs rs p u
Backed rule3 vs rs v p u = Claimed vs rs p u ⊎ TwoSets vs rs v u

-- 'in view 0 every plan is safe'; 'Plan p is safe if some quorum q of reporters has no lock at all, or some v' below v has ..'.
pub data Safe (rule : Rule) (vs : Vaults) (rs : Reports) (v p : ℕ) : Type 0 where
  at_start : v ≡ 0 → Safe rule vs rs v p
  no_lock : Quorum vs (λ i. reporting rs unlocked i ≡ true) → Safe rule vs rs v p
  since : (u : ℕ) → u < v → Quorum vs (λ i. reporting rs (allows p u) i ≡ true) → Backed rule vs rs v p u → Safe rule vs rs v p

-- 'the smallest safe plan': none where no plan is safe.
abbrev pub IsSmallest : Vaults → Reports → ℕ → Option ℕ → Type 0
IsSmallest vs rs v none = (x : ℕ) → ¬ Safe rule1 vs rs v x
IsSmallest vs rs v (some p) = Safe rule1 vs rs v p × ((x : ℕ) → Safe rule1 vs rs v x → p ≤ x)

-- Step C: 'proposes its starting plan if that is safe by Rule 1, else the smallest safe plan, else waits'.
pub data Chosen (vs : Vaults) (rs : Reports) (v start : ℕ) : Option ℕ → Type 0 where
  own : Safe rule1 vs rs v start → Chosen vs rs v start (some start)
  other : {o : Option ℕ} → ¬ Safe rule1 vs rs v start → IsSmallest vs rs v o → Chosen vs rs v start o
