-- What the rules bind a vault to, in terms of the votes that are ever sent (002, sections 3.1 and 3.2).
-- Nothing here says what a record is, how a frame came, or how a view was entered.
-- Assumes nothing.
use Rattle.std.specs.Prelude.{ℕ, suc, ◌≤◌, ◌<◌, ◌≡◌, ◌≢◌, true}
use Rattle.std.proofs.Math.Option.{Option, some}
use Rattle.rules.specs.Sets.{Vaults, Set}
use Rattle.rules.specs.Quorums.{Quorum}
use Rattle.rules.specs.Rules.{Vote, Report, Reports, Rule, rule1, rule3, claim_vote, lock_vote, Safe}

-- A history: voted i k v p says that vault i sent vote-k for plan p in view v. Vote-0 is a leader's proposal.
abbrev pub History : Type 1
History = ℕ → ℕ → ℕ → ℕ → Type 0

-- Of the votes that are P, o is the highest in views below v, if there is any.
pub record HighestVote (P : ℕ → ℕ → Type 0) (v : ℕ) (o : Option Vote) : Type 0 where
  pub low : {x : Vote} → o ≡ some x → x.view < v
  pub sent : {x : Vote} → o ≡ some x → P x.view x.plan
  pub top : (u p : ℕ) → u < v → P u p → (x : Vote) × (o ≡ some x) × (u ≤ x.view)

-- Those of the votes that are for another plan than the vote o.
abbrev pub Other : (ℕ → ℕ → Type 0) → Option Vote → ℕ → ℕ → Type 0
Other P o u p = P u p × ((x : Vote) × (o ≡ some x) × (p ≢ x.plan))

-- 'highest', ''Previous' is the sender's highest vote for a plan other than the highest vote's plan', and the lock: the report
-- is what its sender's votes in views below v come to.
pub record Exact (voted : ℕ → ℕ → ℕ → Type 0) (rule : Rule) (v : ℕ) (r : Report) : Type 0 where
  pub highest : HighestVote (voted (claim_vote rule)) v r.highest
  pub previous : HighestVote (Other (voted (claim_vote rule)) r.highest) v r.previous
  pub lock : HighestVote (voted (lock_vote rule)) v r.lock

-- Reports of which those that come from rule-keepers are T. Of the others it says nothing.
abbrev pub From : Set → (ℕ → Report → Type 0) → Reports → Type 0
From keeps T rs = (j : ℕ) (r : Report) → keeps j ≡ true → rs j ≡ some r → T j r

-- Why a vault sends vote-1 for p in view v: p is safe by Rule 3.
pub record Vouched (vs : Vaults) (keeps : Set) (T : ℕ → Report → Type 0) (v p : ℕ) : Type 0 where
  pub proofs : Reports
  pub from : From keeps T proofs
  pub safe : Safe rule3 vs proofs v p

-- Why a leader proposes p in view v: it began with p; or it began with a plan that is not safe by Rule 1, and p is.
pub data Reason (vs : Vaults) (keeps : Set) (T : ℕ → Report → Type 0) (Began : ℕ → Type 0) (v p : ℕ) : Type 0 where
  own : Began p → Reason vs keeps T Began v p
  found : (s : ℕ) (suggests : Reports) → From keeps T suggests → ¬ Safe rule1 vs suggests v s → Safe rule1 vs suggests v p
      → Reason vs keeps T Began v p

-- What the rules bind a vault to: one vote-1 a view; Rule 3 behind it; a quorum of the vote before behind any other.
pub record Lawful (vs : Vaults) (keeps : Set) (voted : History) : Type 0 where
  pub once : {i v p q : ℕ} → keeps i ≡ true → voted i 1 v p → voted i 1 v q → p ≡ q
  pub vouched : {i v p : ℕ} → keeps i ≡ true → voted i 1 v p → Vouched vs keeps (λ j. Exact (voted j) rule3 v) v p
  pub chain : {i v p : ℕ} (k : ℕ) → keeps i ≡ true → voted i (suc (suc k)) v p → Quorum vs (λ j. keeps j ≡ true → voted j (suc k) v p)

-- What the rules bind a leader to. Began p: a vault was started with plan p.
pub record Led (vs : Vaults) (keeps : Set) (voted : History) (Began : ℕ → Type 0) : Type 0 where
  pub leader : ℕ → ℕ
  pub number : (v : ℕ) → leader v < vs.n
  pub reason : {i v p : ℕ} → keeps i ≡ true → voted i 1 v p → keeps (leader v) ≡ true → Reason vs keeps (λ j. Exact (voted j) rule1 v) Began v p

-- Plan p has a quorum of vote-4 in view v, as far as rule-keepers go: what stands behind a decision.
abbrev pub Locked : Vaults → Set → History → ℕ → ℕ → Type 0
Locked vs keeps voted v p = Quorum vs (λ j. keeps j ≡ true → voted j 4 v p)
