-- Where every vault keeps the rules, a plan with a quorum of vote-4 is one that a vault was started with.
-- Before any vote of a view stands a vote-1, before that the leader's proposal; and that is the leader's starting plan, or is
-- safe by Rule 1 where the starting plan is not. Then a suggest names it (`safe_named`), so it was voted for in an earlier view.
-- Assumes nothing.
use Prim.Native.Nat.{ℕ, zero, suc, ◌<◌}
use mathlib.Core.Path.{◌≡◌}
use mathlib.Core.Logic.{◌⊎◌, ⊎_elim}
use mathlib.Core.Bool.{true}
use mathlib.Core.Option.{Option}
use native.Mathlib.Omega.{arith}
use lib.Dec.{eqb}
use borrow.Author.Tests.{eqb-true}
use Rattle.rules.specs.Sets.{Vaults, Set}
use Rattle.rules.specs.inside.Mostly.{Mostly}
use Rattle.rules.proofs.Bools.{either}
use Rattle.rules.proofs.Quorums.{blocking_keeper, quorum_blocks}
use Rattle.rules.specs.Options.{holds}
use Rattle.rules.specs.Rules.{Vote, Report, rule1}
use Rattle.rules.specs.inside.Counts.{names}
use Rattle.rules.proofs.Laws.{holds_where, safe_named}
use Rattle.rules.specs.inside.Law.{History, HighestVote, Exact, Reason, own, found, Lawful, Led, Locked}
use Rattle.rules.proofs.Agree.{rooted}

-- The report's lock or highest vote is for p.
named_by : (p : ℕ) (r : Report) → names p r ≡ true → (holds (λ x. eqb x.plan p) r.lock ≡ true) ⊎ (holds (λ x. eqb x.plan p) r.highest ≡ true)
unfolding names
named_by p r h = either (holds (λ x. eqb x.plan p) r.lock) (holds (λ x. eqb x.plan p) r.highest) h

module _ {vs : Vaults} {keeps : Set} (most : Mostly vs keeps) (all : (i : ℕ) → i < vs.n → keeps i ≡ true)
    {voted : History} (law : Lawful vs keeps voted) {Began : ℕ → Type 0} (led : Led vs keeps voted Began) where
  -- Every vote in views below v is for a plan that a vault began with.
  abbrev Earlier : ℕ → Type 0
  Earlier v = (u : ℕ) → u < v → (k i q : ℕ) → keeps i ≡ true → voted i (suc k) u q → Began q

  -- Then so is a plan that a leader has reason to propose in view v.
  reasoned_began : {v p : ℕ} → Earlier v → Reason vs keeps (λ j. Exact (voted j) rule1 v) Began v p → Began p
  reasoned_began earlier (own b) = b
  reasoned_began {v} {p} earlier (found s rs from unsafe safe) =
      let (i, low, m) = safe_named vs rs v s p unsafe safe in
      let (r, kept, named) = holds_where (rs i) (names p) m in
      let t = from i r (all i low) kept in
      ⊎_elim (vote_began i low 2 r.lock t.lock) (vote_began i low 1 r.highest t.highest) (named_by p r named)
    where
      vote_began : (i : ℕ) → i < vs.n → (k : ℕ) (o : Option Vote) → HighestVote (voted i (suc k)) v o → holds (λ x. eqb x.plan p) o ≡ true → Began p
      vote_began i low k o top h =
          let (x, e, same) = holds_where o (λ x. eqb x.plan p) h in
          rw (eqb-true x.plan p same) at (earlier x.view (top.low e) k i x.plan (all i low) (top.sent e))

  -- Before a vote of any number stands a vote-1.
  vote_one : {i v p : ℕ} (k : ℕ) → keeps i ≡ true → voted i (suc k) v p → (j : ℕ) × (keeps j ≡ true) × voted j 1 v p
  vote_one {i} zero h x = (i, h, x)
  vote_one (suc k) h x = let (j, low, hj, y) = blocking_keeper most (quorum_blocks most (rooted most law k (law.chain k h x))) in (j, hj, y)

  -- Every vote is for a plan that a vault began with, by induction on a bound of the view.
  earlier_began : (bound : ℕ) → Earlier bound
  earlier_began zero v low k i p h x = absurd (omega arith)
  earlier_began (suc bound) v low k i p h x =
      let (j, hj, y) = vote_one k h x in
      reasoned_began (λ u under. earlier_began bound u (omega arith)) (led.reason hj y (all (led.leader v) (led.number v)))

  -- Every plan with a quorum of vote-4 is one that a vault was started with.
  pub lock_began : {v p : ℕ} → Locked vs keeps voted v p → Began p
  lock_began {v} {p} locks =
      let (j, low, h, x) = blocking_keeper most (quorum_blocks most locks) in
      earlier_began (suc v) v (omega arith) 3 j p h x
