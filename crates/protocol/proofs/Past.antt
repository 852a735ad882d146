-- The past of a run, as the vaults' entries and current views, and how it grows: entries stay, views do not fall, and no vote is
-- added below a vault's view. So what a suggest or a proof reported exactly, it reports exactly for ever (`exact_on`), and so with
-- every reason that a vote had. Nothing else of the run's order is used.
-- Assumes nothing.
use Prim.Native.Nat.{ℕ, zero, suc, ◌≤◌, ◌<◌}
use mathlib.Core.Path.{◌≡◌}
use mathlib.Core.Bool.{true}
use mathlib.Core.List.{List}
use mathlib.Core.Option.{Option, some}
use native.Mathlib.Omega.{arith}
use Rattle.rules.specs.Quorums.{Quorum}
use Rattle.rules.proofs.Quorums.{group_map}
use Rattle.rules.specs.Rules.{Vote, Report, Rule, rule1, rule3, claim_vote, lock_vote}
use Rattle.rules.specs.inside.Law.{History, HighestVote, Exact, Vouched, Reason, own, found, Locked}
use Rattle.frame.specs.declared.Body.TheVariants.{Plan}
use Rattle.frame.specs.declared.Frame.{Frame}
use Rattle.frame.specs.Refusal.{leader_of}
use Rattle.entry.specs.declared.Entry.{Entry}
use Rattle.entry.specs.declared.Entry.TheVariants.{ForAll, ForOne, Timer, Decision}
use Rattle.protocol.specs.Record.{report_by, kind_of}
use Rattle.protocol.specs.Tables.{◌∈◌}
use Rattle.protocol.specs.inside.Runs.{ContentsSetting}

-- What each vault wrote so far, and the view in which it is.
pub record Past : Type 0 where
  pub wrote : ℕ → List Entry
  pub at : ℕ → ℕ

-- Vault j broadcast vote-k for p in view v.
abbrev pub Voted : Past → History
Voted h j k v p = ForAll (record { kind = suc k; sender = j; view = v; body = Plan p }) ∈ h.wrote j

-- Past g comes after h: entries stay, views do not fall, and no vote is added below a vault's view.
pub record Later (h g : Past) : Type 0 where
  pub more : (j : ℕ) (e : Entry) → e ∈ h.wrote j → e ∈ g.wrote j
  pub rises : (j : ℕ) → h.at j ≤ g.at j
  pub settled : (j k u p : ℕ) → u < h.at j → Voted g j k u p → Voted h j k u p

-- Later than later is later.
pub later_trans : {a b c : Past} → Later a b → Later b c → Later a c
later_trans x y = record {
  more = λ j e at. y.more j e (x.more j e at);
  rises = λ j. omega (arith, x.rises j, y.rises j);
  settled = λ j k u p low at. x.settled j k u p low (y.settled j k u p (omega (arith, x.rises j)) at);
}

-- ---- reports

-- The highest vote below v stays so, where no vote below v is added.
pub highest_on : {P Q : ℕ → ℕ → Type 0} {v : ℕ} {o : Option Vote} → ((u p : ℕ) → P u p → Q u p) → ((u p : ℕ) → u < v → Q u p → P u p) → HighestVote P v o
    → HighestVote Q v o
highest_on to back t = record {
  low = λ {x} e. t.low e;
  sent = λ {x} e. to x.view x.plan (t.sent e);
  top = λ u p under at. t.top u p under (back u p under at);
}

-- Vault j was in view v or later, and the report x of view v says what its votes come to.
abbrev pub ExactNow : Past → Rule → ℕ → ℕ → Report → Type 0
ExactNow h rule v j x = (v ≤ h.at j) × Exact (Voted h j) rule v x

-- A report that is exact stays exact: votes in views below its own are settled.
pub exact_on : {h g : Past} → Later h g → (rule : Rule) (v j : ℕ) (x : Report) → ExactNow h rule v j x → ExactNow g rule v j x
exact_on {h} {g} on rule v j x (under, t) = (
  omega (arith, on.rises j),
  record {
    highest = highest_on (to (claim_vote rule)) (back (claim_vote rule)) t.highest;
    previous = highest_on (λ u p (at, o). (to (claim_vote rule) u p at, o)) (λ u p low (at, o). (back (claim_vote rule) u p low at, o)) t.previous;
    lock = highest_on (to (lock_vote rule)) (back (lock_vote rule)) t.lock;
  },
)
  where
    to : (k u p : ℕ) → Voted h j k u p → Voted g j k u p
    to k u p at = on.more j _ at

    back : (k u p : ℕ) → u < v → Voted g j k u p → Voted h j k u p
    back k u p low at = on.settled j k u p (omega arith) at

-- ---- frames

-- Vault j rightly sent the frame: it has its number, a vote in it was broadcast, and a report in it is exact.
pub record Fine (h : Past) (j : ℕ) (x : Frame) : Type 0 where
  pub sender : x.sender ≡ j
  pub vote : (k p : ℕ) → x.kind ≡ suc k → x.body ≡ Plan p → Voted h j k x.view p
  pub told : (rule : Rule) (r : Report) → x.kind ≡ kind_of rule → report_by x.body ≡ some r → ExactNow h rule x.view j r

-- A frame that was rightly sent stays so.
pub fine_on : {h g : Past} → Later h g → {j : ℕ} {x : Frame} → Fine h j x → Fine g j x
fine_on on {j} {x} t = record {
  sender = t.sender;
  vote = λ k p kind body. on.more j _ (t.vote k p kind body);
  told = λ rule r kind body. exact_on on rule x.view j r (t.told rule r kind body);
}

-- ---- reasons

module _ (c : ContentsSetting) (Began : ℕ → Type 0) where
  -- What stood behind vote-k for p in view v. The proposal (k = 0): Rule 1; vote-1: Rule 3 and the leader's proposal; the others:
  -- a quorum of the vote before.
  abbrev pub Ground : Past → ℕ → ℕ → ℕ → Type 0
  Ground h zero v p = Reason c.vaults c.keeps (ExactNow h rule1 v) Began v p
  Ground h (suc zero) v p =
      Vouched c.vaults c.keeps (ExactNow h rule3 v) v p × (c.keeps (leader_of v c.vaults.n) ≡ true → Voted h (leader_of v c.vaults.n) 0 v p)
  Ground h (suc (suc k)) v p = Quorum c.vaults (λ j. c.keeps j ≡ true → Voted h j (suc k) v p)

  -- A leader's reason stays a reason.
  reason_on : {h g : Past} → Later h g → {v p : ℕ} → Reason c.vaults c.keeps (ExactNow h rule1 v) Began v p
      → Reason c.vaults c.keeps (ExactNow g rule1 v) Began v p
  reason_on on (own b) = own b
  reason_on on {v} (found s rs from unsafe safe) = found s rs (λ j x keeps e. exact_on on rule1 v j x (from j x keeps e)) unsafe safe

  -- What stood behind a vote stands behind it later.
  pub ground_on : {h g : Past} → Later h g → (k v p : ℕ) → Ground h k v p → Ground g k v p
  ground_on on zero v p t = reason_on on t
  ground_on on (suc zero) v p (t, proposal) = (
    record { proofs = t.proofs; from = λ j x keeps e. exact_on on rule3 v j x (t.from j x keeps e); safe = t.safe },
    λ keeps. on.more (leader_of v c.vaults.n) _ (proposal keeps),
  )
  ground_on on (suc (suc k)) v p t = group_map (λ j low at keeps. on.more j _ (at keeps)) t

  -- What an entry of vault j says is so, and what it votes has its ground.
  abbrev pub Told : Past → ℕ → Entry → Type 0
  Told h j (ForAll x) = Fine h j x × ((k p : ℕ) → x.kind ≡ suc k → x.body ≡ Plan p → Ground h k x.view p)
  Told h j (ForOne i x) = Fine h j x
  Told h j (Timer v ms) = Unit {0}
  Told h j (Decision v p) = Locked c.vaults c.keeps (Voted h) v p

  -- What an entry says stays so.
  pub told_on : {h g : Past} → Later h g → (j : ℕ) (e : Entry) → Told h j e → Told g j e
  told_on on j (ForAll x) (t, why) = (fine_on on t, λ k p kind body. ground_on on k x.view p (why k p kind body))
  told_on on j (ForOne i x) t = fine_on on t
  told_on on j (Timer v ms) t = tt
  told_on on j (Decision v p) t = group_map (λ i low at keeps. on.more i _ (at keeps)) t
