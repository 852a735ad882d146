-- `acts::act_c` meets its contract: it is the leader's turn, it has not proposed, and the plan to propose is the search's.
-- Assumes nothing.
use Prim.Native.Nat.{ℕ}
use mathlib.Core.Path.{◌≡◌, sym, ◌∙◌, ap}
use mathlib.Core.Option.{Option, none, some}
use Rattle.safe.specs.Choices.{chosen}
use Rattle.acts.specs.inside.Acts.{as_act}
use Rattle.protocol.specs.Record.{each}
use Rattle.protocol.specs.Pass.{cast, act_c}
use Rattle.contents.specs.Contents.{contents_in}
use Rattle.acts.proofs.Proposals.{proposes}
use Rattle.acts.proofs.Searched.{plan_one}
use Rattle.acts.proofs.act_c.Goals as goal
use Rattle.acts.proofs.act_c.Goals.{After-safe_plan}

-- The search has told which plan is to be proposed.
told : (c : After-safe_plan) (o : Option ℕ) → chosen c.safe_plan.result ≡ o
    → each o (λ p. some (cast 0 p)) ≡ act_c (contents_in c.args.rec.now)
told c o is =
    let s = c.args.rec.now in
    let plan = sym is ∙ c.safe_plan.ensures ∙ plan_one s c.plan_of.result c.plan_of.ensures in
    proposes (contents_in s) c.may_propose.result c.may_propose.ensures c.if-may_propose.true o plan

pub returns-in_err-p : goal.returns-in_err-p
returns-in_err-p c =
    ap as_act c.from_residual.ensures ∙ told (goal.at.returns-in_err-p c).After-safe_plan none (ap chosen c.in_err-p.was)

pub returns-then-may_propose : goal.returns-then-may_propose
returns-then-may_propose c = told (goal.at.returns-then-may_propose c).After-safe_plan (some c.in_ok-p.p) (ap chosen c.in_ok-p.was)
