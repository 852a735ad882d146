-- `tally::agreed_plan` meets its contract: the plan that leads, where a quorum is for it.
-- Assumes nothing.
use Prim.Native.Nat.{◌-◌, ◌<◌}
use mathlib.Core.Path.{◌≡◌, sym, ◌∙◌, ap}
use mathlib.Core.Bool.{Bool, true, false, cond}
use mathlib.Core.Option.{none, some}
use lib.Dec.{leb}
use borrow.Author.Tests.{lt-leb, le-leb}
use Rattle.tally.specs.inside.Votes.{row_votes, agreed_in}
use Rattle.tally.proofs.Votes.{agreed_few, agreed_count}
use native.Mathlib.Omega.{arith}
use Rattle.tally.proofs.agreed_plan.Goals as goal
use Rattle.tally.proofs.agreed_plan.Goals.{After-votes_for-count}

pub returns-then-b-quorum : goal.returns-then-b-quorum
returns-then-b-quorum c =
    let a = c.args in
    let less : a.set.f < a.set.n = omega arith in
    agreed_few (row_votes a.block.now a.v a.from) a.set.n a.set.f c.lead_of-b.result c.lead_of-b.ensures less c.if-b-quorum.true

-- The votes for the plan that leads were counted.
counted : (c : After-votes_for-count) (enough : Bool)
    → leb (c.args.set.n - c.args.set.f) c.votes_for-count.result ≡ enough
    → cond enough (some c.lead_of-b.result.plan) none
    ≡ agreed_in (row_votes c.args.block.now c.args.v c.args.from) c.args.set.n c.args.set.f
counted c enough is =
    let lead = c.lead_of-b in
    let a = c.args in
    let less : a.set.f < a.set.n = omega arith in
    ap (λ (x : Bool). cond x (some lead.result.plan) none) (sym is)
    ∙ agreed_count (row_votes a.block.now a.v a.from) a.set.n a.set.f lead.result lead.ensures less c.if-b-quorum.false
    c.votes_for-count.result c.votes_for-count.ensures

pub returns-then-count-quorum : goal.returns-then-count-quorum
returns-then-count-quorum c = counted (goal.at.returns-then-count-quorum c).After-votes_for-count false (lt-leb _ _ c.if-count-quorum.true)

pub returns : goal.returns
returns c = counted (goal.at.returns c).After-votes_for-count true (le-leb _ _ c.if-count-quorum.false)
