-- `acts::act_d` meets its contract: vote-1 was not sent, the leader's proposal is kept, and the search says whether it is safe.
-- Assumes nothing.
use Prim.Native.Nat.{ℕ}
use mathlib.Core.Path.{◌≡◌, sym, ◌∙◌, ap}
use mathlib.Core.Option.{Option, none, some}
use Rattle.safe.specs.Choices.{chosen}
use Rattle.acts.specs.inside.Acts.{as_act}
use Rattle.protocol.specs.Record.{Record, each}
use Rattle.protocol.specs.Pass.{cast, act_d}
use Rattle.contents.specs.Contents.{contents_in}
use Rattle.acts.specs.inside.Proposals.{safe_plan}
use Rattle.acts.proofs.Proposals.{voted_once, unproposed, votes_one}
use Rattle.acts.proofs.act_d.Goals as goal
use Rattle.acts.proofs.act_d.Goals.{After-safe_plan}

pub returns-then-sent : goal.returns-then-sent
returns-then-sent c =
    let r = c.requires in
    voted_once _ _ r _ c.sent.ensures c.if-sent.true ∙ ap act_d r.spelt

-- The search has told whether the proposal is safe.
told : (c : After-safe_plan) (o : Option ℕ) → chosen c.safe_plan.result ≡ o
    → each o (λ p. some (cast 1 p)) ≡ act_d (contents_in c.args.rec.now)
told c o is =
    let r = c.requires in
    let safe = sym is ∙ c.safe_plan.ensures ∙ ap (λ (x : Record). safe_plan x 8 c.plan_at.result) (sym r.spelt) in
    votes_one _ _ r _ c.sent.ensures _ _ c.leader.ensures.0 c.leader.ensures.1 c.vote_place-at.ensures.0 _ c.is_of_view.ensures
    c.if-sent.false c.if-is_of_view.true _ o c.plan_at.ensures safe ∙ ap act_d r.spelt

pub returns-in_err-p : goal.returns-in_err-p
returns-in_err-p c =
    ap as_act c.from_residual.ensures ∙ told (goal.at.returns-in_err-p c).After-safe_plan none (ap chosen c.in_err-p.was)

pub returns-then-is_of_view : goal.returns-then-is_of_view
returns-then-is_of_view c = told (goal.at.returns-then-is_of_view c).After-safe_plan (some c.in_ok-p.p) (ap chosen c.in_ok-p.was)

pub returns : goal.returns
returns c =
    let r = c.requires in
    unproposed _ _ r _ c.sent.ensures _ _ c.leader.ensures.0 c.leader.ensures.1 c.vote_place-at.ensures.0 _ c.is_of_view.ensures
    c.if-is_of_view.false ∙ ap act_d r.spelt
