-- `acts::act_vote` meets its contract: the vote was sent, or the plan that a quorum is for is voted for.
-- Assumes nothing.
use Prim.Native.Nat.{ℕ, ◌+◌}
use mathlib.Core.Path.{◌≡◌, sym, ◌∙◌, ap}
use mathlib.Core.Option.{Option, none, some}
use Rattle.safe.specs.Choices.{chosen}
use Rattle.acts.specs.inside.Acts.{as_act}
use Rattle.protocol.specs.Record.{Record, each}
use Rattle.protocol.specs.Pass.{cast, act_vote}
use Rattle.contents.specs.Contents.{contents_in}
use Rattle.acts.proofs.Agreed.{vote_sent, vote_acts}
use Rattle.acts.proofs.act_vote.Goals as goal
use Rattle.acts.proofs.act_vote.Goals.{After-agreed_plan}

pub returns-then-sent : goal.returns-then-sent
returns-then-sent c =
    let r = c.requires.0 in
    vote_sent _ _ r c.args.k c.requires.2 _ c.sent.ensures c.if-sent.true ∙ ap (λ (x : Record). act_vote x c.args.k) r.spelt

-- The count has told which plan a quorum is for.
told : (c : After-agreed_plan) (o : Option ℕ) → chosen c.agreed_plan.result ≡ o
    → each o (λ p. some (cast (c.args.k + 1) p)) ≡ act_vote (contents_in c.args.rec.now) c.args.k
told c o is =
    let r = c.requires.0 in
    vote_acts _ _ r c.args.k c.requires.2 _ c.sent.ensures c.if-sent.false _ c.vote_place.ensures.0 o (sym is ∙ c.agreed_plan.ensures)
    ∙ ap (λ (x : Record). act_vote x c.args.k) r.spelt

pub returns-in_err-p : goal.returns-in_err-p
returns-in_err-p c =
    ap as_act c.from_residual.ensures ∙ told (goal.at.returns-in_err-p c).After-agreed_plan none (ap chosen c.in_err-p.was)

pub returns : goal.returns
returns c = told (goal.at.returns c).After-agreed_plan (some c.in_ok-p.p) (ap chosen c.in_ok-p.was)
