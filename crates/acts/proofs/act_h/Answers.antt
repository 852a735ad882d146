-- `acts::act_h` meets its contract: something was decided, or the plan that a quorum is for is decided.
-- Assumes nothing.
use Prim.Native.Nat.{ℕ}
use mathlib.Core.Path.{◌≡◌, sym, ◌∙◌, ap}
use mathlib.Core.Option.{Option, none, some}
use Rattle.safe.specs.Choices.{chosen}
use Rattle.acts.specs.inside.Acts.{as_act}
use Rattle.protocol.specs.Record.{each}
use Rattle.protocol.specs.Pass.{decide, act_h}
use Rattle.contents.specs.Contents.{contents_in}
use Rattle.acts.proofs.Agreed.{decided_already, decides}
use Rattle.acts.proofs.act_h.Goals as goal
use Rattle.acts.proofs.act_h.Goals.{After-agreed_plan}

pub returns-then-block-eq-PRESENT : goal.returns-then-block-eq-PRESENT
returns-then-block-eq-PRESENT c =
    let r = c.requires in
    decided_already _ _ r c.if-block-eq-PRESENT.true ∙ ap act_h r.spelt

-- The count has told which plan a quorum is for.
told : (c : After-agreed_plan) (o : Option ℕ) → chosen c.agreed_plan.result ≡ o
    → each o (λ p. some (decide p)) ≡ act_h (contents_in c.args.rec.now)
told c o is =
    let r = c.requires in
    decides _ _ r c.if-block-eq-PRESENT.false _ c.vote_place.ensures.0 o (sym is ∙ c.agreed_plan.ensures) ∙ ap act_h r.spelt

pub returns-in_err-p : goal.returns-in_err-p
returns-in_err-p c =
    ap as_act c.from_residual.ensures ∙ told (goal.at.returns-in_err-p c).After-agreed_plan none (ap chosen c.in_err-p.was)

pub returns : goal.returns
returns c = told (goal.at.returns c).After-agreed_plan (some c.in_ok-p.p) (ap chosen c.in_ok-p.was)
