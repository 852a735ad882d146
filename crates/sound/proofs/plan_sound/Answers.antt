-- `sound::plan_sound` meets its contract: the own row, a vote, a proposal.
-- Assumes nothing.
use mathlib.Core.Path.{sym}
use Rattle.frame.proofs.Laws.{told}
use Rattle.sound.proofs.Forms.{plan_above, plan_vote, plan_proposal}
use Rattle.sound.proofs.plan_sound.Goals as goal

pub returns-then-above : goal.returns-then-above
returns-then-above c =
    let a = c.args in
    λ plan. sym (plan_above a.set a.view a.head c.requires.0 c.requires.1 c.requires.2 plan (told c.above.ensures c.if-above.true))

pub returns-then-head-ne-PROPOSAL : goal.returns-then-head-ne-PROPOSAL
returns-then-head-ne-PROPOSAL c =
    let a = c.args in
    λ plan. sym (plan_vote a.set a.view a.head c.requires.0 c.requires.1 c.requires.2 plan (told c.above.ensures c.if-above.false)
    c.if-head-ne-PROPOSAL.true)

pub returns : goal.returns
returns c =
    let a = c.args in
    λ plan. sym (plan_proposal a.set a.view a.head c.requires.0 c.requires.1 c.requires.2 plan (told c.above.ensures c.if-above.false)
    c.if-head-ne-PROPOSAL.false)
