-- `acts::may_propose` meets its contract: who leads is known by number, and what was sent by its slot.
-- Assumes nothing.
use mathlib.Core.Path.{◌∙◌, ap}
use Rattle.protocol.specs.Pass.{may_propose}
use Rattle.acts.proofs.Proposals.{leads_not, leads_own}
use Rattle.acts.proofs.may_propose.Goals as goal

pub returns-then-leader-set : goal.returns-then-leader-set
returns-then-leader-set c =
    let r = c.requires in
    leads_not _ _ r c.leader.result c.leader.ensures.0 c.if-leader-set.true ∙ ap may_propose r.spelt

pub returns : goal.returns
returns c =
    let r = c.requires in
    leads_own _ _ r c.leader.result c.leader.ensures.0 c.if-leader-set.false c.sent.result c.sent.ensures ∙ ap may_propose r.spelt
