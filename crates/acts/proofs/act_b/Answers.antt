-- `acts::act_b` meets its contract: the highest view from the current one on is above it, or the view stays.
-- Assumes nothing.
use mathlib.Core.Path.{◌∙◌, ap}
use Rattle.protocol.specs.Pass.{act_b}
use Rattle.acts.proofs.Asked.{enters, stays}
use Rattle.acts.proofs.act_b.Goals as goal

pub returns-then-view-w : goal.returns-then-view-w
returns-then-view-w c =
    let r = c.requires in
    let top = c.highest_change-w in
    enters _ _ r top.result top.ensures c.if-view-w.true ∙ ap act_b r.spelt

pub returns : goal.returns
returns c =
    let r = c.requires in
    let top = c.highest_change-w in
    stays _ _ r top.result top.ensures c.if-view-w.false ∙ ap act_b r.spelt
