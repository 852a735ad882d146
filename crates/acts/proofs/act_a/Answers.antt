-- `acts::act_a` meets its contract: the highest view from where views are news is above that, or there is nothing to ask for.
-- Assumes nothing.
use mathlib.Core.Path.{◌∙◌, ap}
use Rattle.protocol.specs.Pass.{act_a}
use Rattle.acts.proofs.Asked.{asks_for, silent}
use Rattle.acts.proofs.act_a.Goals as goal

pub returns-then-low-w : goal.returns-then-low-w
returns-then-low-w c =
    let r = c.requires in
    asks_for _ _ r _ c.highest_change-w.result c.change_above-low.ensures c.highest_change-w.ensures c.if-low-w.true ∙ ap act_a r.spelt

pub returns : goal.returns
returns c =
    let r = c.requires in
    silent _ _ r _ c.highest_change-w.result c.change_above-low.ensures c.highest_change-w.ensures c.if-low-w.false ∙ ap act_a r.spelt
