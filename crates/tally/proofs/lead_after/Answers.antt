-- `tally::lead_after` meets its contract: a slot that has no vote of the view leaves the lead, and otherwise its vote is counted.
-- Assumes nothing.
use Prim.Native.Nat.{ℕ}
use mathlib.Core.Path.{sym, ◌∙◌, ap}
use mathlib.Core.Logic.{◌≢◌}
use mathlib.Core.Option.{Option}
use Rattle.record.specs.Layout.{slot_in}
use Rattle.tally.specs.inside.Votes.{lead_with, lead_after}
use Rattle.tally.proofs.Votes.{voted_none, voted_other, voted_some}
use Rattle.tally.proofs.lead_after.Goals as goal

pub returns-then-block-at-ne-PRESENT : goal.returns-then-block-at-ne-PRESENT
returns-then-block-at-ne-PRESENT c =
    let a = c.args in
    sym (ap (λ (o : Option ℕ). lead_after a.b o) (voted_none a.v (slot_in a.block.now a.at) c.if-block-at-ne-PRESENT.true))

pub returns-then-view_at-v : goal.returns-then-view_at-v
returns-then-view_at-v c =
    let a = c.args in
    let off : (slot_in a.block.now a.at).view ≢ a.v = λ e. c.if-view_at-v.true (c.view_at.ensures ∙ e) in
    sym (ap (λ (o : Option ℕ). lead_after a.b o) (voted_other a.v (slot_in a.block.now a.at) c.if-block-at-ne-PRESENT.false off))

pub returns : goal.returns
returns c =
    let a = c.args in
    let same = sym c.view_at.ensures ∙ c.if-view_at-v.false in
    let is = voted_some a.v (slot_in a.block.now a.at) c.if-block-at-ne-PRESENT.false same in
    c.lead_with.ensures ∙ ap (lead_with a.b) c.plan_at.ensures ∙ sym (ap (λ (o : Option ℕ). lead_after a.b o) is)
