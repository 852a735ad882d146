-- `tally::change_above` meets its contract: the mark tells whether a view-change is kept.
-- Assumes nothing.
use Prim.Native.Nat.{ℕ, max}
use mathlib.Core.Path.{◌∙◌, ap}
use Rattle.record.specs.Layout.{slot_in}
use Rattle.tally.proofs.Changes.{news_none, news_some}
use Rattle.tally.proofs.change_above.Goals as goal

pub returns-then-shared-at-ne-PRESENT : goal.returns-then-shared-at-ne-PRESENT
returns-then-shared-at-ne-PRESENT c =
    let a = c.args in
    news_none a.low (slot_in a.shared.now a.at) c.if-shared-at-ne-PRESENT.true

pub returns : goal.returns
returns c =
    let a = c.args in
    c.max.ensures ∙ ap (λ (w : ℕ). max a.low w) c.view_at.ensures
    ∙ news_some a.low (slot_in a.shared.now a.at) c.if-shared-at-ne-PRESENT.false
