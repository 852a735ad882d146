-- `tally::is_of_view` meets its contract: each branch decides one part of the test.
-- Assumes nothing.
use Prim.Native.Nat.{ℕ}
use mathlib.Core.Path.{sym, ◌∙◌, ap}
use mathlib.Core.Bool.{not}
use mathlib.Core.Option.{Option}
use lib.Dec.{eqb}
use Rattle.rules.specs.Options.{is_none}
use Rattle.record.specs.Layout.{slot_in}
use Rattle.tally.proofs.Votes.{voted_none, voted_there}
use Rattle.tally.proofs.is_of_view.Goals as goal

pub returns-then-block-at-ne-PRESENT : goal.returns-then-block-at-ne-PRESENT
returns-then-block-at-ne-PRESENT c =
    let a = c.args in
    sym (ap (λ (o : Option ℕ). not (is_none o)) (voted_none a.v (slot_in a.block.now a.at) c.if-block-at-ne-PRESENT.true))

pub returns : goal.returns
returns c =
    let a = c.args in
    ap (λ (w : ℕ). eqb w a.v) c.view_at.ensures ∙ voted_there a.v (slot_in a.block.now a.at) c.if-block-at-ne-PRESENT.false
