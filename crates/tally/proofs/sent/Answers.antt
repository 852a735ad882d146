-- `tally::sent` meets its contract: the place is that of the sender's vote.
-- Assumes nothing.
use Prim.Native.Nat.{ℕ}
use mathlib.Core.Path.{◌≡◌, ◌∙◌, ap}
use mathlib.Core.Bool.{not}
use Rattle.rules.specs.Options.{is_none}
use Rattle.record.specs.Layout.{slot_in}
use Rattle.tally.specs.inside.Votes.{voted}
use Rattle.tally.proofs.sent.Goals as goal

pub returns : goal.returns
returns c =
    let a = c.args in
    let at = c.vote_place in
    let told : c.is_of_view.result ≡ not (is_none (voted a.v (slot_in a.block.now at.result))) = c.is_of_view.ensures in
    told ∙ ap (λ (q : ℕ). not (is_none (voted a.v (slot_in a.block.now q)))) at.ensures.0
