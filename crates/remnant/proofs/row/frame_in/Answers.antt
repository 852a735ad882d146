-- `row::frame_in` meets its contract: kind and sender are those of the place.
-- Assumes nothing.
use Rattle.record.specs.Kept.{frame_held}
use Rattle.remnant.proofs.row.frame_in.Goals as goal

pub returns : goal.returns
unfolding frame_held
returns c =
    let body = c.body_in-body.ensures in
    let sender = c.requires.0 in
    let head = c.requires.2.is in
    λ i. record { kind = c.args.kind; sender = sender i; view = (head i).view; body = body i }
