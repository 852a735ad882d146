-- `keeping::keep_told` meets its contract: the head, then the three reports.
-- Assumes nothing.
use mathlib.Core.Path.{refl}
use Rattle.record.specs.inside.Kept.{told}
use Rattle.record.proofs.Put.{held_told}
use Rattle.record.proofs.keeping.keep_told.Goals as goal

pub returns : goal.returns
returns c =
    let f = told c.args.kind c.args.sender c.args.view c.args.t in
    held_told _ _ c.args.sender f c.frame_slot-at.ensures.0 c.present-head.ensures c.put_slot.ensures refl
    c.put_reports.ensures
