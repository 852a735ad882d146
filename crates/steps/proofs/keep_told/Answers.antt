-- `steps::keep_told` meets its contract: the frame and its three reports, slot by slot.
-- Assumes nothing.
use mathlib.Core.Path.{refl}
use Rattle.steps.proofs.Steps.{put_as, keeps_told}
use Rattle.steps.proofs.keep_told.Goals as goal

pub returns : goal.returns
returns c =
    keeps_told c.args.t c.requires.0 c.requires.1 refl c.present.ensures
    (put_as _ c.slot_of_kind.ensures c.put_in.ensures.changes)
    c.put_in-2.ensures.changes c.put_in-3.ensures.changes c.put_in-4.ensures.changes
