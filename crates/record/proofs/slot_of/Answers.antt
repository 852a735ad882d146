-- `layout::slot_of` meets its contract: what stands at the slot's place.
-- Assumes nothing.
use mathlib.Core.Path.{ap, sym, ◌∙◌}
use Rattle.record.specs.Layout.{slot_in}
use Rattle.record.proofs.Laws.{slot_there}
use Rattle.record.proofs.slot_of.Goals as goal

pub returns : goal.returns
returns c =
    c.slot_at.ensures ∙ ap (slot_in c.args.rec.now) c.place_of-at.ensures.0
    ∙ sym (slot_there c.args.rec.now c.args.i c.requires.1)
