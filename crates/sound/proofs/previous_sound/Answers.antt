-- `sound::previous_sound` meets its contract: the two slots stand where the definition has them.
-- Assumes nothing.
use mathlib.Core.Path.{ap, ◌∙◌}
use Rattle.record.specs.Slots.{slot_of}
use Rattle.record.specs.Layout.{decode_record}
use Rattle.sound.specs.inside.Sound.{stands, previous_sound}
use Rattle.sound.proofs.previous_sound.Goals as goal

pub returns : goal.returns
unfolding previous_sound
returns c =
    let a = c.args in
    let slots = slot_of (decode_record a.rec.now) in
    let highest = c.slot_of.ensures ∙ ap slots c.frame_slot-at.ensures.0 in
    let previous = c.slot_of-2.ensures ∙ ap slots c.previous_slot-before.ensures.0 in
    c.previous_stands.ensures ∙ (λ i. stands (highest i) (previous i))
