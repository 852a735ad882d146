-- `sound::places_sound` meets its contract. The invariant: every sender passed is sound.
-- Assumes nothing.
use mathlib.Core.Path.{◌≡◌}
use mathlib.Core.Bool.{true}
use Rattle.record.specs.Slots.{slot_of}
use Rattle.record.specs.Layout.{decode_record}
use Rattle.sound.specs.inside.Sound.{all, place_sound}
use Rattle.sound.proofs.places_sound.Given as goal

abbrev pub invariant-loop-sender : goal.invariant-loop-sender
invariant-loop-sender l = all (place_sound (slot_of (decode_record l.rec)) l.set l.view l.kind) l.sender ≡ true
