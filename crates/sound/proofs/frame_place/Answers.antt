-- `sound::frame_place` meets its contract: a kind's slots lie end to end.
-- Assumes nothing.
use Prim.Native.Nat.{◌+◌, ◌*◌}
use mathlib.Core.Path.{◌∙◌}
use native.Mathlib.Omega.{arith}
use Rattle.record.specs.Slots.{frame_slot}
use Rattle.record.specs.Layout.{slot_size, place}
use Rattle.record.proofs.Laws.{place_fits}
use Rattle.sound.proofs.Places.{place_frame}
use Rattle.sound.proofs.frame_place.Goals as goal

pub returns : goal.returns
returns c =
    let a = c.args in
    let first = c.place_behind.ensures ∙ (λ i. place (c.frame_slot.ensures.0 i) + slot_size * a.sender) in
    let e = first ∙ place_frame a.kind a.sender c.requires.row in
    let fits = place_fits (frame_slot a.kind a.sender) (let h = c.requires.row in omega arith) in
    (e, omega (arith, e, fits))
