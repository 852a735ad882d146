-- `sound::places_sound` meets its contract. The invariant: every sender passed is sound.
-- Assumes nothing.
use Prim.Native.Nat.{ℕ}
use mathlib.Core.Path.{◌≡◌, ap, sym, ◌∙◌}
use mathlib.Core.Bool.{Bool}
use native.Mathlib.Omega.{arith}
use Rattle.record.specs.Slots.{slot_of}
use Rattle.record.specs.Layout.{decode_record}
use Rattle.sound.specs.inside.Sound.{all, place_sound}
use Rattle.sound.proofs.Laws.{off, on, all_none, all_more, all_stop}
use Rattle.sound.proofs.places_sound.Goals as goal

pub loop-sender-init : goal.loop-sender-init
loop-sender-init c = all_none _

pub returns-then-not-place_sound : goal.returns-then-not-place_sound
returns-then-not-place_sound c =
    let a = c.args in
    let test : ℕ → Bool = place_sound (slot_of (decode_record a.rec.now)) a.set a.view a.kind in
    sym (all_stop test a.set.n c.loop-sender.sender (omega arith) (off c.place_sound.ensures c.if-not-place_sound.true))

pub loop-sender-preserved : goal.loop-sender-preserved
loop-sender-preserved c =
    let a = c.args in
    let test : ℕ → Bool = place_sound (slot_of (decode_record a.rec.now)) a.set a.view a.kind in
    let h = c.loop-sender in
    all_more test h.sender h.invariant (on c.place_sound.ensures c.if-not-place_sound.false)

pub returns : goal.returns
returns c =
    let h = c.loop-sender in
    let a = c.args in
    let e : h.sender ≡ a.set.n = omega arith in
    sym h.invariant ∙ ap (all (place_sound (slot_of (decode_record a.rec.now)) a.set a.view a.kind)) e
