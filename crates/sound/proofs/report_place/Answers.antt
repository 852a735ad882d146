-- `sound::report_place` meets its contract: a kind's reports lie end to end.
-- Assumes nothing.
use Prim.Native.Nat.{ℕ, ◌+◌, ◌*◌, ◌<◌}
use mathlib.Core.Path.{◌≡◌, ap, ◌∙◌}
use native.Mathlib.Omega.{arith}
use Rattle.record.specs.Slots.{slot_count, report_slot}
use Rattle.record.specs.Layout.{slot_size, place}
use Rattle.record.proofs.Laws.{place_fits}
use Rattle.sound.proofs.Places.{place_report}
use Rattle.sound.proofs.report_place.Goals as goal

pub returns : goal.returns
returns c =
    let a = c.args in
    let first = c.place_behind.ensures ∙ ap (λ (i : ℕ). place i + slot_size * a.sender) c.report_slot.ensures.0 in
    let from = place_report a.kind 0 a.sender in
    let e : c.place_behind.result ≡ place (report_slot a.kind 0 a.sender) = omega (arith, first, from) in
    let last = place_report a.kind 2 a.sender in
    let below : report_slot a.kind 2 a.sender < slot_count = let h = c.requires.1.high in let k = c.requires.1.row in omega arith in
    let fits = place_fits (report_slot a.kind 2 a.sender) below in
    (e, omega (arith, first, last, fits))
