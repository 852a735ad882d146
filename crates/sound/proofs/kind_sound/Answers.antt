-- `sound::kind_sound` meets its contract: without a frame the reports in bulk, else rows one by one and a rest in bulk.
-- Assumes nothing.
use mathlib.Core.Path.{◌≡◌, ap, sym, ◌∙◌}
use mathlib.Core.Bool.{Bool}
use native.Mathlib.Omega.{arith}
use Prim.Native.Nat.{ℕ, ◌<◌}
use Rattle.record.specs.Slots.{rows, slot_of}
use Rattle.record.specs.Layout.{decode_record}
use Rattle.frame.proofs.Laws.{told}
use Rattle.sound.specs.inside.Sound.{all}
use Rattle.sound.specs.inside.Bulk.{absent_from}
use Rattle.sound.proofs.Laws.{off, on}
use Rattle.sound.proofs.Rows.{kind_absent, kind_rest, kind_places}
use Rattle.sound.proofs.kind_sound.Goals as goal

pub slots_absent-requires : goal.slots_absent-requires
slots_absent-requires c =
    let from = c.frame_slot-from.ensures in (
      record {
        below = omega (arith, from.1);
        whole = omega (arith, from.1);
        part = λ (g : c.frame_slot-from.result < rows). omega (arith, from.0, g);
      },
      c.requires.3,
    )

pub returns-then-slots_absent : goal.returns-then-slots_absent
returns-then-slots_absent c =
    let a = c.args in
    let at = c.frame_slot-from in
    let absent : ℕ → Bool = λ x. all (absent_from (slot_of (decode_record a.rec.now)) x) rows in
    let here : c.slots_absent.result ≡ absent at.result = c.slots_absent.ensures in
    let none = here ∙ ap absent at.ensures.0 in
    c.no_reports.ensures ∙ sym (kind_absent (slot_of (decode_record a.rec.now)) a.kind a.set a.view (told none c.if-slots_absent.true))

pub returns-then-not-rest_empty : goal.returns-then-not-rest_empty
returns-then-not-rest_empty c =
    let a = c.args in
    sym (kind_rest (slot_of (decode_record a.rec.now)) a.set a.view a.kind c.requires.0 (off c.rest_empty.ensures c.if-not-rest_empty.true))

pub returns : goal.returns
returns c =
    let a = c.args in
    c.places_sound.ensures
    ∙ sym (kind_places (slot_of (decode_record a.rec.now)) a.set a.view a.kind c.requires.0
    (on c.rest_empty.ensures c.if-not-rest_empty.false))
