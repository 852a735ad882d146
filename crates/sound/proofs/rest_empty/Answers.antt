-- `sound::rest_empty` meets its contract: the frames, and the reports where the kind has them.
-- Assumes nothing.
use Prim.Native.Nat.{◌+◌, ◌-◌, ◌<◌}
use mathlib.Core.Path.{sym, ◌∙◌}
use native.Mathlib.Omega.{arith}
use Rattle.record.specs.Slots.{rows, slot_of}
use Rattle.record.specs.Layout.{decode_record}
use Rattle.sound.specs.inside.Sound.{all}
use Rattle.sound.specs.inside.Bulk.{absent_from, told_absent}
use Rattle.sound.proofs.Laws.{off, on}
use Rattle.sound.proofs.Rows.{rest_frames, rest_short, rest_told}
use Rattle.sound.proofs.rest_empty.Goals as goal

pub slots_absent-requires : goal.slots_absent-requires
slots_absent-requires c =
    let n = c.requires.0 in
    let from = c.frame_slot.ensures in (
      record {
        below = omega (arith, n, from.1);
        whole = omega (arith, n, from.1);
        part = λ (g : c.frame_slot.result + c.args.n < rows). omega (arith, n, from.0, g);
      },
      c.requires.3,
    )

pub returns-then-not-slots_absent : goal.returns-then-not-slots_absent
returns-then-not-slots_absent c =
    let a = c.args in
    let from = c.frame_slot.ensures.0 in
    let e = c.slots_absent.ensures ∙ (λ i. all (absent_from (slot_of (decode_record a.rec.now)) (from i + a.n)) (rows - a.n)) in
    sym (rest_frames (slot_of (decode_record a.rec.now)) a.kind a.n (rows - a.n) (off e c.if-not-slots_absent.true))

pub returns-then-kind-lt-SUGGEST : goal.returns-then-kind-lt-SUGGEST
returns-then-kind-lt-SUGGEST c =
    let a = c.args in
    let from = c.frame_slot.ensures.0 in
    let e = c.slots_absent.ensures ∙ (λ i. all (absent_from (slot_of (decode_record a.rec.now)) (from i + a.n)) (rows - a.n)) in
    sym (rest_short (slot_of (decode_record a.rec.now)) a.kind a.n (rows - a.n) (on e c.if-not-slots_absent.false) c.if-kind-lt-SUGGEST.true)

pub told_absent-requires : goal.told_absent-requires
told_absent-requires c =
    let n = c.requires.0 in
    let high = c.requires.2 in
    let from = c.report_slot.ensures in
    (omega (arith, from.1), omega (arith, n, high, from.0, c.if-kind-lt-SUGGEST.false), c.requires.3)

pub returns : goal.returns
returns c =
    let a = c.args in
    let from = c.frame_slot.ensures.0 in
    let e = c.slots_absent.ensures
    ∙ (λ i. all (absent_from (slot_of (decode_record a.rec.now)) (from i + a.n)) (rows - a.n)) in
    let told = c.report_slot.ensures.0 in
    c.told_absent.ensures
    ∙ (λ i. told_absent (slot_of (decode_record a.rec.now)) (told i + a.n) (rows - a.n))
    ∙ sym (rest_told (slot_of (decode_record a.rec.now)) a.kind a.n (rows - a.n)
    (on e c.if-not-slots_absent.false) c.if-kind-lt-SUGGEST.false)
