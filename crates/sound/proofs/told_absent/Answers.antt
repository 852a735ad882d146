-- `sound::told_absent` meets its contract: the three groups.
-- Assumes nothing.
use mathlib.Core.Path.{sym, ◌∙◌}
use native.Mathlib.Omega.{arith}
use Prim.Native.Nat.{◌+◌, ◌*◌, ◌<◌}
use Rattle.record.specs.Slots.{rows, slot_of}
use Rattle.record.specs.Layout.{decode_record}
use Rattle.sound.proofs.Laws.{off, on}
use Rattle.sound.proofs.Rows.{told_first, told_second, told_third}
use Rattle.sound.proofs.told_absent.Goals as goal

pub slots_absent-requires : goal.slots_absent-requires
slots_absent-requires c =
    let low = c.requires.0 in
    let high = c.requires.1 in
    (record { below = omega arith; whole = omega arith; part = λ (g : c.args.from < rows). omega arith }, c.requires.2)

pub returns-then-not-slots_absent : goal.returns-then-not-slots_absent
returns-then-not-slots_absent c =
    let a = c.args in
    sym (told_first (slot_of (decode_record a.rec.now)) a.from a.count (off c.slots_absent.ensures c.if-not-slots_absent.true))

pub slots_absent-requires-2 : goal.slots_absent-requires-2
slots_absent-requires-2 c =
    let low = c.requires.0 in
    let high = c.requires.1 in
    (record { below = omega arith; whole = omega arith; part = λ (g : c.args.from + rows < rows). omega arith }, c.requires.2)

pub returns-then-not-slots_absent-2 : goal.returns-then-not-slots_absent-2
returns-then-not-slots_absent-2 c =
    let a = c.args in
    sym (told_second (slot_of (decode_record a.rec.now)) a.from a.count (on c.slots_absent.ensures c.if-not-slots_absent.false)
    (off c.slots_absent-2.ensures c.if-not-slots_absent-2.true))

pub slots_absent-requires-3 : goal.slots_absent-requires-3
slots_absent-requires-3 c =
    let low = c.requires.0 in
    let high = c.requires.1 in
    (record { below = omega arith; whole = omega arith; part = λ (g : c.args.from + 2 * rows < rows). omega arith }, c.requires.2)

pub returns : goal.returns
returns c =
    let a = c.args in
    c.slots_absent-3.ensures
    ∙ sym (told_third (slot_of (decode_record a.rec.now)) a.from a.count (on c.slots_absent.ensures c.if-not-slots_absent.false)
    (on c.slots_absent-2.ensures c.if-not-slots_absent-2.false))
