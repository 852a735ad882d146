-- `sound::rows_sound` meets its contract. The invariant: every kind passed is sound.
-- Assumes nothing.
use Prim.Native.Nat.{ℕ, ◌+◌}
use mathlib.Core.Path.{◌≡◌, sym}
use mathlib.Core.Bool.{Bool}
use native.Mathlib.Omega.{arith}
use Rattle.record.specs.Slots.{kinds, slot_of}
use Rattle.record.specs.Layout.{decode_record}
use Rattle.sound.specs.inside.Sound.{kind_sound, rows_sound}
use Rattle.sound.proofs.Laws.{off, on, all_none, all_more, all_stop}
use Rattle.sound.proofs.rows_sound.Goals as goal

pub loop-k-init : goal.loop-k-init
loop-k-init c = all_none _

pub returns-then-not-kind_sound : goal.returns-then-not-kind_sound
unfolding rows_sound
returns-then-not-kind_sound c =
    let a = c.args in
    let test : ℕ → Bool = λ j. kind_sound (slot_of (decode_record a.rec.now)) a.set a.view (j + 1) in
    sym (all_stop test kinds c.loop-k.k (omega arith) (off c.kind_sound.ensures c.if-not-kind_sound.true))

pub loop-k-preserved : goal.loop-k-preserved
loop-k-preserved c =
    let a = c.args in
    let test : ℕ → Bool = λ j. kind_sound (slot_of (decode_record a.rec.now)) a.set a.view (j + 1) in
    let h = c.loop-k in
    all_more test h.k h.invariant (on c.kind_sound.ensures c.if-not-kind_sound.false)

pub returns : goal.returns
unfolding rows_sound
returns c =
    let h = c.loop-k in
    let e : h.k ≡ kinds = omega arith in
    rw (← e) (sym h.invariant)
