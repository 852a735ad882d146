-- `wire::number` meets its contract. 'Numbers are big-endian' (01, Frames).
-- The invariant: n is the number that the first i bytes spell, and it has at most i digits, so one more byte fits in 64 bits.
-- Assumes nothing.
use mathlib.Core.Path.{refl}
use native.Mathlib.Omega.{arith}
use native.Mathlib.Numerals.{add-one}
use Rattle.wire.specs.Digits.{number_at}
use Rattle.wire.proofs.Laws.{room, more}
use Rattle.wire.proofs.number.Goals as goal

pub loop-i-init : goal.loop-i-init
unfolding number_at
loop-i-init c = (refl, omega arith)

pub overflow_mul-n : goal.overflow_mul-n
overflow_mul-n c =
    let l = c.loop-i in
    omega (arith, room l.i l.n (omega arith) (omega arith))

pub overflow_add-n : goal.overflow_add-n
overflow_add-n c =
    let l = c.loop-i in
    omega (arith, room l.i l.n (omega arith) (omega arith))

pub loop-i-preserved : goal.loop-i-preserved
unfolding number_at
loop-i-preserved c =
    let l = c.loop-i in
    (rw add-one (cc), more l.i l.n c.wide.result l.invariant.1 (omega arith))
