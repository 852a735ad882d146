-- `wire::put` meets its contract. 'Numbers are big-endian' (01, Frames).
-- The invariant: what is left to store, stored on what is there, gives what is to come out; at the end nothing is left.
-- Assumes nothing.
use Prim.Native.Nat.{◌≤◌, ◌+◌}
use mathlib.Core.Path.{◌≡◌, ◌∙◌}
use native.Mathlib.Omega.{arith}
use lib.ListN.{length}
use Rattle.wire.specs.Digits.{digits}
use Rattle.wire.proofs.Laws.{length_digits}
use Rattle.wire.proofs.Output.{put_step, placed_sets}
use Rattle.wire.proofs.put.Goals as goal

pub loop-i-preserved : goal.loop-i-preserved
loop-i-preserved c =
    let l = c.loop-i in
    put_step l.i l.n c.args.at l.out (omega arith) ∙ l.invariant

pub returns : goal.returns
unfolding digits
returns c =
    let l = c.loop-i in
    let a = c.args in
    let e : l.i ≡ 0 = omega arith in
    let room : a.at + length (digits a.width a.value) ≤ length a.out.now = rw length_digits c.requires in
    rw e at l.invariant ∙ placed_sets a.out.now a.at (digits a.width a.value) room
