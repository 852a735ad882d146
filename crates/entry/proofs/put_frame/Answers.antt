-- `entry::put_frame` meets its contract. 'a recipient byte (ff all vaults, else a vault's number, ..), then the frame' (01, Refusals).
-- The recipient is stored; the rest of the output is lent to the writer, written at its start and given back.
-- Assumes nothing.
use Prim.Native.Nat.{◌+◌, ◌≤◌}
use mathlib.Core.Path.{◌∙◌}
use lib.ListN.{length, set, length-set, length-take, length-drop}
use native.Mathlib.Omega.{arith}
use Rattle.frame.specs.Format.{encode}
use Rattle.wire.proofs.Output.{placed_lent, placed_next}
use Rattle.entry.proofs.put_frame.Goals as goal

pub slice_bounds-write-count : goal.slice_bounds-write-count
slice_bounds-write-count c = simp length-set (omega arith)

pub slice_bounds-write-start : goal.slice_bounds-write-start
slice_bounds-write-start c = simp length-set (omega arith)

pub write-count-requires : goal.write-count-requires
write-count-requires c = simp (length-take, length-drop, length-set) (omega arith)

pub shape_of-out : goal.shape_of-out
shape_of-out c = c.out-1.given.1 ∙ simp length-set

pub returns : goal.returns
returns c =
    let a = c.args in
    let o = a.out.now in
    let frame = c.write-count.ensures in
    let room : a.at + 1 + length (encode a.f) ≤ length (set o a.at a.to) = simp length-set (omega arith) in (
      omega (arith, frame.0),
      rw frame.1 (placed_lent (set o a.at a.to) (a.at + 1) (encode a.f) room ∙ placed_next o a.at a.to (encode a.f) (omega arith)),
    )
