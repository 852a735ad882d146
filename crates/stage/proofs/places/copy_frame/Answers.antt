-- `stage::places::copy_frame` meets its contract: '01 deliver (frame number, vault)'. What the place holds of a frame is copied, and no more than it
-- has room for.
-- Assumes nothing.
use Prim.Native.Nat.{ℕ, ◌+◌}
use mathlib.Core.Path.{ap, ◌∙◌}
use native.Mathlib.Omega.{arith}
use Rattle.stage.specs.Stage.{part}
use Rattle.stage.proofs.Part.{part_lent}
use Rattle.stage.proofs.Waiting.{frame_copied}
use Rattle.stage.proofs.places.copy_frame.Goals as goal

pub returns : goal.returns
returns c =
    let a = c.args in
    let s = a.stage.now in
    let n = c.held_length-len.result in
    let at = c.place_of-at.ensures.0 in
    let len = c.held_length-len.ensures in
    let held = rw at at len.0 in
    frame_copied s _ _ a.k n (omega arith) (held, len.1) (c.copy_from_slice.ensures.after ∙ part_lent (c.place_of-at.result + 3) n s ∙ ap (λ (p : ℕ). part (p + 3) n s) at)
