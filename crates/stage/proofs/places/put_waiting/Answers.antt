-- `stage::places::put_waiting` meets its contract: 'up to 256 frames on their way'. Three bytes are stored and the frame is copied behind them.
-- Assumes nothing.
use Prim.Native.Nat.{ℕ, ◌+◌}
use mathlib.Core.Path.{sym, ap, subst, ◌∙◌}
use native.Mathlib.Omega.{arith}
use borrow.Author.Rules.{rules}
use lib.ListN.{length, set}
use Rattle.wire.specs.Fields.{Bytes}
use Rattle.wire.specs.Placed.{placed}
use Rattle.wire.proofs.Output.{bytes_placed}
use Rattle.stage.specs.Stage.{place_of, waiting_bytes}
use Rattle.stage.specs.inside.Parts.{on_way}
use Rattle.stage.proofs.Waiting.{copied_at, waiting_stored, bytes_stored}
use Rattle.stage.proofs.places.put_waiting.Goals as goal

pub returns : goal.returns
unfolding waiting_bytes
returns c =
    let a = c.args in
    let s = a.stage.now in
    let f = a.frame.now in
    let at = c.place_of-at.result in
    let stored = set (set (set s at (length f + 1)) (at + 1) a.way.writer) (at + 2) a.way.to in
    let put = copied_at stored f _ (at + 3) c.copy_from_slice.ensures.after
    ∙ waiting_stored s at a.way.writer a.way.to f (omega arith)
    ∙ ap (λ (n : ℕ). placed s n (waiting_bytes (on_way a.way f))) c.place_of-at.ensures.0 in
    let waits = bytes_stored a.way.writer a.way.to f c.requires (search rules) (search rules) (λ i. (c.type_inv.frame i).fits) in
    record { with_waiting = put; bytes = subst Bytes (sym put) (bytes_placed s (place_of a.k) (waiting_bytes (on_way a.way f)) c.fits-stage waits) }
