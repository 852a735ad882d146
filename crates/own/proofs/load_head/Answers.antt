-- `own::load_head` meets its contract: eight bytes of each of the record's two heads.
-- Assumes nothing.
use mathlib.Core.Path.{ap, ◌∙◌}
use mathlib.Core.List.{List}
use Prim.Native.Nat.{ℕ}
use lib.ListN.{take, drop}
use Rattle.wire.specs.Placed.{placed}
use Rattle.record.specs.Layout.{head_size, shared_size}
use Rattle.own.proofs.Stored.{head_loaded}
use Rattle.own.proofs.load_head.Goals as goal

pub returns : goal.returns
returns c =
    let rec = c.args.rec.now in
    c.copy-2.ensures ∙ ap (λ (l : List ℕ). placed l head_size (take head_size (drop shared_size rec)))
    c.copy.ensures
    ∙ head_loaded rec (λ i. (c.type_inv.rec i).fits) c.requires.0
    c.args.own.now c.requires.1
