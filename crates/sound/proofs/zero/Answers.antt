-- `sound::zero` meets its contract. The invariant: the largest byte so far is 0 just where every byte passed is.
-- Assumes nothing.
use mathlib.Core.Path.{ap, sym, ◌∙◌}
use mathlib.Core.Bool.{Bool, ◌&&◌}
use Prim.Native.Nat.{ℕ}
use lib.Dec.{eqb}
use lib.ListN.{get_or}
use Rattle.sound.specs.inside.Bulk.{zero_in}
use Rattle.sound.proofs.Laws.{all_none}
use Rattle.sound.proofs.All.{all_one, larger}
use Rattle.sound.proofs.zero.Goals as goal

pub loop-byte-init : goal.loop-byte-init
loop-byte-init c = sym (all_none _)

pub loop-byte-preserved : goal.loop-byte-preserved
loop-byte-preserved c =
    let l = c.loop-byte in
    let test = zero_in c.args.s.now in
    ap (λ (m : ℕ). eqb m 0) c.max-most.ensures ∙ larger l.most (get_or c.args.s.now l.byte-index 0)
    ∙ ap (λ (b : Bool). b && test l.byte-index) l.invariant ∙ sym (all_one test l.byte-index)
