-- `tally::count_asking` meets its contract. The invariant: of the views passed as many ask for w as were counted.
-- Assumes nothing.
use Prim.Native.Nat.{◌≤◌}
use mathlib.Core.Path.{sym}
use lib.Dec.{leb}
use lib.ListN.{get_or}
use Rattle.rules.proofs.Quorums.{share_most, weigh_none}
use Rattle.tally.proofs.Changes.{asking_step}
use native.Mathlib.Omega.{arith}
use Rattle.tally.proofs.count_asking.Goals as goal

pub loop-x-init : goal.loop-x-init
loop-x-init c = (sym (weigh_none (λ i. 1) (λ j. leb c.args.w (get_or c.args.views.now j 0))), omega arith)

pub loop-x-preserved : goal.loop-x-preserved
loop-x-preserved c =
    let a = c.args in
    let at = c.loop-x in
    let m = c.share_asking-count in
    let little : m.result ≤ 1 = share_most (leb a.w (get_or a.views.now at.x-index 0)) 1 m.result m.ensures in
    (asking_step a.views.now at.x-index a.w at.count m.result at.invariant.0 m.ensures, omega arith)
