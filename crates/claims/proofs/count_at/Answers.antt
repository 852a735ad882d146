-- `claims::count_at` meets its contract.
-- The count is that of the first r vaults that stand there.
-- Assumes nothing.
use Prim.Native.Nat.{◌≤◌}
use mathlib.Core.Path.{sym}
use native.Mathlib.Omega.{arith}
use Rattle.claims.specs.inside.Spans.{stands_at}
use Rattle.rules.proofs.Quorums.{weigh_none, weigh_step, share_most}
use Rattle.claims.proofs.count_at.Goals as goal

pub loop-r-init : goal.loop-r-init
loop-r-init c = (omega arith, sym (weigh_none _ _))

pub loop-r-preserved : goal.loop-r-preserved
loop-r-preserved c =
    let a = c.args in
    let at = c.loop-r in
    let share = c.share_at-count in
    let most : share.result ≤ 1 = share_most (stands_at a.standings.now a.k at.r) 1 share.result share.ensures in
    (omega arith, weigh_step (λ i. 1) (stands_at a.standings.now a.k) at.r at.count share.result at.invariant.1 share.ensures)
