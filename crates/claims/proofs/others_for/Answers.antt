-- `claims::others_for` meets its contract.
-- The count is that of the first r plans that are not p.
-- Assumes nothing.
use Prim.Native.Nat.{◌≤◌}
use native.Mathlib.Omega.{arith}
use Rattle.claims.proofs.Walk.{others_none, others_more, others_share}
use Rattle.claims.proofs.others_for.Goals as goal

pub loop-r-init : goal.loop-r-init
loop-r-init c =
    let a = c.args in
    (omega arith, others_none a.plans.now a.p)

pub loop-r-preserved : goal.loop-r-preserved
loop-r-preserved c =
    let a = c.args in
    let at = c.loop-r in
    let share = c.other_share-count in
    let most : share.result ≤ 1 = others_share a.plans.now at.r a.p share.result share.ensures in
    (omega arith, others_more a.plans.now at.r a.p at.count share.result at.invariant.1 share.ensures)
