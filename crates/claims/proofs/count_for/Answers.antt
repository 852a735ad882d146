-- `claims::count_for` meets its contract.
-- The count is that of the first r of the row that are p, with those that are for every plan.
-- Assumes nothing.
use Prim.Native.Nat.{◌+◌}
use native.Mathlib.Omega.{arith}
use lib.Dec.{eqb}
use lib.ListN.{get_or}
use Rattle.claims.proofs.Rows.{count_none, count_step}
use Rattle.rules.proofs.Quorums.{share_most}
use Rattle.claims.proofs.count_for.Goals as goal

pub loop-r-init : goal.loop-r-init
loop-r-init c =
    let a = c.args in
    (omega arith, omega (arith, count_none a.plans.now a.at a.p))

pub loop-r-preserved : goal.loop-r-preserved
loop-r-preserved c =
    let a = c.args in
    let at = c.loop-r in
    let share = c.plan_share-count in
    let most = share_most (eqb (get_or a.plans.now (a.at + at.r) 0) a.p) 1 share.result share.ensures in (
      omega (arith, most),
      count_step a.plans.now a.at at.r a.p a.tally.every at.count share.result at.invariant.1 share.ensures,
    )
