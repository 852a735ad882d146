-- `safe::free` meets its contract.
-- The count is that of the first r reporters without a lock; of all n, it is a quorum exactly if it is n - f or more (`quorum_count`).
-- Assumes nothing.
use Prim.Native.Nat.{◌≤◌}
use mathlib.Core.Path.{◌≡◌, sym, ◌∙◌, ap}
use native.Mathlib.Omega.{arith}
use Rattle.claims.specs.Table.{reports_in_table}
use Rattle.rules.proofs.Quorums.{weigh_none, weigh_step, share_most, quorum_count}
use Rattle.rules.specs.Sets.{weigh}
use Rattle.rules.specs.inside.Counts.{free}
use Rattle.rules.specs.Rules.{unlocked, reporting}
use Rattle.safe.proofs.free.Goals as goal

pub loop-r-init : goal.loop-r-init
loop-r-init c = (omega arith, sym (weigh_none _ _))

pub loop-r-preserved : goal.loop-r-preserved
loop-r-preserved c =
    let a = c.args in
    let at = c.loop-r in
    let add = c.unlocked_share-count in
    let s = reporting (reports_in_table a.table.now) unlocked in
    let most : add.result ≤ 1 = share_most (s at.r) 1 add.result add.ensures in
    (omega arith, weigh_step (λ i. 1) s at.r at.count add.result at.invariant.1 add.ensures)

pub returns : goal.returns
unfolding free
returns c =
    let a = c.args in
    let at = c.loop-r in
    let s = reporting (reports_in_table a.table.now) unlocked in
    let e : at.r ≡ a.n = omega arith in
    c.is_quorum.ensures ∙ quorum_count a.n a.f s at.count (at.invariant.1 ∙ ap (weigh (λ i. 1) s) e)
