-- `tally::votes_for` meets its contract. The invariant: the votes passed are counted.
-- Assumes nothing.
use Prim.Native.Nat.{◌≤◌}
use mathlib.Core.Path.{sym}
use lib.Dec.{eqb}
use Rattle.rules.proofs.Quorums.{weigh_none, weigh_step, share_most}
use Rattle.rules.specs.Options.{holds}
use Rattle.tally.specs.inside.Votes.{row_votes}
use native.Mathlib.Omega.{arith}
use Rattle.tally.proofs.votes_for.Goals as goal

pub loop-j-init : goal.loop-j-init
loop-j-init c = (omega arith, sym (weigh_none _ _))

pub loop-j-preserved : goal.loop-j-preserved
loop-j-preserved c =
    let a = c.args in
    let at = c.loop-j in
    let m = c.vote_share-count in
    let little : m.result ≤ 1 = share_most (holds (eqb a.p) (row_votes a.block.now a.v a.from at.j)) 1 m.result m.ensures in (
      omega arith,
      weigh_step (λ i. 1) (λ i. holds (eqb a.p) (row_votes a.block.now a.v a.from i)) at.j at.count m.result at.invariant.1 m.ensures,
    )
