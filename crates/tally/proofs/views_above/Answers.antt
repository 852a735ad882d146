-- `tally::views_above` meets its contract. The invariant: the views gathered are those of the senders passed.
-- Assumes nothing.
use Prim.Native.Nat.{◌<◌, ◌≤◌}
use mathlib.Core.Path.{◌∙◌}
use lib.Dec.{ltb}
use lib.ListN.{length, length-set}
use Rattle.rules.proofs.Quorums.{share_most}
use Rattle.tally.specs.inside.Changes.{change_in}
use Rattle.tally.proofs.Changes.{pass_none, pass_more, gathered, gathered_few}
use native.Mathlib.Omega.{arith}
use Rattle.tally.proofs.views_above.Goals as goal

pub loop-j-init : goal.loop-j-init
loop-j-init c = (pass_none _ _ _, c.requires.2)

pub returns-then-count-n : goal.returns-then-count-n
returns-then-count-n c =
    let a = c.args in
    let few = gathered_few (change_in a.shared.now) a.low c.loop-j.views c.loop-j.count c.loop-j.j c.loop-j.invariant.0 in
    (few a.n a.need c.loop-j-test.true c.if-count-n.true, c.loop-j.invariant.1)

pub loop-j-preserved : goal.loop-j-preserved
loop-j-preserved c =
    let a = c.args in
    let s = c.loop-j in
    let m = c.share_above-count in
    let little : m.result ≤ 1 = share_most (ltb a.low c.change_above-w.result) 1 m.result m.ensures in
    let room : s.count < length s.views = omega (arith, s.invariant.0.most) in
    let more = pass_more (change_in a.shared.now) a.low s.views s.count s.j s.invariant.0 c.change_above-w.result m.result room in
    (more c.change_above-w.ensures m.ensures little, length-set s.views s.count c.change_above-w.result ∙ s.invariant.1)

pub returns : goal.returns
returns c =
    let a = c.args in
    let all = gathered (change_in a.shared.now) a.low c.loop-j.views c.loop-j.count c.loop-j.j c.loop-j.invariant.0 in
    (all a.n a.need (omega arith), c.loop-j.invariant.1)
