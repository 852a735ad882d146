-- `tally::lead_of` meets its contract. The invariant: b leads among the votes passed.
-- Assumes nothing.
use Rattle.tally.specs.inside.Votes.{row_votes}
use Rattle.tally.proofs.Votes.{lead_none, lead_more, lead_low, lead_few}
use native.Mathlib.Omega.{arith}
use Rattle.tally.proofs.lead_of.Goals as goal

pub loop-j-init : goal.loop-j-init
loop-j-init c = lead_none _

pub overflow_add-b : goal.overflow_add-b
overflow_add-b c =
    let a = c.args in
    omega (arith, (lead_low (row_votes a.block.now a.v a.from) c.loop-j.j c.loop-j.b c.loop-j.invariant).1)

pub returns-then-b-f : goal.returns-then-b-f
returns-then-b-f c =
    let a = c.args in
    lead_few (row_votes a.block.now a.v a.from) c.loop-j.j a.n a.f c.loop-j.b c.loop-j.invariant
    c.loop-j-test.true c.if-b-f.true

pub lead_after-b-requires : goal.lead_after-b-requires
lead_after-b-requires c =
    let a = c.args in
    let low = lead_low (row_votes a.block.now a.v a.from) c.loop-j.j c.loop-j.b c.loop-j.invariant in
    (omega (arith, low.0, low.1), omega (arith, low.1), omega arith)

pub loop-j-preserved : goal.loop-j-preserved
loop-j-preserved c =
    let a = c.args in
    let next = c.lead_after-b in
    lead_more (row_votes a.block.now a.v a.from) c.loop-j.j c.loop-j.b next.result c.loop-j.invariant next.ensures
