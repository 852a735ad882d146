-- `tally::raised` meets its contract: each branch decides one part of the test.
-- Assumes nothing.
use Rattle.tally.proofs.Changes.{raised_low, raised_few, raised_many}
use Rattle.tally.proofs.raised.Goals as goal

pub returns-then-w-best : goal.returns-then-w-best
returns-then-w-best c = let a = c.args in raised_low a.views.now a.need a.best a.w c.if-w-best.true

pub returns-then-count_asking-need : goal.returns-then-count_asking-need
returns-then-count_asking-need c =
    let a = c.args in
    let m = c.count_asking in
    raised_few a.views.now a.need a.best a.w m.result m.ensures c.if-w-best.false c.if-count_asking-need.true

pub returns : goal.returns
returns c =
    let a = c.args in
    let m = c.count_asking in
    raised_many a.views.now a.need a.best a.w m.result m.ensures c.if-w-best.false c.if-count_asking-need.false
