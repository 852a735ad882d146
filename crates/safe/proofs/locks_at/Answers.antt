-- `safe::locks_at` meets its contract.
-- The row tells of the first r reports, and what lies below it is as it was; `row_more` adds a report.
-- Assumes nothing.
use native.Mathlib.Omega.{arith}
use Rattle.claims.proofs.Rows.{row_none, row_more}
use Rattle.safe.proofs.locks_at.Goals as goal

pub loop-r-init : goal.loop-r-init
loop-r-init c = row_none _ _ _ _ _ _ (omega arith)

pub loop-r-preserved : goal.loop-r-preserved
loop-r-preserved c =
    let put = c.add_share-tally.ensures.added in
    let pre = c.requires in
    row_more c.loop-r.invariant _ _ c.allow_share-share.ensures c.loop-r-test.true pre (omega arith) _ _ put.0 put.1
