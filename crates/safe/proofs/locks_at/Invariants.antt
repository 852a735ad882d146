-- `safe::locks_at` meets its contract.
-- The row tells of the first r reports, and what lies below it is as it was; `row_more` adds a report.
-- Assumes nothing.
use Rattle.claims.proofs.Rows.{RowCounted}
use Rattle.claims.specs.Table.{reports_in_table}
use Rattle.rules.specs.Rules.{allows}
use Rattle.safe.specs.inside.Searches.{lock_row}
use Rattle.safe.proofs.locks_at.Given as goal

abbrev pub invariant-loop-r : goal.invariant-loop-r
invariant-loop-r l = RowCounted (reports_in_table l.table) allows l.view l.n lock_row l.initial.plans l.plans l.tally l.r
