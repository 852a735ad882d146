-- `safe::lock_spans` meets its contract.
-- The first r places hold the spans of the first r reports.
-- Assumes nothing.
use mathlib.Core.Path.{◌≡◌}
use lib.ListN.{length}
use Rattle.claims.specs.inside.Spans.{AreSpans}
use Rattle.claims.specs.Table.{column, reports_in_table}
use Rattle.rules.specs.inside.Views.{lock_span}
use Rattle.safe.proofs.lock_spans.Given as goal

abbrev pub invariant-loop-r : goal.invariant-loop-r
invariant-loop-r l = (length l.spans ≡ column) × AreSpans l.spans l.r (λ i. lock_span l.v (reports_in_table l.table i))
