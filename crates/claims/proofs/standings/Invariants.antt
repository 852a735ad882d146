-- `claims::standings` meets its contract.
-- The first r places tell where the first r vaults stand.
-- Assumes nothing.
use mathlib.Core.Path.{◌≡◌}
use lib.ListN.{length}
use Rattle.claims.specs.inside.Spans.{AreSpans}
use Rattle.claims.specs.inside.Walk.{standing}
use Rattle.claims.specs.Table.{column}
use Rattle.claims.proofs.standings.Given as goal

abbrev pub invariant-loop-r : goal.invariant-loop-r
invariant-loop-r l = (length l.found ≡ column) × AreSpans l.found l.r (standing l.table l.u l.end)
