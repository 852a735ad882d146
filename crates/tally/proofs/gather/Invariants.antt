-- `tally::gather` meets its contract. The invariant: the table has the reports of the senders passed.
-- Assumes nothing.
use Prim.Native.Nat.{◌≤◌}
use Rattle.tally.specs.inside.Reports.{reports_by, Filled}
use Rattle.tally.proofs.gather.Given as goal

abbrev pub invariant-loop-i : goal.invariant-loop-i
invariant-loop-i l = Filled (reports_by l.block l.kind l.v) l.i l.table
