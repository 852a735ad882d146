-- `tally::gather` meets its contract. The invariant: the table has the reports of the senders passed.
-- Assumes nothing.
use Rattle.tally.proofs.Reports.{filled_none}
use native.Mathlib.Omega.{arith}
use Rattle.tally.proofs.gather.Goals as goal

pub loop-i-init : goal.loop-i-init
loop-i-init c = filled_none _
