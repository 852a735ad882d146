-- `tally::highest_of` meets its contract. The invariant: best is the highest of the views tried that enough ask for.
-- Assumes nothing.
use Prim.Native.Nat.{◌≤◌}
use lib.ListN.{length}
use Rattle.tally.proofs.Changes.{Searched}
use Rattle.tally.proofs.highest_of.Given as goal

abbrev pub invariant-loop-w : goal.invariant-loop-w
invariant-loop-w l = Searched l.views l.need l.low l.w-index l.best
