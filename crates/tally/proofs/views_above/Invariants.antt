-- `tally::views_above` meets its contract. The invariant: the views gathered are those of the senders passed.
-- Assumes nothing.
use Prim.Native.Nat.{◌≤◌}
use mathlib.Core.Path.{◌≡◌}
use lib.ListN.{length}
use Rattle.tally.specs.inside.Changes.{change_in}
use Rattle.tally.proofs.Changes.{Passed}
use Rattle.tally.proofs.views_above.Given as goal

abbrev pub invariant-loop-j : goal.invariant-loop-j
invariant-loop-j l = Passed (change_in l.shared) l.j l.low l.views l.count × (length l.views ≡ 64)
