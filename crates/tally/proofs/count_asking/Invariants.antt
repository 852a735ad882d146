-- `tally::count_asking` meets its contract. The invariant: of the views passed as many ask for w as were counted.
-- Assumes nothing.
use Prim.Native.Nat.{◌≤◌}
use mathlib.Core.Path.{◌≡◌}
use lib.ListN.{length}
use Rattle.tally.specs.inside.Changes.{asking}
use Rattle.tally.proofs.count_asking.Given as goal

abbrev pub invariant-loop-x : goal.invariant-loop-x
invariant-loop-x l = (l.count ≡ asking l.views l.x-index l.w) × (l.count ≤ l.x-index)
