-- `explain::text::copy` meets its contract: the place that is written stays within what is lent.
-- Assumes nothing.
use Prim.Native.Nat.{◌≤◌}
use mathlib.Core.Path.{◌≡◌}
use lib.ListN.{length}
use Rattle.explain.proofs.text.copy.Given as goal

abbrev pub invariant-loop-b : goal.invariant-loop-b
invariant-loop-b g l = (l.to ≤ length l.initial.out) × (length l.out ≡ length l.initial.out)
