-- `equivocation::differs` meets its contract. The invariant: no record passed differs from an earlier one.
-- Assumes nothing.
use Prim.Native.Nat.{◌-◌, ◌≤◌}
use mathlib.Core.Path.{◌≡◌}
use mathlib.Core.Bool.{false}
use Rattle.rules.specs.inside.Bools.{any_below}
use Rattle.equivocation.specs.inside.Records.{clashes_before}
use Rattle.equivocation.proofs.differs.Given as goal

abbrev pub invariant-loop-i : goal.invariant-loop-i
invariant-loop-i l = (1 ≤ l.i) × (any_below (clashes_before l.records l.slot) l.i ≡ false)

abbrev pub decreases-loop-i : goal.decreases-loop-i
decreases-loop-i l = l.count - l.i
