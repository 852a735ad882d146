-- `claims::others_for` meets its contract.
-- The count is that of the first r plans that are not p.
-- Assumes nothing.
use Prim.Native.Nat.{◌≤◌}
use mathlib.Core.Path.{◌≡◌}
use Rattle.claims.specs.inside.Walk.{others_of}
use Rattle.claims.proofs.others_for.Given as goal

abbrev pub invariant-loop-r : goal.invariant-loop-r
invariant-loop-r l = (l.count ≤ l.r) × (l.count ≡ others_of l.plans l.r l.p)
