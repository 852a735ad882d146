-- `claims::count_for` meets its contract.
-- The count is that of the first r of the row that are p, with those that are for every plan.
-- Assumes nothing.
use Prim.Native.Nat.{◌+◌, ◌≤◌}
use mathlib.Core.Path.{◌≡◌}
use Rattle.claims.specs.inside.Rows.{count_of}
use Rattle.claims.proofs.count_for.Given as goal

abbrev pub invariant-loop-r : goal.invariant-loop-r
invariant-loop-r l = (l.count ≤ l.initial.count + l.r) × (l.count ≡ l.initial.count + count_of l.plans l.at l.r l.p)
