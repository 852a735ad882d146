-- `safe::free` meets its contract.
-- The count is that of the first r reporters without a lock; of all n, it is a quorum exactly if it is n - f or more (`quorum_count`).
-- Assumes nothing.
use Prim.Native.Nat.{◌≤◌}
use mathlib.Core.Path.{◌≡◌}
use Rattle.claims.specs.Table.{reports_in_table}
use Rattle.rules.specs.Sets.{weigh}
use Rattle.rules.specs.Rules.{unlocked, reporting}
use Rattle.safe.proofs.free.Given as goal

abbrev pub invariant-loop-r : goal.invariant-loop-r
invariant-loop-r l = (l.count ≤ l.r) × (l.count ≡ weigh (λ i. 1) (reporting (reports_in_table l.table) unlocked) l.r)
