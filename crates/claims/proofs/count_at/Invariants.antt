-- `claims::count_at` meets its contract.
-- The count is that of the first r vaults that stand there.
-- Assumes nothing.
use Prim.Native.Nat.{◌≤◌}
use mathlib.Core.Path.{◌≡◌}
use Rattle.claims.specs.inside.Spans.{stands_at}
use Rattle.rules.specs.Sets.{weigh}
use Rattle.claims.proofs.count_at.Given as goal

abbrev pub invariant-loop-r : goal.invariant-loop-r
invariant-loop-r l = (l.count ≤ l.r) × (l.count ≡ weigh (λ i. 1) (stands_at l.standings l.k) l.r)
