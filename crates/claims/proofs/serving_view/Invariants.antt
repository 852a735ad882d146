-- `claims::serving_view` meets its contract.
-- The walk down the candidate views. Outer invariant: no view finished so far serves, and the count is that of the claimers at the last of them
-- (`Walked`). Inner invariant: the first r of those that come in for one plan are counted too. A view that f + 1 claim serves; else the next is tried.
-- Assumes nothing.
use Prim.Native.Nat.{◌+◌, ◌-◌, ◌*◌, ◌≤◌}
use mathlib.Core.Path.{◌≡◌}
use Rattle.claims.specs.inside.Rows.{count_of}
use Rattle.claims.specs.inside.Walk.{Walked}
use Rattle.claims.specs.Table.{column}
use Rattle.claims.proofs.serving_view.Given as goal

abbrev pub invariant-reporters : goal.invariant-reporters
invariant-reporters l =
    (l.claimers ≤ l.initial.claimers + l.r) × (l.claimers ≡ l.initial.claimers + count_of l.plans l.from l.r l.p)
    × (l.from ≤ column) × (l.some ≤ column) × (l.initial.claimers ≤ 900000000000)

abbrev pub invariant-views : goal.invariant-views
invariant-views l =
    (l.initial.claimers ≡ 0) × (l.end ≤ l.initial.end) × (l.claimers ≤ 3 * column * (l.initial.end - l.end)) × Walked l.plans l.c l.low l.p l.end l.claimers

abbrev pub decreases-views : goal.decreases-views
decreases-views l = l.end
