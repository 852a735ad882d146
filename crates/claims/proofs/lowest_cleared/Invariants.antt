-- `claims::lowest_cleared` meets its contract.
-- The search over locks carries its count from candidate to candidate. Outer invariant: `LocksCarried`. Inner invariant: among the first r
-- vaults those whose span ends at the candidate have come in. A candidate that f + 1 cover is the highest view with enough (`locks_found`);
-- else the count goes on with the search (`locks_next`), and without a candidate left no view has enough (`locks_none`).
-- Assumes nothing.
use Prim.Native.Nat.{◌+◌, ◌≤◌}
use mathlib.Core.Path.{◌≡◌}
use Rattle.claims.specs.inside.Spans.{stands_at, LocksCarried}
use Rattle.claims.specs.Table.{column}
use Rattle.rules.specs.Sets.{weigh}
use Rattle.claims.proofs.lowest_cleared.Given as goal

abbrev pub invariant-reporters : goal.invariant-reporters
invariant-reporters l =
    (l.locks ≤ l.initial.locks + l.r) × (l.locks ≡ l.initial.locks + weigh (λ i. 1) (stands_at l.spans l.t) l.r)
    × (l.initial.locks ≤ column)

abbrev pub invariant-views : goal.invariant-views
invariant-views l = LocksCarried l.spans l.n l.f l.v l.t l.locks

abbrev pub decreases-views : goal.decreases-views
decreases-views l = l.t
