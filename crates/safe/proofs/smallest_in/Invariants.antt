-- `safe::smallest_in` meets its contract.
-- The smallest of the first r plans that pass, which trying the last plan again does not change; `smallest_step` tries one more.
-- Assumes nothing.
use Prim.Native.Nat.{◌+◌, ◌≤◌}
use mathlib.Core.Path.{◌≡◌}
use lib.ListN.{get_or}
use Rattle.claims.specs.Table.{column}
use Rattle.rules.specs.inside.Counts.{smaller}
use Rattle.safe.specs.Choices.{chosen}
use Rattle.safe.specs.inside.Searches.{lock_row, passes_in, tried_at, smallest_from}
use Rattle.safe.proofs.smallest_in.Given as goal

abbrev pub invariant-loop-r : goal.invariant-loop-r
invariant-loop-r l =
    (chosen l.found ≡ smallest_from (chosen l.initial.found) (passes_in l.plans l.c l.locked) (λ i. get_or l.plans (tried_at l.locked + i) 0) l.r)
    × (smaller (passes_in l.plans l.c l.locked l.last) l.last (chosen l.found) ≡ chosen l.found) × (l.at ≤ lock_row) × (l.count ≤ column)
