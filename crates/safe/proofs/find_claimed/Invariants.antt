-- `safe::find_claimed` meets its contract.
-- Neither the plan tried last nor the first r of the row pass; where none of those does that come in up to the view, none is claimed (`none_found`).
-- Assumes nothing.
use Prim.Native.Nat.{◌*◌, ◌≤◌}
use mathlib.Core.Bool.{false}
use mathlib.Core.Path.{◌≡◌}
use Rattle.claims.specs.Table.{column}
use Rattle.safe.proofs.Searches.{tried, NonePass}
use Rattle.safe.specs.Choices.{chosen}
use Rattle.safe.proofs.find_claimed.Given as goal

abbrev pub invariant-loop-r : goal.invariant-loop-r
invariant-loop-r l =
    (tried l.plans l.c l.w (chosen l.except) l.last ≡ false) × NonePass l.plans l.c l.w (chosen l.except) l.r × (l.end ≤ 2 * column)
