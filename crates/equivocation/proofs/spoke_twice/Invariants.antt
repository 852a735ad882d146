-- `equivocation::spoke_twice` meets its contract: 'kept vote frames only'. The invariant: in none of the votes passed do two records differ.
-- Assumes nothing.
use Prim.Native.Nat.{◌-◌, ◌≤◌}
use mathlib.Core.Path.{◌≡◌}
use mathlib.Core.Bool.{false}
use Rattle.rules.specs.inside.Bools.{any_below}
use Rattle.equivocation.specs.inside.Records.{vote_clashes}
use Rattle.equivocation.proofs.spoke_twice.Given as goal

abbrev pub invariant-loop-vote : goal.invariant-loop-vote
invariant-loop-vote l = (l.vote ≤ 4) × (any_below (vote_clashes l.records l.count l.sender) l.vote ≡ false)

abbrev pub decreases-loop-vote : goal.decreases-loop-vote
decreases-loop-vote l = 4 - l.vote
