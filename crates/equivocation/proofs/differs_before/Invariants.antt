-- `equivocation::differs_before` meets its contract: 'two of the records' are any two. The invariant: none of the records between the one that is
-- compared and record i differs from it; the measure is how many are left.
-- Assumes nothing.
use Prim.Native.Nat.{◌≤◌}
use Rattle.equivocation.specs.inside.Records.{clash}
use Rattle.equivocation.proofs.Laws.{NoneFrom}
use Rattle.equivocation.proofs.differs_before.Given as goal

abbrev pub invariant-loop-j : goal.invariant-loop-j
invariant-loop-j l = (l.j ≤ l.i) × NoneFrom (clash l.records l.slot l.i) l.j l.i

abbrev pub decreases-loop-j : goal.decreases-loop-j
decreases-loop-j l = l.j
