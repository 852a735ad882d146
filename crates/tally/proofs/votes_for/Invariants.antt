-- `tally::votes_for` meets its contract. The invariant: the votes passed are counted.
-- Assumes nothing.
use Prim.Native.Nat.{◌≤◌}
use mathlib.Core.Path.{◌≡◌}
use Rattle.tally.specs.inside.Votes.{row_votes}
use Rattle.tally.proofs.Votes.{tally}
use Rattle.tally.proofs.votes_for.Given as goal

abbrev pub invariant-loop-j : goal.invariant-loop-j
invariant-loop-j l = (l.count ≤ l.j) × (l.count ≡ tally (row_votes l.block l.v l.from) l.p l.j)
