-- `tally::lead_of` meets its contract. The invariant: b leads among the votes passed.
-- Assumes nothing.
use Prim.Native.Nat.{◌≤◌}
use mathlib.Core.Path.{◌≡◌}
use Rattle.tally.specs.inside.Votes.{row_votes, leading}
use Rattle.tally.proofs.lead_of.Given as goal

abbrev pub invariant-loop-j : goal.invariant-loop-j
invariant-loop-j l = l.b ≡ leading (row_votes l.block l.v l.from) l.j
