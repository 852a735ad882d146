-- `answers::put_entries` meets its contract: 'one output entry a line'. The invariant is `PutTo`; the measure is what is left of the
-- bytes. A line of k bytes has 2k + 1 digits, at most 3k.
-- Assumes nothing.
use Prim.Native.Nat.{◌-◌}
use lib.ListN.{length}
use Rattle.answers.proofs.Entries.{PutTo}
use Rattle.answers.proofs.put_entries.Given as goal

abbrev pub invariant-loop-i : goal.invariant-loop-i
invariant-loop-i l = PutTo l.initial.page l.at l.s l.page l.i l.end

abbrev pub decreases-loop-i : goal.decreases-loop-i
decreases-loop-i l = length l.s - l.i
