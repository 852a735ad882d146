-- `obey::put_entries` meets its contract: 'a new frame gets the smallest free one', one entry after the other. The invariant is `SentTo`; the
-- measure is what is left of the bytes. A line of an entry of k bytes has at most 2k + 5 digits, so at most 3k.
-- Assumes nothing.
use Prim.Native.Nat.{◌-◌}
use lib.ListN.{length}
use Rattle.obey.proofs.Sent.{SentTo}
use Rattle.obey.proofs.put_entries.Given as goal

abbrev pub invariant-loop-i : goal.invariant-loop-i
invariant-loop-i l = SentTo l.writer l.initial.stage l.initial.page l.at l.s l.stage l.page l.i l.end

abbrev pub decreases-loop-i : goal.decreases-loop-i
decreases-loop-i l = length l.s - l.i
