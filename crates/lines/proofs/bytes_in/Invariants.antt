-- `lines::bytes_in` meets its contract: 'not an even count of lower-case hex digits', or more than the limit; else the bytes that the
-- digits spell. The invariant is `SpelledTo`; the measure is what is left of the count.
-- Assumes nothing.
use Prim.Native.Nat.{◌*◌, ◌≤◌}
use lib.ListN.{length}
use Rattle.lines.proofs.Spelled.{SpelledTo}
use Rattle.lines.proofs.bytes_in.Given as goal

abbrev pub invariant-loop-i : goal.invariant-loop-i
invariant-loop-i l = (l.limit ≤ 2 * length l.initial.bytes) × SpelledTo l.limit l.text l.bytes (length l.initial.bytes) l.count l.i
