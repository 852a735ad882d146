-- `lines::put_digits` meets its contract: two digits for each byte; 'Output digits are lower-case'.
-- The invariant: the digits of the rest, put on what is there, give what is to come out.
-- Assumes nothing.
use Prim.Native.Nat.{◌+◌, ◌*◌}
use mathlib.Core.Path.{◌≡◌}
use lib.ListN.{length, drop}
use Rattle.wire.specs.Placed.{placed}
use Rattle.lines.specs.inside.Steps.{digits_of}
use Rattle.lines.proofs.put_digits.Given as goal

abbrev pub invariant-loop-b : goal.invariant-loop-b
invariant-loop-b l =
    (l.to ≡ l.at + 2 * l.b-index) × (length l.page ≡ length l.initial.page) × (placed l.page l.to (digits_of (drop l.b-index l.s)) ≡ placed l.initial.page l.at (digits_of l.s))
