-- `wire::put` meets its contract. 'Numbers are big-endian' (01, Frames).
-- The invariant: what is left to store, stored on what is there, gives what is to come out; at the end nothing is left.
-- Assumes nothing.
use mathlib.Core.Path.{◌≡◌}
use lib.Seq.{sets}
use Rattle.wire.specs.Digits.{digits}
use Rattle.wire.proofs.put.Given as goal

abbrev pub invariant-loop-i : goal.invariant-loop-i
invariant-loop-i l = sets l.out l.at (digits l.i l.n) ≡ sets l.initial.out l.at (digits l.width l.value)
