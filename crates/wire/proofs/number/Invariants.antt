-- `wire::number` meets its contract. 'Numbers are big-endian' (01, Frames).
-- The invariant: n is the number that the first i bytes spell, and it has at most i digits, so one more byte fits in 64 bits.
-- Assumes nothing.
use Prim.Native.Nat.{◌<◌, ◌^◌}
use mathlib.Core.Path.{◌≡◌}
use Rattle.wire.specs.Digits.{number_at}
use Rattle.wire.proofs.number.Given as goal

abbrev pub invariant-loop-i : goal.invariant-loop-i
invariant-loop-i l = (l.n ≡ number_at l.i l.s l.at) × (l.n < 256 ^ l.i)
