-- `wire::number32` meets its contract. The library's sum of bytes by their worth is the number that they spell.
-- Assumes nothing.
use native.Mathlib.Nat.{add-zero}
use native.Mathlib.Omega.{arith}
use Rattle.wire.specs.Digits.{number_at}
use Rattle.wire.proofs.number32.Goals as goal

pub returns : goal.returns
unfolding number_at
returns c = rw add-zero (omega arith)
