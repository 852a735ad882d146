-- `sound::zero` meets its contract. The invariant: the largest byte so far is 0 just where every byte passed is.
-- Assumes nothing.
use mathlib.Core.Path.{◌≡◌}
use lib.Dec.{eqb}
use Rattle.sound.specs.inside.Sound.{all}
use Rattle.sound.specs.inside.Bulk.{zero_in}
use Rattle.sound.proofs.zero.Given as goal

abbrev pub invariant-loop-byte : goal.invariant-loop-byte
invariant-loop-byte l = eqb l.most 0 ≡ all (zero_in l.s) l.byte-index
