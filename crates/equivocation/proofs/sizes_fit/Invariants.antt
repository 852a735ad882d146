-- `equivocation::sizes_fit` meets its contract. The invariant: every length passed is that of a record.
-- Assumes nothing.
use Prim.Native.Nat.{◌≤◌}
use mathlib.Core.Path.{◌≡◌}
use mathlib.Core.Bool.{true}
use lib.ListN.{length}
use Rattle.sound.specs.inside.Sound.{all}
use Rattle.equivocation.specs.inside.Records.{size_fits}
use Rattle.equivocation.proofs.sizes_fit.Given as goal

abbrev pub invariant-loop-length : goal.invariant-loop-length
invariant-loop-length l = (l.length-index ≤ length l.lengths) × (all (size_fits l.lengths) l.length-index ≡ true)
