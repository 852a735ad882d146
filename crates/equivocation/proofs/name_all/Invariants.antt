-- `equivocation::name_all` meets its contract: 'by rising number'. The invariant: those of the vaults passed that spoke twice are written, one behind
-- the other, and so there is room for the next.
-- Assumes nothing.
use Prim.Native.Nat.{◌-◌, ◌≤◌}
use mathlib.Core.Path.{◌≡◌}
use lib.ListN.{length}
use Rattle.equivocation.specs.Named.{rising}
use Rattle.equivocation.specs.inside.Records.{twice_in, Put}
use Rattle.equivocation.proofs.name_all.Given as goal

abbrev pub invariant-loop-sender : goal.invariant-loop-sender
invariant-loop-sender l =
    (l.sender ≤ l.n) × (length l.out ≡ length l.initial.out) × Put l.initial.out 0 (rising (twice_in l.records l.count) l.sender) l.out l.at

abbrev pub decreases-loop-sender : goal.decreases-loop-sender
decreases-loop-sender l = l.n - l.sender
