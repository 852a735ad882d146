-- `row::frames_sound` meets its contract. The invariant: every kind passed is sound.
-- Assumes nothing.
use Prim.Native.Nat.{◌+◌, ◌-◌, ◌≤◌}
use mathlib.Core.Path.{◌≡◌}
use mathlib.Core.Bool.{true}
use Rattle.record.specs.Slots.{kinds}
use Rattle.sound.specs.inside.Sound.{all, place_sound}
use Rattle.remnant.specs.inside.Parts.{row_in}
use Rattle.remnant.proofs.row.frames_sound.Given as goal

abbrev pub invariant-loop-k : goal.invariant-loop-k
invariant-loop-k l = (l.k ≤ kinds) × (all (λ j. place_sound (row_in l.own) l.set l.view (j + 1) l.set.id) l.k ≡ true)

abbrev pub decreases-loop-k : goal.decreases-loop-k
decreases-loop-k l = kinds - l.k
