-- `sound::rows_sound` meets its contract. The invariant: every kind passed is sound.
-- Assumes nothing.
use Prim.Native.Nat.{◌+◌}
use mathlib.Core.Path.{◌≡◌}
use mathlib.Core.Bool.{true}
use Rattle.record.specs.Slots.{slot_of}
use Rattle.record.specs.Layout.{decode_record}
use Rattle.sound.specs.inside.Sound.{all, kind_sound}
use Rattle.sound.proofs.rows_sound.Given as goal

abbrev pub invariant-loop-k : goal.invariant-loop-k
invariant-loop-k l = all (λ j. kind_sound (slot_of (decode_record l.rec)) l.set l.view (j + 1)) l.k ≡ true
