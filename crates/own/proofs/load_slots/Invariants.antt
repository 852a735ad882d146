-- `own::load_slots` meets its contract. The invariant: the slots passed lie behind the head.
-- Assumes nothing.
use Prim.Native.Nat.{◌≤◌}
use mathlib.Core.Path.{◌≡◌}
use lib.ListN.{length}
use Rattle.wire.specs.Placed.{placed}
use Rattle.record.specs.Layout.{decode_record}
use Rattle.own.specs.Part.{remnant_slots, remnant_head}
use Rattle.own.specs.inside.Own.{own_bytes}
use Rattle.own.proofs.load_slots.Given as goal

abbrev pub invariant-loop-t : goal.invariant-loop-t
invariant-loop-t l =
    (l.t ≤ remnant_slots) × (length l.own ≡ length l.initial.own) × (l.own ≡ placed l.initial.own remnant_head (own_bytes (decode_record l.rec) l.id l.t))
