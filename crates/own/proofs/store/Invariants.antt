-- `own::store` meets its contract. The invariant: the view and the slots passed are put back, and no others.
-- Assumes nothing.
use Prim.Native.Nat.{◌≤◌}
use Rattle.record.specs.Layout.{decode_record}
use Rattle.record.specs.inside.Layout.{HoldsRecord}
use Rattle.own.specs.Part.{remnant_slots}
use Rattle.own.specs.inside.Own.{stored_to}
use Rattle.own.proofs.store.Given as goal

abbrev pub invariant-loop-t : goal.invariant-loop-t
invariant-loop-t l = (l.t ≤ remnant_slots) × HoldsRecord l.rec (stored_to (decode_record l.initial.rec) l.id l.own l.t)
