-- `own::store` meets its contract. The invariant: the view and the slots passed are put back, and no others.
-- Assumes nothing.
use mathlib.Core.Path.{◌≡◌}
use native.Mathlib.Omega.{arith}
use Rattle.record.specs.Layout.{decode_record}
use Rattle.own.specs.Part.{remnant_slots}
use Rattle.own.proofs.Stored.{stored_none, stored_next, stored_all}
use Rattle.own.proofs.store.Goals as goal

pub loop-t-init : goal.loop-t-init
loop-t-init c = (
  omega arith,
  stored_none c.args.rec.now c.args.id c.args.own.now c.requires c.view_in-view.ensures
      c.put_view.ensures,
)

pub loop-t-preserved : goal.loop-t-preserved
loop-t-preserved c =
    let i = c.loop-t.invariant in (
      omega (arith, i.0, c.loop-t-test.true),
      stored_next (decode_record c.put_view.new.rec) c.args.id c.args.own.now
          c.loop-t.t i.1 c.store_slot.ensures,
    )

pub returns : goal.returns
returns c =
    let all : c.loop-t.t ≡ remnant_slots = omega (arith, c.loop-t-test.false, c.loop-t.invariant.0) in
    stored_all c.args.rec.now c.args.id c.args.own.now c.requires c.view_in-view.ensures
    c.put_view.ensures c.loop-t.t all c.loop-t.invariant.1
