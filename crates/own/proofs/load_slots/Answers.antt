-- `own::load_slots` meets its contract. The invariant: the slots passed lie behind the head.
-- Assumes nothing.
use Prim.Native.Nat.{ℕ}
use mathlib.Core.Path.{◌≡◌, refl, ◌∙◌, subst}
use native.Mathlib.Omega.{arith}
use Rattle.wire.specs.Placed.{placed}
use Rattle.record.specs.Layout.{decode_record}
use Rattle.own.specs.Part.{remnant_slots, remnant_head}
use Rattle.own.specs.inside.Own.{own_bytes}
use Rattle.own.proofs.Stored.{slots_none, slots_copied}
use Rattle.own.proofs.load_slots.Goals as goal

pub loop-t-init : goal.loop-t-init
loop-t-init c = (omega arith, refl, slots_none _ _ _)

pub loop-t-preserved : goal.loop-t-preserved
loop-t-preserved c =
    let own = c.own_slot.ensures in
    let i = c.loop-t.invariant in (
      omega (arith, c.loop-t-test.true),
      c.copy.auto.dst ∙ i.1,
      slots_copied c.args.own.now c.args.rec.now c.args.id _ _ c.loop-t.t
          (λ i. (c.type_inv.rec i).fits) c.requires.0 c.requires.2
          i.2
          own.0 own.1 c.place_of-from.ensures c.place_of.ensures.0 c.copy.ensures,
    )

pub returns : goal.returns
returns c =
    let a = c.args in
    let all : c.loop-t.t ≡ remnant_slots = omega (arith, c.loop-t-test.false, c.loop-t.invariant.0) in
    subst (λ (t : ℕ). c.loop-t.own ≡ placed a.own.now remnant_head (own_bytes (decode_record a.rec.now) a.id t)) all c.loop-t.invariant.2
