-- `own::load` meets its contract: the head, and the slots behind it.
-- Assumes nothing.
use Prim.Native.Nat.{◌<◌}
use mathlib.Core.Path.{sym, subst, ◌∙◌}
use native.Mathlib.Omega.{arith}
use Rattle.wire.specs.Placed.{placed}
use Rattle.settings.specs.declared.Settings.{Settings}
use Rattle.record.specs.Slots.{rows}
use Rattle.record.specs.Layout.{decode_record}
use Rattle.own.specs.Part.{remnant_slots, remnant_head}
use Rattle.own.specs.inside.Own.{own_bytes}
use Rattle.own.proofs.Stored.{whole_put}
use Rattle.own.proofs.load.Goals as goal

pub load_slots-requires : goal.load_slots-requires
load_slots-requires c =
    let given = c.requires in (
      given.0,
      subst (λ (set : Settings). set.id < rows) (sym c.settings_of-set.ensures) given.1,
      omega
          (arith, given.2, c.load_head.auto.own),
    )

pub returns : goal.returns
returns c =
    let a = c.args in
    let r = decode_record a.rec.now in
    let set = c.settings_of-set.ensures in
    let head = c.load_head.ensures in
    c.load_slots.ensures ∙ (λ i. placed (head i) remnant_head (own_bytes r (set i).id remnant_slots)) ∙ whole_put a.own.now r
