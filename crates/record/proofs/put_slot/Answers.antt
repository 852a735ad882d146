-- `layout::put_slot` meets its contract: thirteen bytes at the slot's place.
-- Assumes nothing.
use Prim.Native.Nat.{ℕ}
use mathlib.Core.Path.{ap, sym, subst, ◌∙◌}
use mathlib.Core.List.{List}
use Rattle.wire.specs.Placed.{placed}
use Rattle.record.specs.inside.Slots.{with_slot}
use Rattle.record.specs.Layout.{slot_bytes, decode_record}
use Rattle.record.specs.inside.Layout.{HoldsRecord}
use Rattle.record.proofs.Laws.{holds_there}
use borrow.Author.Rules.{rules}
use Rattle.record.proofs.put_slot.Goals as goal

pub returns : goal.returns
returns c =
    let o = c.args.rec.now in
    let x = c.args.slot in
    let e = c.put_at.ensures
    ∙ ap (λ (at : ℕ). placed o at (slot_bytes x)) c.place_of-at.ensures.0 in
    subst (λ (l : List ℕ). HoldsRecord l (with_slot (decode_record o) c.args.i x)) (sym e)
    (holds_there o c.args.i x c.requires.0 c.requires.1 (record { mark = search rules; view = search rules; plan = search rules }))
