-- `own::put_in` meets its contract: thirteen bytes at the slot's place.
-- Assumes nothing.
use Prim.Native.Nat.{ℕ}
use mathlib.Core.Path.{sym, subst, ap, ◌∙◌}
use mathlib.Core.List.{List}
use native.Mathlib.Omega.{arith}
use Rattle.wire.specs.Fields.{Bytes}
use Rattle.wire.specs.Placed.{placed}
use Rattle.wire.proofs.Output.{bytes_placed}
use Rattle.record.specs.Layout.{slot_bytes}
use Rattle.record.specs.inside.Slots.{with_slot}
use Rattle.record.proofs.Theorems.{bytes_slot}
use Rattle.own.specs.Part.{own_slot}
use Rattle.own.specs.inside.Own.{Changes}
use Rattle.own.proofs.Changes.{slot_changes}
use borrow.Author.Rules.{rules}
use Rattle.own.proofs.put_in.Goals as goal

pub returns-clause-changes : goal.returns-clause-changes
returns-clause-changes c =
    let o = c.args.own.now in
    let t = c.args.t in
    let x = c.args.x in
    let put = c.put_at.ensures ∙ ap (λ (at : ℕ). placed o at (slot_bytes x)) c.place_of.ensures.0 in
    subst (λ (l : List ℕ). Changes (λ r. with_slot r (own_slot r.set.id t) x) o l) (sym put)
    (slot_changes o (omega arith) t c.requires x (record { mark = search rules; view = search rules; plan = search rules }))

pub returns-clause-bytes : goal.returns-clause-bytes
returns-clause-bytes c =
    let x = c.args.x in
    let put = bytes_slot x (record { mark = search rules; view = search rules; plan = search rules }) in
    subst Bytes (sym c.put_at.ensures) (bytes_placed c.args.own.now c.place_of.result (slot_bytes x) c.fits-own put)
