-- `own::store_slot` meets its contract: thirteen bytes copied to the slot's place.
-- Assumes nothing.
use native.Mathlib.Omega.{arith}
use borrow.Author.Rules.{rules}
use Rattle.own.proofs.Stored.{slot_stored}
use Rattle.own.proofs.store_slot.Goals as goal

pub returns : goal.returns
returns c =
    let a = c.args in
    let own = c.own_slot.ensures in
    slot_stored a.own.now a.rec.now a.id a.t
    (λ i. search rules) (omega arith) c.requires.2 own.0 own.1
    c.place_of-to.ensures.0 c.place_of.ensures
    c.copy.ensures
