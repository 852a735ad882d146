-- `pass::store_vote` meets its contract: by whether the vote has a previous one.
-- Assumes nothing.
use native.Mathlib.Omega.{arith}
use Rattle.pass.proofs.Stored.{vote_stored, votes_stored}
use Rattle.pass.proofs.store_vote.Goals as goal

pub returns-then-k-lt1 : goal.returns-then-k-lt1
returns-then-k-lt1 c =
    let a = c.args in
    vote_stored a.rec.now a.id a.k a.part.now (omega arith) c.requires.0 c.requires.1 (λ (one, two). omega (arith, one, c.if-k-lt1.true))
    c.store_slot.ensures

pub returns-then-k-gt2 : goal.returns-then-k-gt2
returns-then-k-gt2 c =
    let a = c.args in
    vote_stored a.rec.now a.id a.k a.part.now (omega arith) c.requires.0 c.requires.1 (λ (one, two). omega (arith, two, c.if-k-gt2.true))
    c.store_slot.ensures

pub returns : goal.returns
returns c =
    let a = c.args in
    votes_stored a.rec.now a.id a.k a.part.now (omega arith) c.requires.0 c.requires.1 c.if-k-lt1.false
    c.if-k-gt2.false
    c.slot_of_previous.ensures
    c.store_slot.ensures c.store_slot-2.ensures
