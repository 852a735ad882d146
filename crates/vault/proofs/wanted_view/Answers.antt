-- `vault::wanted_view` meets its contract: by whether an own view-change is kept, and whether it is above the view.
-- Assumes nothing.
use Rattle.vault.proofs.Timers.{wanted_none, wanted_own, wanted_next}
use Rattle.vault.proofs.wanted_view.Goals as goal

pub returns-then-own-ne1 : goal.returns-then-own-ne1
returns-then-own-ne1 c =
    let rec = c.args.rec.now in
    wanted_none rec c.args.id c.args.view c.frame_slot-at.result c.requires.1 c.frame_slot-at.ensures.0
    c.slot_of-own.result c.slot_of-own.ensures c.if-own-ne1.true

pub returns-then-view-own : goal.returns-then-view-own
returns-then-view-own c =
    let rec = c.args.rec.now in
    wanted_own rec c.args.id c.args.view c.frame_slot-at.result c.requires.1 c.frame_slot-at.ensures.0
    c.slot_of-own.result c.slot_of-own.ensures c.if-own-ne1.false c.if-view-own.true

pub returns : goal.returns
returns c =
    let rec = c.args.rec.now in
    wanted_next rec c.args.id c.args.view c.frame_slot-at.result c.requires.1 c.frame_slot-at.ensures.0
    c.slot_of-own.result c.slot_of-own.ensures c.if-own-ne1.false c.if-view-own.false
