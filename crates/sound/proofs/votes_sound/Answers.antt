-- `sound::votes_sound` meets its contract: the two previous votes, and the decision.
-- Assumes nothing.
use mathlib.Core.Path.{ap, sym, ◌∙◌}
use mathlib.Core.Bool.{not}
use Rattle.frame.specs.declared.Report.{Report}
use Rattle.frame.specs.Refusal.{bad_form}
use Rattle.record.specs.Slots.{slot_of}
use Rattle.record.specs.Layout.{decode_record}
use Rattle.sound.proofs.Laws.{off, on, votes_first, votes_second, votes_decision}
use Rattle.sound.proofs.votes_sound.Goals as goal

pub returns-then-not-previous_sound : goal.returns-then-not-previous_sound
returns-then-not-previous_sound c =
    let a = c.args in
    sym (votes_first (slot_of (decode_record a.rec.now)) a.id (off c.previous_sound.ensures c.if-not-previous_sound.true))

pub returns-then-not-previous_sound-2 : goal.returns-then-not-previous_sound-2
returns-then-not-previous_sound-2 c =
    let a = c.args in
    sym (votes_second (slot_of (decode_record a.rec.now)) a.id (on c.previous_sound.ensures c.if-not-previous_sound.false)
    (off c.previous_sound-2.ensures c.if-not-previous_sound-2.true))

pub returns : goal.returns
returns c =
    let a = c.args in
    c.well_formed-2.ensures ∙ ap (λ (x : Report). not (bad_form x)) c.slot_of.ensures
    ∙ sym (votes_decision (slot_of (decode_record a.rec.now)) a.id (on c.previous_sound.ensures c.if-not-previous_sound.false)
    (on c.previous_sound-2.ensures c.if-not-previous_sound-2.false))
