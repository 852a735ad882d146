-- `sound::place_sound` meets its contract: the mark says which of the two it is, and a vote of another's row is sound.
-- Assumes nothing.
use mathlib.Core.Path.{ap, sym, ◌∙◌}
use Rattle.frame.specs.declared.Report.{Report}
use Rattle.frame.proofs.Laws.{told}
use Rattle.record.specs.Slots.{slot_of}
use Rattle.record.specs.Layout.{decode_record}
use Rattle.sound.proofs.Laws.{place_empty}
use Rattle.sound.proofs.Places.{frame_there}
use Rattle.sound.proofs.Forms.{kept_free}
use Rattle.sound.proofs.place_sound.Goals as goal

pub returns-then-rec-at-ne-PRESENT : goal.returns-then-rec-at-ne-PRESENT
returns-then-rec-at-ne-PRESENT c =
    let a = c.args in
    let there = frame_there a.rec.now a.kind a.sender c.requires.0 c.frame_place-at.ensures.0 in
    let mark = ap (λ (x : Report). x.mark) there in
    c.empty_at.ensures
    ∙ sym (place_empty (slot_of (decode_record a.rec.now)) a.set a.view a.kind a.sender (λ e. c.if-rec-at-ne-PRESENT.true (mark ∙ e)))

pub returns-then-is_free : goal.returns-then-is_free
returns-then-is_free c =
    let a = c.args in
    let there = frame_there a.rec.now a.kind a.sender c.requires.0 c.frame_place-at.ensures.0 in
    let mark = ap (λ (x : Report). x.mark) there in
    sym (kept_free (slot_of (decode_record a.rec.now)) a.set a.view a.kind a.sender (sym mark ∙ c.if-rec-at-ne-PRESENT.false)
    (told c.is_free.ensures c.if-is_free.true) c.requires.1)

pub marked_sound-requires : goal.marked_sound-requires
marked_sound-requires c =
    let a = c.args in
    let there = frame_there a.rec.now a.kind a.sender c.requires.0 c.frame_place-at.ensures.0 in
    let mark = ap (λ (x : Report). x.mark) there in
    let view = c.view_at.ensures ∙ ap (λ (x : Report). x.view) there in
    (c.requires.0, c.requires.1, c.requires.2, record { mark = sym mark ∙ c.if-rec-at-ne-PRESENT.false; view = view })
