-- `sound::empty_at` meets its contract: the frame's slot, and the reports where the kind has them.
-- Assumes nothing.
use mathlib.Core.Path.{ap, sym, ◌∙◌}
use Rattle.frame.specs.Refusal.{absent}
use Rattle.record.specs.Slots.{slot_of}
use Rattle.record.specs.Layout.{decode_record}
use Rattle.sound.proofs.Laws.{off, on, empty_frame, empty_short, empty_reports}
use Rattle.sound.proofs.Places.{frame_there}
use Rattle.sound.proofs.empty_at.Goals as goal

pub returns-then-not-empty : goal.returns-then-not-empty
returns-then-not-empty c =
    let a = c.args in
    let at = c.frame_place-at.ensures.0 in
    let there = c.slot_at.ensures ∙ frame_there a.rec.now a.kind a.sender c.requires.0 at in
    let slot = c.empty.ensures ∙ ap absent there in
    sym (empty_frame (slot_of (decode_record a.rec.now)) a.kind a.sender (off slot c.if-not-empty.true))

pub returns-then-kind-lt-SUGGEST : goal.returns-then-kind-lt-SUGGEST
returns-then-kind-lt-SUGGEST c =
    let a = c.args in
    let at = c.frame_place-at.ensures.0 in
    let there = c.slot_at.ensures ∙ frame_there a.rec.now a.kind a.sender c.requires.0 at in
    let slot = c.empty.ensures ∙ ap absent there in
    sym (empty_short (slot_of (decode_record a.rec.now)) a.kind a.sender (on slot c.if-not-empty.false) c.if-kind-lt-SUGGEST.true)

pub returns : goal.returns
returns c =
    let a = c.args in
    let at = c.frame_place-at.ensures.0 in
    let there = c.slot_at.ensures ∙ frame_there a.rec.now a.kind a.sender c.requires.0 at in
    let slot = c.empty.ensures ∙ ap absent there in
    c.reports_absent.ensures
    ∙ sym (empty_reports (slot_of (decode_record a.rec.now)) a.kind a.sender (on slot c.if-not-empty.false) c.if-kind-lt-SUGGEST.false)
