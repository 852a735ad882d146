-- `keeping::keep_refusal` meets its contract: the two flags decide the two rows.
-- Assumes nothing.
use mathlib.Core.Path.{◌≡◌, ap, sym, ◌∙◌}
use mathlib.Core.Bool.{false}
use Rattle.frame.specs.declared.Report.{Report}
use Rattle.frame.proofs.Laws.{told}
use Rattle.record.specs.Slots.{frame_slot, slot_of}
use Rattle.record.specs.Layout.{decode_record}
use Rattle.record.specs.inside.Keeping.{stale, outdone}
use Rattle.record.proofs.Kept.{refused_outdone, taken}
use Rattle.record.proofs.keeping.keep_refusal.Goals as goal
use Rattle.record.proofs.keeping.keep_refusal.Goals.{After-is_outdone}

-- The frame is not stale.
current : (c : After-is_outdone) → let a = c.args in stale a.current a.kind a.view ≡ false
current c = told c.is_stale.ensures c.if-is_stale.false

-- The second flag is that of the frame's slot.
behind : (c : After-is_outdone) → let a = c.args in
    c.is_outdone.result ≡ outdone (slot_of (decode_record a.rec.now) (frame_slot a.kind a.sender)) a.view
behind c =
    let a = c.args in
    let slot = c.slot_of.ensures ∙ ap (slot_of (decode_record a.rec.now)) c.frame_slot-at.ensures.0 in
    c.is_outdone.ensures ∙ ap (λ (x : Report). outdone x a.view) slot

pub returns-then-is_outdone : goal.returns-then-is_outdone
returns-then-is_outdone c =
    let a = c.args in
    sym (refused_outdone (slot_of (decode_record a.rec.now)) a.current a.sender a.kind a.view (current (goal.at.returns-then-is_outdone c).After-is_outdone)
    (told (behind (goal.at.returns-then-is_outdone c).After-is_outdone) c.if-is_outdone.true))

pub returns : goal.returns
returns c =
    let a = c.args in
    sym (taken (slot_of (decode_record a.rec.now)) a.current a.sender a.kind a.view (current (goal.at.returns c).After-is_outdone)
    (told (behind (goal.at.returns c).After-is_outdone) c.if-is_outdone.false))
