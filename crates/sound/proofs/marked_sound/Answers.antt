-- `sound::marked_sound` meets its contract, by the form of the kind.
-- Assumes nothing.
use mathlib.Core.Path.{◌≡◌, ap, sym, ◌∙◌}
use native.Mathlib.Omega.{arith}
use Rattle.frame.specs.declared.Report.{Report}
use Rattle.record.specs.Slots.{frame_slot, slot_of}
use Rattle.record.specs.Layout.{decode_record}
use Rattle.sound.proofs.Places.{frame_there}
use Rattle.sound.proofs.Forms.{bare_rows, kept_plan, kept_planned, kept_bare, kept_told}
use Rattle.sound.proofs.marked_sound.Goals as goal
use Rattle.sound.proofs.marked_sound.Goals.{After-plan_at}

pub returns-then-head-le-VOTE_4 : goal.returns-then-head-le-VOTE_4
returns-then-head-le-VOTE_4 c =
    c.plan_sound.ensures _ ∙ sym (kept_plan _ _ _ _ c.requires.3 c.requires.0.low c.if-head-le-VOTE_4.true)

-- The plan that is read is that of the frame's slot.
plan_read : (c : After-plan_at)
    → c.plan_at.result ≡ (slot_of (decode_record c.args.rec.now) (frame_slot c.args.head.kind c.args.head.sender)).plan
plan_read c =
    let there = frame_there _ _ _ c.requires.0 c.frame_place-at.ensures.0 in
    c.plan_at.ensures ∙ ap (λ (x : Report). x.plan) there

pub returns-then-plan_at-ne0 : goal.returns-then-plan_at-ne0
returns-then-plan_at-ne0 c =
    sym (kept_planned _ _ _ _ c.requires.3 (omega (arith, c.if-head-le-VOTE_4.false)) (λ e. c.if-plan_at-ne0.true (plan_read (goal.at.returns-then-plan_at-ne0 c).After-plan_at ∙ e)))

pub returns-then-head-eq-VIEW_CHANGE : goal.returns-then-head-eq-VIEW_CHANGE
returns-then-head-eq-VIEW_CHANGE c =
    let six = c.if-head-eq-VIEW_CHANGE.true in
    sym (kept_bare _ _ _ _ c.requires.3 six (sym (plan_read (goal.at.returns-then-head-eq-VIEW_CHANGE c).After-plan_at) ∙ c.if-plan_at-ne0.false) ∙ bare_rows _ _ _ six c.requires.1)

pub returns : goal.returns
returns c =
    c.told_sound.ensures ∙ sym (kept_told _ _ _ _ c.requires.3 (omega (arith, c.if-head-le-VOTE_4.false, c.if-head-eq-VIEW_CHANGE.false))
    (sym (plan_read (goal.at.returns c).After-plan_at) ∙ c.if-plan_at-ne0.false))
