-- `row::place_sound` meets its contract: by the mark of the frame's slot, then its plan, then the frame.
-- Assumes nothing.
use mathlib.Core.Path.{ap, ◌∙◌}
use native.Mathlib.Omega.{arith}
use Rattle.settings.specs.declared.Settings.{Settings}
use Rattle.sound.proofs.Laws.{off, on}
use Rattle.remnant.specs.inside.Parts.{Kind, Head}
use Rattle.remnant.proofs.Alone.{fitting_row, head_there}
use Rattle.remnant.proofs.Frames.{place_none, place_wrong, place_frame, frame_own}
use Rattle.remnant.proofs.row.place_sound.Goals as goal
use Rattle.remnant.proofs.row.place_sound.Goals.{After-slot_in-head}

-- The kind has a place, and what was read stands there.
kind : (c : After-slot_in-head) → Kind c.args.own.now c.args.kind
kind c =
    let p = c.requires in
    record { row = fitting_row _ p.0; low = p.1; high = p.2 }

head : (c : After-slot_in-head) → Head c.args.own.now c.args.kind c.slot_in-head.result
head c =
    let k = kind c in
    record { is = c.slot_in-head.ensures ∙ head_there c.args.own.now (omega arith) k.row c.args.kind k.low k.high }

pub empty_at-requires : goal.empty_at-requires
empty_at-requires c = (kind (goal.at.empty_at-requires c).After-slot_in-head, head (goal.at.empty_at-requires c).After-slot_in-head)

pub returns-then-head-ne-PRESENT : goal.returns-then-head-ne-PRESENT
returns-then-head-ne-PRESENT c =
    place_none c.args.own.now c.args.view c.args.kind c.requires.0 (head (goal.at.returns-then-head-ne-PRESENT c).After-slot_in-head) c.if-head-ne-PRESENT.true c.empty_at.ensures

pub returns-then-not-no_plan : goal.returns-then-not-no_plan
returns-then-not-no_plan c =
    place_wrong c.args.own.now c.args.view c.args.kind c.requires.0 (head (goal.at.returns-then-not-no_plan c).After-slot_in-head) c.if-head-ne-PRESENT.false (off c.no_plan.ensures c.if-not-no_plan.true)

pub frame_in-requires : goal.frame_in-requires
frame_in-requires c =
    (ap (λ (x : Settings). x.id) c.requires.0.is, kind (goal.at.frame_in-requires c).After-slot_in-head, head (goal.at.frame_in-requires c).After-slot_in-head)

pub frame_sound-requires : goal.frame_sound-requires
frame_sound-requires c =
    frame_own c.args.own.now c.args.view c.args.kind c.requires.0 (head (goal.at.frame_sound-requires c).After-slot_in-head) c.frame_in.result c.frame_in.ensures

pub returns : goal.returns
returns c =
    place_frame c.args.own.now c.args.view c.args.kind c.requires.0 (head (goal.at.returns c).After-slot_in-head) c.frame_in.result c.if-head-ne-PRESENT.false
    (on c.no_plan.ensures c.if-not-no_plan.false) c.frame_in.ensures c.frame_sound.ensures
