-- `keeping::keep_head` meets its contract: a frame without reports is its head.
-- Assumes nothing.
use mathlib.Core.Path.{ap, ◌∙◌}
use Rattle.frame.specs.inside.Reading.{present_at}
use Rattle.record.proofs.Forms.{fits_kind}
use Rattle.record.proofs.Put.{held_head}
use Rattle.record.proofs.keeping.keep_head.Goals as goal

pub frame_slot-at-requires : goal.frame_slot-at-requires
frame_slot-at-requires c =
    let h = fits_kind c.args.f.kind c.args.f.body c.requires.0 in
    record { low = h.0; high = h.1; row = c.requires.2 }

pub returns : goal.returns
returns c =
    let plan = c.plan_of.ensures in
    let head = c.present-head.ensures ∙ ap (present_at c.args.f.view) plan in
    held_head _ _ c.args.sender c.args.f c.frame_slot-at.ensures.0 head c.put_slot.ensures
    c.requires.0 c.requires.1
