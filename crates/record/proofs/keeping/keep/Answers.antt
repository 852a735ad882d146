-- `keeping::keep` meets its contract: by whether the frame has reports.
-- Assumes nothing.
use Rattle.record.proofs.Forms.{fits_kind, told_kind, plan_kind, keep_told_as}
use Rattle.record.proofs.Put.{held_as}
use Rattle.record.proofs.keeping.keep.Goals as goal

pub keep_told-requires : goal.keep_told-requires
keep_told-requires c =
    let h = fits_kind c.args.f.kind c.args.f.body c.requires.0 in
    (told_kind c.args.f.kind c.in-Told.is c.requires.0, record { low = h.0; high = h.1; row = c.requires.1 }, c.requires.2)

pub keep_head-requires : goal.keep_head-requires
keep_head-requires c =
    (c.requires.0, plan_kind c.args.f.kind c.in-Plan.is c.requires.0, c.requires.1, c.requires.2)

pub returns-in-Told : goal.returns-in-Told
returns-in-Told c =
    held_as c.keep_told.ensures
    (keep_told_as _ c.args.sender c.args.f c.in-Told.is)
