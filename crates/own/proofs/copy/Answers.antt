-- `own::copy` meets its contract: the bytes of a part, written over a part of as many.
-- Assumes nothing.
use mathlib.Core.Path.{◌∙◌}
use Rattle.own.proofs.Stored.{part_copied}
use Rattle.own.proofs.copy.Goals as goal

pub returns : goal.returns
returns g c =
    let a = c.args in
    part_copied a.src.now a.dst.now a.from a.to g.row.N c.copy_from_slice-2.new.self c.requires.0
    (c.copy_from_slice-2.ensures.after ∙ c.copy_from_slice.ensures.after)
