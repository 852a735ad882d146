-- `explain::rehearsal::number_in` meets its contract: a line that passes 9 and 10 has a byte behind its kind.
-- Assumes nothing.
use Rattle.stage.proofs.Refusals.{formed_two}
use Rattle.explain.proofs.rehearsal.number_in.Goals as goal

pub bounds-s-1 : goal.bounds-s-1
bounds-s-1 c = formed_two c.requires
