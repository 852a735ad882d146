-- `explain::rehearsal::line_fault` is safe and ends: a line that passes 9 and 10 has the bytes that are read (`Forms`).
-- Assumes nothing.
use mathlib.Core.Path.{sym}
use Rattle.explain.proofs.Forms.{passed_formed}
use Rattle.explain.proofs.rehearsal.line_fault.Goals as goal

pub formed_fault-requires : goal.formed_fault-requires
formed_fault-requires g c = passed_formed _ (sym c.in_default.ensures)
