-- `explain::rehearsal::say_rehearsed` is safe and ends: a line that passes 9 and 10 has the bytes that are read (`Forms`).
-- Assumes nothing.
use mathlib.Core.Path.{sym}
use Rattle.explain.proofs.Forms.{passed_formed}
use Rattle.explain.proofs.rehearsal.say_rehearsed.Goals as goal

pub say_formed-requires : goal.say_formed-requires
say_formed-requires g c = passed_formed _ (sym c.in-Ok.ensures)
