-- `explain::frames::frame_in` meets its contract: where neither 9 nor 10 is given, the bytes have the form of a frame.
-- Assumes nothing.
use mathlib.Core.Path.{sym}
use Rattle.frame.proofs.Laws.{formed}
use Rattle.explain.proofs.frames.frame_in.Goals as goal

pub parse-requires : goal.parse-requires
parse-requires c = formed c.args.s.now (sym c.in_ok-form_refusal.ensures)
