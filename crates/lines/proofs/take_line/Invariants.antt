-- `lines::take_line` meets its contract: 'A line ends at byte 0a'. The invariant is `TakenTo`; the measure is what is left of the piece.
-- Assumes nothing.
use Rattle.lines.proofs.Taking.{TakenTo}
use Rattle.lines.proofs.take_line.Given as goal

abbrev pub invariant-loop-i : goal.invariant-loop-i
invariant-loop-i l = TakenTo l.initial.text l.len l.piece l.from l.text l.to l.i
