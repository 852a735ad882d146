-- Its last line is answered by `finish`. The check finds this; it is written out, so that an edit is refused where the line that has begun differs.
-- Assumes nothing.
use Rattle.lines.proofs.pieces.InPiecesPieceProgram.finish.Goals as goal

pub returns-clause-finished : goal.returns-clause-finished
returns-clause-finished g c = c.finish.ensures.finished
