-- `Rehearsal` is ended by `finish`. The check finds this; it is written out, so that an edit is refused where the line that has begun differs.
-- Assumes nothing.
use Rattle.obey.proofs.RehearsalPieceProgram.finish.Goals as goal

pub returns-clause-finished : goal.returns-clause-finished
returns-clause-finished c = c.finish.ensures.finished
