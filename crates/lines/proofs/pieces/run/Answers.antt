-- `lines::pieces::run` answers what `run_pieces` does. The check finds this; it is written out, so that another answer is refused here.
-- Assumes nothing.
use Rattle.lines.proofs.pieces.run.Goals as goal

pub returns-clause-ok : goal.returns-clause-ok
returns-clause-ok g c = c.run_pieces.ensures.ok

pub returns-clause-err : goal.returns-clause-err
returns-clause-err g c = c.run_pieces.ensures.err
