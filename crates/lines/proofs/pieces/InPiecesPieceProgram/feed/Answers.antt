-- A program that brings no calls of its own is fed by `feed`. The check finds this; it is written out, so that an edit is refused where the line
-- that has begun differs.
-- Assumes nothing.
use Rattle.lines.proofs.pieces.InPiecesPieceProgram.feed.Goals as goal

pub returns-clause-fed : goal.returns-clause-fed
returns-clause-fed g c = c.feed.ensures.fed
