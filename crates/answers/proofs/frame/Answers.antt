-- `answers::frame` meets its contract: 'other lines are frames whose byte 1 is also the link's sender'.
-- Assumes nothing.
use Rattle.answers.proofs.Calls.{frame_bare, frame_made}
use Rattle.answers.proofs.frame.Goals as goal

pub returns-then-bytes-lt2 : goal.returns-then-bytes-lt2
returns-then-bytes-lt2 c =
    let a = c.args in
    frame_bare a.rec.now a.out.now a.bytes.now c.if-bytes-lt2.true _ c.frame.ensures

pub returns : goal.returns
returns c =
    let a = c.args in
    frame_made a.rec.now a.out.now a.bytes.now _ c.frame-2.ensures
