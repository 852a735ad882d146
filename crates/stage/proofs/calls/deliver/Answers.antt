-- `stage::calls::deliver` meets its contract: '01 deliver (frame number, vault)'.
-- Assumes nothing.
use native.Mathlib.Omega.{arith}
use Rattle.stage.proofs.Called.{deliver_called}
use Rattle.stage.proofs.calls.deliver.Goals as goal

pub returns : goal.returns
returns c =
    let a = c.args in
    deliver_called a.stage.now a.out.now c.record_place-at.result c.frame.result c.frame.new.rec c.frame.new.out
    (omega arith) (omega arith) a.k a.v c.record_place-at.ensures.0 c.writer_of-writer.result c.copy_frame-len.result c.copy_frame-len.new.bytes
    c.writer_of-writer.ensures c.copy_frame-len.ensures.0 c.frame.ensures
