-- `stage::calls::timer` meets its contract: '05 let a vault's timer for its current view expire'.
-- Assumes nothing.
use native.Mathlib.Omega.{arith}
use Rattle.stage.proofs.Called.{timer_called}
use Rattle.stage.proofs.calls.timer.Goals as goal

pub returns : goal.returns
returns c =
    let a = c.args in
    timer_called a.stage.now a.out.now c.record_place-at.result c.timer.result c.timer.new.rec c.timer.new.out
    (omega arith) (omega arith) a.v c.record_place-at.ensures.0 c.view_of-view.result c.view_of-view.ensures c.timer.ensures
