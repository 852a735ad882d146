-- `answers::timer` meets its contract: 'kind 09 is a timer (view; 5 bytes)'.
-- Assumes nothing.
use native.Mathlib.Omega.{arith}
use Rattle.answers.proofs.Calls.{timer_wrong, timer_made}
use Rattle.answers.proofs.timer.Goals as goal

pub returns-then-bytes-ne-TIMER_LENGTH : goal.returns-then-bytes-ne-TIMER_LENGTH
returns-then-bytes-ne-TIMER_LENGTH c = let a = c.args in timer_wrong a.rec.now a.out.now a.bytes.now (omega arith)

pub returns : goal.returns
returns c =
    let a = c.args in
    timer_made a.rec.now a.out.now a.bytes.now (omega (arith, c.if-bytes-ne-TIMER_LENGTH.false)) c.number32.result c.number32.ensures _
    c.timer.ensures
