-- `answers::start` meets its contract: 'Kind 00 starts (n, f, id, class, one byte each, then plan; 13 bytes)'.
-- Assumes nothing.
use native.Mathlib.Omega.{arith}
use Rattle.vault.specs.Answers.{left_by}
use Rattle.answers.proofs.Calls.{start_wrong, start_made}
use Rattle.answers.proofs.start.Goals as goal

pub returns-then-bytes-ne-START_LENGTH : goal.returns-then-bytes-ne-START_LENGTH
returns-then-bytes-ne-START_LENGTH c = let a = c.args in start_wrong a.rec.now a.out.now a.bytes.now (omega arith)

pub returns : goal.returns
returns c =
    let a = c.args in
    start_made a.rec.now a.out.now a.bytes.now (omega (arith, c.if-bytes-ne-START_LENGTH.false)) c.number64-plan.result c.number64-plan.ensures
    (left_by c.start.result c.start.new.rec c.start.new.out) c.start.ensures
