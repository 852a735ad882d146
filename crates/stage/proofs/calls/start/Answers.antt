-- `stage::calls::start` meets its contract: '00 start (vault, class, plan)'.
-- Assumes nothing.
use native.Mathlib.Omega.{arith}
use Rattle.stage.proofs.Refusals.{formed_start}
use Rattle.stage.proofs.Called.{second_named, start_called}
use Rattle.stage.proofs.calls.start.Goals as goal

pub bounds-bytes-1 : goal.bounds-bytes-1
bounds-bytes-1 c =
    omega (arith, formed_start c.requires.0.formed c.requires.1)

pub bounds-bytes-2 : goal.bounds-bytes-2
bounds-bytes-2 c =
    omega (arith, formed_start c.requires.0.formed c.requires.1)

pub number64-plan-requires : goal.number64-plan-requires
number64-plan-requires c =
    omega (arith, formed_start c.requires.0.formed c.requires.1)

pub bounds-bytes-1-2 : goal.bounds-bytes-1-2
bounds-bytes-1-2 c =
    omega (arith, formed_start c.requires.0.formed c.requires.1)

pub record_place-at-requires : goal.record_place-at-requires
record_place-at-requires c =
    second_named c.requires.0 (omega (arith, c.requires.1))

pub returns : goal.returns
returns c =
    let a = c.args in
    start_called a.stage.now a.out.now c.record_place-at.result c.start.result c.start.new.rec c.start.new.out
    (omega arith) (omega arith) a.bytes.now c.requires.1 c.record_place-at.ensures.0 c.number64-plan.result c.number64-plan.ensures
    c.start.ensures
