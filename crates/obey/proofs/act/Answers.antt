-- `obey::act` meets its contract: a line that is not refused, by its kind.
-- Assumes nothing.
use native.Mathlib.Omega.{arith}
use Rattle.stage.proofs.Refusals.{accepted_formed, accepted_named}
use Rattle.stage.proofs.Called.{second_named}
use Rattle.obey.proofs.Answers.{accepted_two, drop_acted, declare_acted, made_up_may, made_up_acted, other_acted}
use Rattle.obey.proofs.act.Goals as goal

pub bounds-bytes-0 : goal.bounds-bytes-0
bounds-bytes-0 c =
    omega (arith, accepted_two c.args.stage.now c.args.bytes.now c.requires.0)

pub bounds-bytes-1 : goal.bounds-bytes-1
bounds-bytes-1 c =
    omega (arith, accepted_two c.args.stage.now c.args.bytes.now c.requires.0)

pub bounds-bytes-1-in-3 : goal.bounds-bytes-1-in-3
bounds-bytes-1-in-3 c =
    omega (arith, accepted_two c.args.stage.now c.args.bytes.now c.requires.0)

pub declare-requires : goal.declare-requires
declare-requires c =
    let named = accepted_named c.args.stage.now c.args.bytes.now c.requires.0 (omega (arith, c.in-3.is)) in
    second_named named (omega (arith, c.in-3.is))

pub bounds-bytes-1-in-4 : goal.bounds-bytes-1-in-4
bounds-bytes-1-in-4 c =
    omega (arith, accepted_two c.args.stage.now c.args.bytes.now c.requires.0)

pub slice_bounds-send-count : goal.slice_bounds-send-count
slice_bounds-send-count c =
    omega (arith, accepted_two c.args.stage.now c.args.bytes.now c.requires.0)

pub slice_bounds-send-start : goal.slice_bounds-send-start
slice_bounds-send-start c =
    omega (arith, accepted_two c.args.stage.now c.args.bytes.now c.requires.0)

pub send-requires : goal.send-requires
send-requires c =
    let a = c.args in
    let formed = accepted_formed a.stage.now a.bytes.now c.requires.0 in
    let may = made_up_may a.stage.now a.bytes.now a.page.now a.at formed c.in-4.is in
    (may, omega (arith, c.requires.1))

pub answer-requires : goal.answer-requires
answer-requires c =
    (accepted_named c.args.stage.now c.args.bytes.now c.requires.0 (omega arith), c.requires.1)

pub returns-in-2 : goal.returns-in-2
returns-in-2 c =
    let a = c.args in
    let both = drop_acted a.stage.now a.bytes.now a.page.now a.at c.in-2.is c.free.new.stage c.free.ensures.with_free in
    record { done_at = both.0; upper_bound = both.1 }

pub returns-in-3 : goal.returns-in-3
returns-in-3 c =
    let a = c.args in
    let both = declare_acted a.stage.now a.bytes.now a.page.now a.at c.in-3.is c.declare.new.stage c.declare.ensures.with_liar in
    record { done_at = both.0; upper_bound = both.1 }

pub returns-in-4 : goal.returns-in-4
returns-in-4 c =
    let a = c.args in
    let formed = accepted_formed a.stage.now a.bytes.now c.requires.0 in
    let both = made_up_acted a.stage.now a.bytes.now a.page.now a.at formed c.in-4.is c.send.new.stage c.send.new.page
    c.send.result c.send.ensures in
    record { done_at = both.0; upper_bound = both.1 }

pub returns-in_default : goal.returns-in_default
returns-in_default c =
    let a = c.args in
    let e = c.answer.ensures in
    let both = other_acted a.stage.now a.bytes.now a.page.now a.at (omega arith) (omega arith) (omega arith) c.answer.new.stage c.answer.new.page
    c.answer.result (e.done_at, e.upper_bound) in
    record { done_at = both.0; upper_bound = both.1 }
