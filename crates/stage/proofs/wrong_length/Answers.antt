-- `stage::wrong_length` meets its contract: 'a wrong length 10'. Each kind asks for its length (`Refusals`).
-- Assumes nothing.
use mathlib.Core.Path.{refl}
use native.Mathlib.Omega.{arith}
use borrow.Author.Tests.{lt-ltb}
use Rattle.frame.proofs.Laws.{under}
use Rattle.stage.proofs.Refusals.{start_length, deliver_length, make_up_length, name_length, above_most}
use Rattle.stage.proofs.wrong_length.Goals as goal

pub returns-in-0 : goal.returns-in-0
returns-in-0 c = rw (start_length c.args.kind c.args.size c.in-0.is) refl

pub returns-in-1 : goal.returns-in-1
returns-in-1 c = rw (deliver_length c.args.kind c.args.size c.in-1.is) refl

pub returns-then-size-lt-NAME_SIZE : goal.returns-then-size-lt-NAME_SIZE
returns-then-size-lt-NAME_SIZE c =
    let a = c.args in
    let low = c.if-size-lt-NAME_SIZE.true in
    rw (make_up_length a.kind a.size c.in-4.is, under 2 47 a.size low, lt-ltb a.size 2 low) refl

pub returns-else-size-lt-NAME_SIZE : goal.returns-else-size-lt-NAME_SIZE
returns-else-size-lt-NAME_SIZE c =
    let a = c.args in
    rw (make_up_length a.kind a.size c.in-4.is) (above_most a.size c.if-size-lt-NAME_SIZE.false)

pub returns-in_default : goal.returns-in_default
returns-in_default c =
    let a = c.args in
    rw (name_length a.kind a.size (λ e. omega arith) (λ e. omega arith) (λ e. omega arith)) refl
