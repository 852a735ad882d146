-- `lines::put_line` meets its contract: the digits of the bytes, and the line's end behind them. 'It prints one output entry a line'.
-- Assumes nothing.
use native.Mathlib.Omega.{arith}
use borrow.Author.Rules.{rules}
use Rattle.lines.proofs.Digits.{length_digits_of, line_ended}
use Rattle.lines.proofs.put_line.Goals as goal

pub bounds-page-to : goal.bounds-page-to
bounds-page-to c =
    let p = c.put_digits-to in
    omega (arith, p.ensures.ends, length_digits_of c.args.s.now)

pub overflow_add-result : goal.overflow_add-result
overflow_add-result c =
    let ends = c.put_digits-to.ensures.ends in
    let long = length_digits_of c.args.s.now in
    search rules

pub returns : goal.returns
returns c =
    let a = c.args in
    let p = c.put_digits-to in
    line_ended a.s.now a.page.now a.at p.new.page p.result (omega arith)
    (omega (arith, p.ensures.ends, length_digits_of a.s.now)) p.ensures
