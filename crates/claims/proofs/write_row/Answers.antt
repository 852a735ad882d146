-- `claims::write_row` meets its contract.
-- Each list is written behind the one before, which stays (`in_order`).
-- Assumes nothing.
use native.Mathlib.Omega.{arith}
use Rattle.claims.proofs.Walk.{listed_most, two_most, in_order}
use Rattle.claims.proofs.write_row.Goals as goal

pub list_at-only-requires : goal.list_at-only-requires
list_at-only-requires c =
    let five = c.list_at-both.ensures.listed in
    let pre = c.requires in
    (pre, omega (arith, pre, listed_most _ _ _ _ _ _ _ five.1))

pub overflow_add-both : goal.overflow_add-both
overflow_add-both c =
    let pre = c.requires in
    omega (arith, pre, two_most c.list_at-both.ensures.listed.1 c.list_at-only.ensures.listed.1)

pub list_at-here-requires : goal.list_at-here-requires
list_at-here-requires c =
    let four = c.list_at-only.ensures.listed in
    let pre = c.requires in
    (pre, omega (arith, pre, two_most c.list_at-both.ensures.listed.1 four.1))

pub returns-clause-in_order : goal.returns-clause-in_order
returns-clause-in_order c =
    let two = c.list_at-here.ensures.listed in
    let four = c.list_at-only.ensures.listed in
    in_order c.list_at-both.ensures.listed.1 four.0 four.1 two.0 two.1
