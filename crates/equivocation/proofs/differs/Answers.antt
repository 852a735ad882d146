-- `equivocation::differs` meets its contract. The invariant: no record passed differs from an earlier one.
-- Assumes nothing.
use mathlib.Core.Path.{sym}
use native.Mathlib.Omega.{arith}
use Rattle.frame.proofs.Laws.{told}
use Rattle.rules.proofs.Bools.{any_at}
use Rattle.equivocation.specs.inside.Records.{clashes_before, clashing}
use Rattle.equivocation.proofs.Laws.{any_more, any_less, none_before}
use Rattle.equivocation.proofs.differs.Goals as goal

pub loop-i-init : goal.loop-i-init
loop-i-init c = (omega arith, none_before _ _)

pub differs_before-requires : goal.differs_before-requires
differs_before-requires c =
    let given = c.requires in
    (omega (arith, given.0, c.loop-i-test.true), given.1, c.loop-i.invariant.0)

pub returns-then-differs_before : goal.returns-then-differs_before
unfolding clashing
returns-then-differs_before c =
    let a = c.args in
    sym (any_at (clashes_before a.records.now a.slot) a.count c.loop-i.i c.loop-i-test.true
    (told c.differs_before.ensures c.if-differs_before.true))

pub loop-i-preserved : goal.loop-i-preserved
loop-i-preserved c =
    let a = c.args in
    let tested = told c.differs_before.ensures c.if-differs_before.false in
    (omega arith, any_more (clashes_before a.records.now a.slot) c.loop-i.i c.loop-i.invariant.1 tested)

pub returns : goal.returns
unfolding clashing
returns c =
    let a = c.args in
    sym (any_less (clashes_before a.records.now a.slot) a.count c.loop-i.i c.loop-i-test.false c.loop-i.invariant.1)
