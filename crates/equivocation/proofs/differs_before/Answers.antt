-- `equivocation::differs_before` meets its contract: 'two of the records' are any two. The invariant: none of the records between the one that is
-- compared and record i differs from it; the measure is how many are left.
-- Assumes nothing.
use Prim.Native.Nat.{◌-◌, ◌<◌}
use mathlib.Core.Path.{◌≡◌, sym, ◌∙◌}
use native.Mathlib.Omega.{arith}
use Rattle.frame.specs.declared.Report.{Report}
use Rattle.frame.proofs.Laws.{told}
use Rattle.rules.proofs.Bools.{any_at}
use Rattle.equivocation.specs.inside.Records.{slots_differ, clash}
use Rattle.equivocation.proofs.Laws.{none_yet, none_more, none_all}
use Rattle.equivocation.proofs.differs_before.Goals as goal

-- Two slots that are known.
both : {x x' y y' : Report} → x ≡ x' → y ≡ y' → slots_differ x y ≡ slots_differ x' y'
both p q i = slots_differ (p i) (q i)

pub slot_in-vote-requires : goal.slot_in-vote-requires
slot_in-vote-requires c = (c.requires.0, c.requires.1)

pub loop-j-init : goal.loop-j-init
loop-j-init c = (omega arith, none_yet _ _)

pub slot_in-requires : goal.slot_in-requires
slot_in-requires c =
    let given = c.requires in
    (omega (arith, given.0, c.loop-j-test.true, c.loop-j.invariant.0), given.1)

pub returns-then-differ : goal.returns-then-differ
returns-then-differ c =
    let a = c.args in
    let s = a.records.now in
    let tested = c.differ.ensures ∙ both c.slot_in-vote.ensures c.slot_in.ensures in
    let low : c.loop-j.j - 1 < a.i = omega (arith, c.loop-j.invariant.0, c.loop-j-test.true) in
    sym (any_at (clash s a.slot a.i) a.i (c.loop-j.j - 1) low (told tested c.if-differ.true))

pub loop-j-smaller : goal.loop-j-smaller
loop-j-smaller c = omega arith

pub loop-j-preserved : goal.loop-j-preserved
loop-j-preserved c =
    let a = c.args in
    let s = a.records.now in
    let tested = c.differ.ensures ∙ both c.slot_in-vote.ensures c.slot_in.ensures in
    (omega (arith, c.loop-j.invariant.0), none_more (clash s a.slot a.i) c.loop-j.j a.i c.loop-j.invariant.1 (told tested c.if-differ.false))

pub returns : goal.returns
returns c =
    let h = c.loop-j in
    let a = c.args in
    let all : h.j ≡ 0 = omega (arith, c.loop-j-test.false) in
    sym (none_all (clash a.records.now a.slot a.i) h.j a.i all h.invariant.1)
