-- `for_tests::choose_plan` meets its contract.
-- Each answer's number and output are those of `choose_plan`: the choice with its plan or without, or a call that makes no sense.
-- Assumes nothing.
use mathlib.Core.Bool.{true}
use mathlib.Core.Path.{◌≡◌, sym, ◌∙◌, ap}
use native.Mathlib.Omega.{arith}
use Rattle.safe.specs.Choices.{chosen}
use Rattle.for_tests.specs.inside.Answers.{laid}
use Rattle.for_tests.proofs.Laws.{laid_parts, choose_said, choose_full, choose_unlaid, laid_by, unlaid_by}
use Rattle.for_tests.proofs.choose_plan.Goals as goal
use Rattle.for_tests.proofs.choose_plan.Goals.{Else-not-is_laid}

pub returns-in_default : goal.returns-in_default
returns-in_default c =
    let a = c.args in
    choose_unlaid a.table.now a.n a.f a.v a.start a.out.now (unlaid_by a.table.now a.n a.f c.in_default.ensures.1)

pub returns-then-not-is_laid : goal.returns-then-not-is_laid
returns-then-not-is_laid c =
    let a = c.args in
    choose_unlaid a.table.now a.n a.f a.v a.start a.out.now (laid_by a.table.now a.n a.f c.in-Ok.ensures.1.long (sym c.if-not-is_laid.ensures))

pub returns-then-out-eq0 : goal.returns-then-out-eq0
returns-then-out-eq0 c =
    let a = c.args in
    choose_full a.table.now a.n a.f a.v a.start a.out.now (omega arith)

pub choose-requires : goal.choose-requires
choose-requires c =
    let a = c.args in
    laid_parts a.table.now a.n a.f _ _ c.settings_for.ensures.0 c.settings_for.ensures.1 (sym c.if-not-is_laid.ensures)

-- The table is laid.
is_so : (c : Else-not-is_laid) → let a = c.args in laid a.table.now a.n a.f ≡ true
is_so c = let a = c.args in laid_by a.table.now a.n a.f c.in-Ok.ensures.1.long (sym c.if-not-is_laid.ensures)

pub returns-in_default-choose : goal.returns-in_default-choose
returns-in_default-choose c =
    let a = c.args in
    let set = c.settings_for.ensures in
    let same = c.in-Ok.ensures.1.same in
    let is = rw same at c.in_default-choose.ensures in
    choose_said a.table.now a.n a.f _ _ set.0 set.1 a.v a.start _ a.out.now (is_so (goal.at.returns-in_default-choose c).Else-not-is_laid) (omega arith) is

pub returns : goal.returns
returns c =
    let a = c.args in
    let set = c.settings_for.ensures in
    let same = c.in-Ok.ensures.1.same in
    let is = rw same at (sym (ap chosen c.in-Some.is) ∙ c.choose.ensures) in
    choose_said a.table.now a.n a.f _ _ set.0 set.1 a.v a.start _ a.out.now (is_so (goal.at.returns c).Else-not-is_laid) (omega arith) is
