-- `for_tests::safe_plan` meets its contract.
-- Each answer's number is that of `safe_plan`: safe, not safe, or a call that makes no sense.
-- Assumes nothing.
use mathlib.Core.Bool.{true, false}
use mathlib.Core.Path.{◌≡◌, sym, ◌∙◌}
use Rattle.for_tests.specs.inside.Answers.{laid}
use Rattle.for_tests.proofs.Laws.{laid_parts, safe_said, safe_unlaid, laid_by, unlaid_by}
use Rattle.for_tests.proofs.safe_plan.Goals as goal
use Rattle.for_tests.proofs.safe_plan.Goals.{Else-not-is_laid}

pub returns-in_default : goal.returns-in_default
returns-in_default c =
    let a = c.args in
    safe_unlaid a.table.now a.n a.f a.v a.p a.three (unlaid_by a.table.now a.n a.f c.in_default.ensures.1)

pub returns-then-not-is_laid : goal.returns-then-not-is_laid
returns-then-not-is_laid c =
    let a = c.args in
    safe_unlaid a.table.now a.n a.f a.v a.p a.three (laid_by a.table.now a.n a.f c.in-Ok.ensures.1.long (sym c.if-not-is_laid.ensures))

pub safe_by-requires : goal.safe_by-requires
safe_by-requires c =
    let a = c.args in
    laid_parts a.table.now a.n a.f _ _ c.settings_for.ensures.0 c.settings_for.ensures.1 (sym c.if-not-is_laid.ensures)

-- The table is laid.
is_so : (c : Else-not-is_laid) → let a = c.args in laid a.table.now a.n a.f ≡ true
is_so c = let a = c.args in laid_by a.table.now a.n a.f c.in-Ok.ensures.1.long (sym c.if-not-is_laid.ensures)

pub returns-then-safe_by : goal.returns-then-safe_by
returns-then-safe_by c =
    let a = c.args in
    let set = c.settings_for.ensures in
    let same = c.in-Ok.ensures.1.same in
    let is : true ≡ _ = rw same at (sym c.if-safe_by.true ∙ c.safe_by.ensures) in
    safe_said a.table.now a.n a.f _ _ set.0 set.1 a.v a.p a.three true (is_so (goal.at.returns-then-safe_by c).Else-not-is_laid) is

pub returns : goal.returns
returns c =
    let a = c.args in
    let set = c.settings_for.ensures in
    let same = c.in-Ok.ensures.1.same in
    let is : false ≡ _ = rw same at (sym c.if-safe_by.false ∙ c.safe_by.ensures) in
    safe_said a.table.now a.n a.f _ _ set.0 set.1 a.v a.p a.three false (is_so (goal.at.returns c).Else-not-is_laid) is
