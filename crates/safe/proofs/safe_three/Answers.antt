-- `safe::safe_three` meets its contract.
-- Rule 3 accepts what Rule 1 does (`three_one`), and the two-set clause at the same view (`three_first`, `three_next`).
-- Assumes nothing.
use mathlib.Core.Path.{◌≡◌, sym, ◌∙◌}
use mathlib.Core.Bool.{false}
use Rattle.claims.specs.Table.{reports_in_table}
use Rattle.safe.specs.inside.Searches.{safe_in}
use Rattle.safe.proofs.Searches.{falling, pair_two, three_one, three_first, three_next, three_last}
use Rattle.safe.proofs.safe_three.Goals as goal
use Rattle.safe.proofs.safe_three.Goals.{Else-safe_one}

pub returns-then-safe_one : goal.returns-then-safe_one
returns-then-safe_one c =
    let a = c.args in
    let rs = reports_in_table a.table.now in
    let pre = c.requires in
    three_one rs a.c a.plans.now pre.1 pre.2 a.p (sym c.safe_one.ensures ∙ c.if-safe_one.true)

pub two_sets-requires : goal.two_sets-requires
two_sets-requires c =
    let a = c.args in
    let rs = reports_in_table a.table.now in
    let pre = c.requires in
    (pre.1.laid, falling rs a.c a.plans.now pre.1, c.if-c.true)

-- Rule 1 does not accept the plan.
never : (c : Else-safe_one) → let a = c.args in safe_in a.plans.now a.c a.p ≡ false
never c = sym c.safe_one.ensures ∙ c.if-safe_one.false

pub returns-then-allowed : goal.returns-then-allowed
returns-then-allowed c =
    let a = c.args in
    let pre = c.requires in
    let rs = reports_in_table a.table.now in
    let two = pair_two rs a.c a.plans.now pre.1 _ c.if-c.true c.two_sets.ensures in
    three_first rs a.c a.plans.now pre.1 pre.2 a.p (never (goal.at.returns-then-allowed c).Else-safe_one) _ (sym c.allowed.ensures ∙ c.if-allowed.true) two

pub returns-then-c : goal.returns-then-c
returns-then-c c =
    let a = c.args in
    let pre = c.requires in
    let block = sym c.allowed.ensures ∙ c.if-allowed.false in
    three_next (reports_in_table a.table.now) a.c a.plans.now pre.1 pre.2 a.p (never (goal.at.returns-then-c c).Else-safe_one) _ block
    c.if-c.true c.two_sets_after.ensures

pub returns : goal.returns
returns c =
    let a = c.args in
    let pre = c.requires in
    three_last (reports_in_table a.table.now) a.c a.plans.now pre.1 pre.2 a.p (never (goal.at.returns c).Else-safe_one) c.if-c.false
