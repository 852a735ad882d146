-- `safe::find_claimed` meets its contract.
-- Neither the plan tried last nor the first r of the row pass; where none of those does that come in up to the view, none is claimed (`none_found`).
-- Assumes nothing.
use Prim.Native.Nat.{◌+◌}
use mathlib.Core.Path.{sym, ◌∙◌, ap}
use native.Mathlib.Omega.{arith}
use Rattle.claims.specs.declared.Coming.{Coming}
use Rattle.safe.proofs.Searches.{served_at, found_first, found_other, none_found}
use Rattle.safe.specs.Choices.{chosen}
use Rattle.safe.proofs.find_claimed.Goals as goal

pub returns-then-served : goal.returns-then-served
returns-then-served c =
    let a = c.args in
    let pre = c.requires in
    let first = c.first_plan-first in
    found_first a.plans.now a.c a.w (chosen a.except) (λ x. served_at a.plans.now a.c a.w x pre.0.below pre.1 pre.2 pre.3)
    first.result first.ensures (sym c.served.ensures ∙ c.if-served.true)

pub returns-then-other_claimed : goal.returns-then-other_claimed
returns-then-other_claimed c =
    let a = c.args in
    let pre = c.requires in
    let first = c.first_plan-first in
    found_other a.plans.now a.c a.w (chosen a.except) (λ x. served_at a.plans.now a.c a.w x pre.0.below pre.1 pre.2 pre.3)
    first.result first.ensures _ (sym c.other_claimed.ensures ∙ c.if-other_claimed.true)

pub returns : goal.returns
returns c =
    let a = c.args in
    let pre = c.requires in
    let first = c.first_plan-first in
    let never = sym c.served.ensures ∙ c.if-served.false in
    let end = ap (λ (t : Coming). t.from + t.some) c.coming_at-coming.ensures in
    none_found a.plans.now a.c a.w (chosen a.except) (λ x. served_at a.plans.now a.c a.w x pre.0.below pre.1 pre.2 pre.3)
    first.result first.ensures pre.0.claims pre.0.below pre.2 pre.3 c.loop-r.r (omega (arith, end)) never c.loop-r.invariant.1
