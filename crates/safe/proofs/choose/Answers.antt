-- `safe::choose` meets its contract.
-- Step C: the starting plan where it is safe, else the smallest safe plan (`choice_same`); where no view can serve a plan there is none.
-- Assumes nothing.
use mathlib.Core.Bool.{true, false}
use mathlib.Core.Path.{sym, ◌∙◌}
use Rattle.rules.specs.Rules.{rule1}
use Rattle.safe.proofs.Searches.{safe_every, lowest_at, none_safe, choice_start, choice_none, one_same, start_fails, choice_same}
use Rattle.safe.proofs.choose.Goals as goal

pub returns-then-every_safe : goal.returns-then-every_safe
returns-then-every_safe c = choice_start _ _ _ _ (safe_every _ _ _ rule1 _ (sym c.every_safe.ensures ∙ c.if-every_safe.true))

pub begin-s-requires : goal.begin-s-requires
begin-s-requires c =
    let pre = c.requires in
    (pre.0, pre.1, lowest_at _ _ _ _ (sym c.every_safe.ensures ∙ c.if-every_safe.false) c.lowest_view-u.ensures c.if-u-v.true)

pub returns-then-safe_one : goal.returns-then-safe_one
returns-then-safe_one c =
    let b = c.begin-s.ensures in
    choice_start _ _ _ _ (one_same b _ true (sym c.if-safe_one.true ∙ c.safe_one.ensures))

pub smallest_safe-requires : goal.smallest_safe-requires
smallest_safe-requires c =
    let b = c.begin-s.ensures in
    let never = sym c.safe_one.ensures ∙ c.if-safe_one.false in
    (b.ready.laid, start_fails b _ never true, start_fails b _ never false)

pub returns-then-u-v : goal.returns-then-u-v
returns-then-u-v c =
    let b = c.begin-s.ensures in
    choice_same b _ (sym c.safe_one.ensures ∙ c.if-safe_one.false) _ c.smallest_safe.ensures

pub returns : goal.returns
returns c =
    let locked = sym c.every_safe.ensures ∙ c.if-every_safe.false in
    choice_none _ _ _ _ (λ x. none_safe _ _ _ _ _ _ locked c.lowest_view-u.ensures c.if-u-v.false)
