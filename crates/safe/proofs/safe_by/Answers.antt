-- `safe::safe_by` meets its contract.
-- Where every plan is safe so is p; where no view can serve a plan none is (`none_safe`); else the search tells.
-- Assumes nothing.
use mathlib.Core.Bool.{false}
use mathlib.Core.Path.{sym, ◌∙◌}
use Rattle.safe.proofs.Searches.{safe_every, lowest_at, none_safe, by_rule, one_same}
use Rattle.safe.proofs.safe_by.Goals as goal

pub returns-then-every_safe : goal.returns-then-every_safe
returns-then-every_safe c = safe_every _ _ _ _ _ (sym c.every_safe.ensures ∙ c.if-every_safe.true)

pub begin-s-requires : goal.begin-s-requires
begin-s-requires c =
    let pre = c.requires in
    (pre.0, pre.1, lowest_at _ _ _ _ (sym c.every_safe.ensures ∙ c.if-every_safe.false) c.lowest_view-u.ensures c.if-u-v.true)

pub returns-then-u-v : goal.returns-then-u-v
returns-then-u-v c =
    by_rule _ _ _ _ _ false _ c.if-three.false (one_same c.begin-s.ensures _ _ c.safe_one.ensures)

pub returns : goal.returns
returns c =
    sym (none_safe _ _ _ _ _ _ (sym c.every_safe.ensures ∙ c.if-every_safe.false) c.lowest_view-u.ensures c.if-u-v.false)
