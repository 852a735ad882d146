-- `safe::smallest_in` meets its contract.
-- The smallest of the first r plans that pass, which trying the last plan again does not change; `smallest_step` tries one more.
-- Assumes nothing.
use Prim.Native.Nat.{ℕ, ◌+◌}
use mathlib.Core.Bool.{Bool}
use mathlib.Core.Path.{ap}
use lib.ListN.{get_or}
use Rattle.rules.specs.inside.Counts.{smaller}
use Rattle.safe.proofs.Searches.{smallest_start, smallest_step, smaller_twice, tried_fits}
use Rattle.safe.specs.Choices.{chosen}
use Rattle.safe.specs.inside.Searches.{passes_in, tried_at}
use Rattle.safe.proofs.smallest_in.Goals as goal

pub loop-r-init : goal.loop-r-init
loop-r-init c =
    let a = c.args in
    let pre = c.requires in
    let at = c.tried_at-at in
    let count = c.tried_count-count in
    let (low, few) = tried_fits a.c a.plans.now a.locked at.result count.result pre.0 at.ensures count.ensures in (
      smallest_start (chosen a.best) (passes_in a.plans.now a.c a.locked) (λ i. get_or a.plans.now (tried_at a.locked + i) 0),
      ap (λ (b : Bool). smaller b a.start (chosen a.best)) pre.1,
      low,
      few,
    )

pub loop-r-preserved : goal.loop-r-preserved
loop-r-preserved c =
    let a = c.args in
    let at = c.loop-r in
    let next = c.smaller_passing-found in
    let row = c.tried_at-at in
    let x = get_or a.plans.now (row.result + at.r) 0 in
    let is = ap (λ (o : ℕ). get_or a.plans.now (o + at.r) 0) row.ensures in (
      smallest_step (chosen a.best) (passes_in a.plans.now a.c a.locked) (λ i. get_or a.plans.now (tried_at a.locked + i) 0) at.r x
          (chosen at.found) (chosen next.result) is next.ensures at.invariant.0,
      smaller_twice x (passes_in a.plans.now a.c a.locked x) (chosen at.found) (chosen next.result) next.ensures,
      at.invariant.2,
      at.invariant.3,
    )
