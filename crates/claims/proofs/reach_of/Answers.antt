-- `claims::reach_of` meets its contract.
-- Both votes are what was read in their columns.
-- Assumes nothing.
use Prim.Native.Nat.{max}
use mathlib.Core.Path.{◌∙◌}
use mathlib.Core.Bool.{cond}
use lib.Dec.{eqb}
use Rattle.claims.specs.inside.Walk.{reach_in, voted_in}
use Rattle.claims.proofs.reach_of.Goals as goal

pub returns : goal.returns
unfolding reach_in
returns c =
    let a = c.args in
    let highest = c.view_of.ensures in
    let previous = c.view_of-2.ensures in
    c.reach.ensures ∙ (λ i. max (cond (eqb (voted_in a.table.now a.r) a.p) (highest i) 0) (previous i))
