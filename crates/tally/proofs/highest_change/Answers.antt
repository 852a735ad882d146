-- `tally::highest_change` meets its contract: the views gathered above low are there as often as they are asked for.
-- Assumes nothing.
use Prim.Native.Nat.{ℕ, ◌-◌, ◌≤◌}
use mathlib.Core.Path.{◌≡◌}
use mathlib.Core.List.{List}
use lib.ListN.{length}
use Rattle.tally.specs.inside.Changes.{change_in}
use Rattle.tally.proofs.Changes.{highest_of_all}
use native.Mathlib.Omega.{arith}
use Rattle.tally.proofs.highest_change.Goals as goal

pub returns : goal.returns
returns c =
    let a = c.args in
    let g = c.views_above-count in
    let views : List ℕ = g.new.views in
    let fits : g.result ≤ length views = omega (arith, g.ensures.0.most, g.ensures.1) in
    let all : g.result - 0 ≡ g.result = omega arith in
    highest_of_all (change_in a.shared.now) a.n a.need a.low g.result (g.result - 0) views g.ensures.0 fits all
    c.highest_of.result c.highest_of.ensures
