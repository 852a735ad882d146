-- `tally::highest_of` meets its contract. The invariant: best is the highest of the views tried that enough ask for.
-- Assumes nothing.
use Prim.Native.Nat.{ℕ, ◌+◌}
use mathlib.Core.Path.{◌≡◌, sym, subst}
use lib.ListN.{length}
use Rattle.tally.proofs.Changes.{Searched, search_more, search_done, search_few}
use native.Mathlib.Omega.{arith}
use Rattle.tally.proofs.highest_of.Goals as goal

pub returns-then-views-need : goal.returns-then-views-need
returns-then-views-need c =
    let a = c.args in
    search_few a.views.now a.need a.low c.if-views-need.true

pub loop-w-preserved : goal.loop-w-preserved
loop-w-preserved c =
    let a = c.args in
    let at = c.loop-w in
    let next = search_more a.views.now a.need a.low at.w-index at.best at.invariant in
    subst (λ (b : ℕ). Searched a.views.now a.need a.low (at.w-index + 1) b) (sym c.raised-best.ensures) next

pub returns : goal.returns
returns c =
    let a = c.args in
    let at = c.loop-w in
    let all : at.w-index ≡ length a.views.now = omega arith in
    search_done a.views.now a.need a.low at.w-index at.best at.invariant c.requires.1 all
