-- `safe::two_sets` meets its contract.
-- A plan that is claimed at the next view, and then another plan that is claimed at u (`pair_found`).
-- Assumes nothing.
use Prim.Native.Nat.{◌+◌}
use mathlib.Core.Path.{sym, ◌∙◌}
use Rattle.claims.specs.inside.Walk.{claimed_in}
use Rattle.safe.proofs.Searches.{is_chosen, pair_found}
use Rattle.safe.specs.Choices.{chosen}
use Rattle.safe.proofs.two_sets.Goals as goal

pub returns-then-is_some : goal.returns-then-is_some
returns-then-is_some c =
    let a = c.args in
    let next = c.find_claimed-next in
    let other = c.find_claimed in
    pair_found (λ y. claimed_in a.plans.now a.c y (a.c.u + 1)) (λ y. claimed_in a.plans.now a.c y a.c.u) (chosen next.result)
    next.ensures (chosen other.result) _ (sym (is_chosen next.result) ∙ sym c.is_some.ensures ∙ c.if-is_some.true)
    other.ensures (c.is_some-then-is_some.ensures ∙ is_chosen other.result)
