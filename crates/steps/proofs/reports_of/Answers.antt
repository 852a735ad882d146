-- `steps::reports_of` meets its contract: the three slots.
-- Assumes nothing.
use mathlib.Core.Path.{ap, ◌∙◌}
use Rattle.own.specs.inside.Own.{own_in}
use Rattle.steps.proofs.reports_of.Goals as goal

pub returns : goal.returns
returns c =
    let at = own_in c.args.part.now in
    let highest = c.slot_in-highest.ensures ∙ ap at c.slot_of_kind.ensures in
    let previous = c.slot_in-previous.ensures ∙ ap at c.slot_of_previous.ensures in
    let lock = c.slot_in-locked.ensures ∙ ap at c.slot_of_kind-2.ensures in
    λ i. record { highest = highest i; previous = previous i; lock = lock i }
