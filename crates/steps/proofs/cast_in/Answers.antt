-- `steps::cast_in` meets its contract: the kept vote moves where it must, then the vote goes into its own slot.
-- Assumes nothing.
use mathlib.Core.Path.{ap}
use native.Mathlib.Numerals.{add-one}
use Rattle.settings.specs.declared.Settings.{Settings}
use Rattle.steps.proofs.Steps.{does_cast}
use Rattle.steps.proofs.cast_in.Goals as goal

pub returns : goal.returns
returns c =
    let id = ap (λ (x : Settings). x.id) c.settings_in-set.ensures in
    does_cast c.requires (add-one c.args.k) id c.view_in-view.ensures c.present.ensures
    c.shift.ensures c.put_in.ensures.changes
