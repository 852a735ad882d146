-- `steps::ask_in` meets its contract: the view-change goes into its own slot.
-- Assumes nothing.
use mathlib.Core.Path.{ap}
use Rattle.settings.specs.declared.Settings.{Settings}
use Rattle.steps.proofs.Steps.{does_ask}
use Rattle.steps.proofs.ask_in.Goals as goal

pub returns : goal.returns
returns c =
    let id = ap (λ (x : Settings). x.id) c.settings_in-set.ensures in
    does_ask id c.change_frame-f.ensures c.present.ensures c.put_in.ensures.changes
