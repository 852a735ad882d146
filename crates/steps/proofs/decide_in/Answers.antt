-- `steps::decide_in` meets its contract: the decision goes into its slot.
-- Assumes nothing.
use Rattle.steps.proofs.Steps.{does_decide}
use Rattle.steps.proofs.decide_in.Goals as goal

pub returns : goal.returns
returns c = does_decide c.view_in-view.ensures c.present.ensures c.put_in.ensures.changes
