-- `steps::Own::step_c` meets its contract: what its act does is what the step does.
-- Assumes nothing.
use Rattle.acts.specs.inside.Acts.{act_at}
use Rattle.steps.proofs.Steps.{takes}
use Rattle.steps.proofs.Own.step_c.Goals as goal

pub returns : goal.returns
unfolding act_at
returns c = takes 2 c.cast_in-wrote.ensures
