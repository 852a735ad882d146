-- `stage::places::declare` meets its contract: '03 declare a vault lying'. One byte is stored.
-- Assumes nothing.
use native.Mathlib.Omega.{arith}
use Rattle.stage.proofs.Part.{liar_stored}
use Rattle.stage.proofs.places.declare.Goals as goal

pub returns-clause-with_liar : goal.returns-clause-with_liar
returns-clause-with_liar c = liar_stored c.args.stage.now c.args.v (omega arith)
