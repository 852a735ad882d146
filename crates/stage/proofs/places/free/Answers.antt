-- `stage::places::free` meets its contract: 'a dropped one frees its number'. One byte is stored.
-- Assumes nothing.
use native.Mathlib.Omega.{arith}
use Rattle.stage.proofs.Waiting.{free_stored}
use Rattle.stage.proofs.places.free.Goals as goal

pub returns-clause-with_free : goal.returns-clause-with_free
returns-clause-with_free c = rw c.place_of.ensures.0 (free_stored c.args.stage.now c.args.k (omega arith))
