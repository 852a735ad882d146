-- `stage::places::is_free` meets its contract: 'naming a frame not waiting' asks for it. The first byte of a place decides.
-- Assumes nothing.
use mathlib.Core.Path.{refl}
use Rattle.stage.proofs.Waiting.{free_byte}
use Rattle.stage.proofs.places.is_free.Goals as goal

pub returns : goal.returns
returns c = rw (c.place_of.ensures.0, free_byte c.args.stage.now c.args.k) refl
