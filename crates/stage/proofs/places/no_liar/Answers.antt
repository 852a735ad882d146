-- `stage::places::no_liar` meets its contract: 'declaring a second liar' asks for a first. The byte behind the places is the liar's.
-- Assumes nothing.
use mathlib.Core.Path.{refl}
use Rattle.stage.proofs.Part.{liar_byte}
use Rattle.stage.proofs.places.no_liar.Goals as goal

pub returns : goal.returns
returns c = rw (liar_byte c.args.stage.now) refl
