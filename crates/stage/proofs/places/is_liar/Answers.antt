-- `stage::places::is_liar` meets its contract: '03 declare a vault lying'. The byte behind the places is one more than the liar's number.
-- Assumes nothing.
use mathlib.Core.Path.{refl}
use native.Mathlib.Numerals.{add-one}
use Rattle.stage.proofs.Part.{liar_byte}
use Rattle.stage.proofs.places.is_liar.Goals as goal

pub returns : goal.returns
returns c = rw (liar_byte c.args.stage.now, add-one, c.from.ensures, c.from-2.ensures) refl
