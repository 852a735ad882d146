-- `stage::places::writer_of` meets its contract: '01 deliver', over the link from the frame's writer. It is the second byte of the place.
-- Assumes nothing.
use mathlib.Core.Path.{sym}
use Rattle.stage.proofs.Waiting.{writer_byte}
use Rattle.stage.proofs.places.writer_of.Goals as goal

pub returns : goal.returns
returns c = rw c.place_of.ensures.0 (sym (writer_byte c.args.stage.now c.args.k))
