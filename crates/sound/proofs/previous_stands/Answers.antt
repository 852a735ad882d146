-- `sound::previous_stands` meets its contract: the form decides, or the previous vote against its highest.
-- Assumes nothing.
use Rattle.frame.proofs.Laws.{told}
use Rattle.sound.specs.inside.Sound.{stands}
use Rattle.sound.proofs.previous_stands.Goals as goal

pub returns-then-well_formed : goal.returns-then-well_formed
unfolding stands
returns-then-well_formed c = rw (told c.well_formed-2.ensures c.if-well_formed.true) c.follows.ensures

pub returns-else-well_formed : goal.returns-else-well_formed
unfolding stands
returns-else-well_formed c = rw (told c.well_formed-2.ensures c.if-well_formed.false) c.if-well_formed.false
