-- `vault::way_in` meets its contract: by the output's space, then by what the record is.
-- Assumes nothing.
use mathlib.Core.Path.{◌∙◌, refl, ap}
use Rattle.frame.specs.Answers.{number_in}
use Rattle.sound.specs.inside.Sound.{lent_is}
use Rattle.vault.proofs.Laws.{way_short, way_lent, lent_number}
use Rattle.vault.proofs.way_in.Goals as goal

pub returns-then-room-lt-ROOM : goal.returns-then-room-lt-ROOM
returns-then-room-lt-ROOM c =
    let rec = c.args.rec.now in
    way_short rec c.args.room c.if-room-lt-ROOM.true

pub returns : goal.returns
returns c =
    let rec = c.args.rec.now in
    ap number_in c.lent_refusal.ensures ∙ lent_number (lent_is rec) ∙ way_lent rec c.args.room c.if-room-lt-ROOM.false (lent_is rec) refl
