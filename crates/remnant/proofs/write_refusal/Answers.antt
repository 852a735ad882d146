-- `remnant::write_refusal` meets its contract: by the space, then by what the record is.
-- Assumes nothing.
use mathlib.Core.Path.{◌∙◌, refl, ap}
use Rattle.frame.specs.Answers.{number_in}
use Rattle.sound.specs.inside.Sound.{lent_is}
use Rattle.remnant.proofs.Laws.{write_short, write_lent, lent_number}
use Rattle.remnant.proofs.write_refusal.Goals as goal

pub returns-then-room-lt-SIZE : goal.returns-then-room-lt-SIZE
returns-then-room-lt-SIZE c =
    let a = c.args in
    write_short a.rec.now a.room c.if-room-lt-SIZE.true

pub returns : goal.returns
returns c =
    let a = c.args in
    ap number_in c.lent_refusal.ensures ∙ lent_number (lent_is a.rec.now) ∙ write_lent a.rec.now a.room c.if-room-lt-SIZE.false (lent_is a.rec.now) refl
