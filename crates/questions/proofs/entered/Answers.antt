-- `stored::entered` meets its contract: the view and the class are those of the bytes.
-- Assumes nothing.
use Rattle.contents.proofs.Sound.{size_sound}
use Rattle.questions.proofs.Laws.{entered_is}
use Rattle.questions.proofs.entered.Goals as goal

pub settings_of-set-requires : goal.settings_of-set-requires
settings_of-set-requires c = size_sound c.args.rec.now c.requires

pub view_of-requires : goal.view_of-requires
view_of-requires c = size_sound c.args.rec.now c.requires

pub returns : goal.returns
returns c =
    entered_is c.args.rec.now c.settings_of-set.result _
    c.settings_of-set.ensures c.view_of.ensures c.timer_millis.ensures
