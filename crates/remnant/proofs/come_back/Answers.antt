-- `remnant::come_back` meets its contract: 'a record with that row and no others, and a timer entry'.
-- Assumes nothing.
use Rattle.remnant.proofs.Laws.{entry_room, back_made}
use Rattle.remnant.proofs.come_back.Goals as goal

pub put_entry-requires : goal.put_entry-requires
put_entry-requires c =
    entry_room _ c.args.out.now c.requires.2

pub returns : goal.returns
returns c =
    let a = c.args in
    back_made a.remnant.now c.rebuild.new.rec a.out.now c.put_entry.new.out c.put_entry.result c.requires.1.is
    c.view_in-view.ensures c.timer_millis-millis.ensures c.rebuild.ensures c.put_entry.ensures
