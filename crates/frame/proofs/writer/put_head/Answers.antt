-- `entry::put_head` meets its contract. 'Byte 0 is the kind, byte 1 the sender, bytes 2 to 5 the view' (01, Frames).
-- Three fields put one after the other are the three spelt end to end.
-- Assumes nothing.
use Rattle.frame.specs.Format.{head_fields}
use Rattle.wire.proofs.Output.{puts_spell}
use Rattle.frame.proofs.writer.put_head.Goals as goal

pub returns : goal.returns
returns c =
    let a = c.args in
    rw (c.put-3.ensures, c.put-2.ensures, c.put.ensures)
    (puts_spell (head_fields a.f) a.out.now 0
    c.requires)
