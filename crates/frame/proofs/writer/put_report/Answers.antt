-- `entry::put_report` meets its contract. 'A report is a mark (1 present, 0 absent), a view (4 bytes) and a plan (8)' (01, Frames).
-- Three fields put one after the other are the three spelt end to end.
-- Assumes nothing.
use Rattle.frame.specs.Format.{report_fields}
use Rattle.wire.proofs.Output.{puts_spell}
use Rattle.frame.proofs.writer.put_report.Goals as goal

pub returns : goal.returns
returns c =
    let a = c.args in
    rw (c.put-3.ensures, c.put-2.ensures, c.put.ensures)
    (puts_spell (report_fields a.r) a.out.now a.at
    c.requires)
