-- `entry::put_reports` meets its contract. 'three reports' (01, Frames).
-- Three reports put one after the other are the three spelt end to end.
-- Assumes nothing.
use Prim.Native.Nat.{◌+◌, ◌≤◌}
use mathlib.Core.Path.{◌∙◌}
use mathlib.Core.List.{◌++◌}
use lib.ListN.{length}
use native.Mathlib.Omega.{arith}
use Rattle.frame.specs.Format.{report_fields}
use Rattle.wire.specs.Fields.{spell}
use Rattle.wire.specs.Placed.{placed}
use Rattle.wire.proofs.Laws.{length_spell}
use Rattle.wire.proofs.Output.{length_placed, placed_spell}
use Rattle.frame.proofs.writer.put_reports.Goals as goal

pub returns : goal.returns
returns c =
    let a = c.args in
    let o = a.out.now in
    let h = report_fields a.r.highest in
    let p = report_fields a.r.previous in
    let l = report_fields a.r.lock in
    let room : a.at + 13 ≤ length (placed o a.at (spell h)) = rw (length_placed o a.at (spell h) (rw (length_spell h) (omega arith))) (omega arith) in
    rw (c.put_report-3.ensures, c.put_report-2.ensures, c.put_report.ensures)
    (placed_spell p l (placed o a.at (spell h)) (a.at + 13) room ∙ placed_spell h (p ++ l) o a.at (omega arith))
