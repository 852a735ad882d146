-- `entry::put_body` meets its contract. The column 'Rest' of the table of frames (01, Frames).
-- A plan is one field, an empty body leaves the output as it was, reports are put by the call.
-- Assumes nothing.
use mathlib.Core.Path.{refl, sym, ◌∙◌}
use mathlib.Core.List.{append-nil}
use native.Mathlib.Omega.{arith}
use Rattle.wire.proofs.Output.{placed_none}
use Rattle.frame.proofs.writer.put_body.Goals as goal

pub put-requires : goal.put-requires
put-requires c =
    let room = rw c.in-Plan.is at c.requires in
    omega arith

pub put_reports-requires : goal.put_reports-requires
put_reports-requires c =
    let room = rw c.in-Told.is at c.requires in
    omega arith

pub returns-in-Plan : goal.returns-in-Plan
returns-in-Plan c = rw c.in-Plan.is (refl, c.put.ensures ∙ simp append-nil)

pub returns-in-Empty : goal.returns-in-Empty
returns-in-Empty c = rw c.in-Empty.is (refl, sym (placed_none c.args.out.now 6))

pub returns-in-Told : goal.returns-in-Told
returns-in-Told c = rw c.in-Told.is (refl, c.put_reports.ensures)
