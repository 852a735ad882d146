-- `own::own_slot` meets its contract: a frame's slot, a report's, or one behind the reports.
-- Assumes nothing.
use mathlib.Core.Path.{sym}
use native.Mathlib.Omega.{arith}
use Rattle.own.proofs.Slots.{own_frame_at, own_report_at, own_last}
use Rattle.own.proofs.own_slot.Goals as goal

pub returns-then-t-lt-REPORTS : goal.returns-then-t-lt-REPORTS
returns-then-t-lt-REPORTS c =
    let a = c.args in
    let (is, low) = c.frame_slot.ensures in
    (own_frame_at a.id a.t is c.if-t-lt-REPORTS.true, omega (arith, low))

pub returns-then-t-lt-PREVIOUS : goal.returns-then-t-lt-PREVIOUS
returns-then-t-lt-PREVIOUS c =
    let a = c.args in
    let (is, high, low) = c.report_slot.ensures in
    (own_report_at a.id a.t is c.if-t-lt-REPORTS.false c.if-t-lt-PREVIOUS.true, omega (arith, low))

pub returns : goal.returns
returns c =
    (sym (own_last c.args.id c.args.t c.if-t-lt-PREVIOUS.false), omega (arith, c.requires.1, c.if-t-lt-PREVIOUS.false))
