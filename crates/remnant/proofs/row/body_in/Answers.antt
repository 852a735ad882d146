-- `row::body_in` meets its contract: the column 'Rest' of the table of frames (01, Frames).
-- Assumes nothing.
use mathlib.Core.Path.{sym, ap, ◌∙◌}
use native.Mathlib.Omega.{arith}
use Rattle.frame.specs.declared.Report.{Report}
use Rattle.frame.specs.declared.Reports.{Reports}
use Rattle.frame.specs.declared.Body.TheVariants.{Plan, Told}
use Rattle.record.proofs.Forms.{body_plan, body_bare, body_reports}
use Rattle.remnant.specs.inside.Parts.{id_in, row_in}
use Rattle.remnant.proofs.row.body_in.Goals as goal

pub returns-then-kind-lt-VIEW_CHANGE : goal.returns-then-kind-lt-VIEW_CHANGE
returns-then-kind-lt-VIEW_CHANGE c =
    let a = c.args in
    let k = c.requires.0 in
    ap (λ (x : Report). Plan x.plan) c.requires.1.is
    ∙ sym (body_plan (row_in a.own.now) a.kind (id_in a.own.now) k.low (omega (arith, c.if-kind-lt-VIEW_CHANGE.true)))

pub returns-then-kind-eq-VIEW_CHANGE : goal.returns-then-kind-eq-VIEW_CHANGE
returns-then-kind-eq-VIEW_CHANGE c =
    let a = c.args in
    sym (body_bare (row_in a.own.now) a.kind (id_in a.own.now) c.if-kind-eq-VIEW_CHANGE.true)

pub returns : goal.returns
returns c =
    let a = c.args in
    ap (λ (r : Reports). Told r) c.reports_in.ensures
    ∙ sym (body_reports (row_in a.own.now) a.kind (id_in a.own.now) (omega (arith, c.if-kind-eq-VIEW_CHANGE.false, c.if-kind-lt-VIEW_CHANGE.false)))
