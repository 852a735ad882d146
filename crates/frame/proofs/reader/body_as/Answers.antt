-- `reader::body_as` meets its contract. The columns 'Kind' and 'Rest' of the table of frames (01, Frames).
-- Each arm of the match is one form of kind; a known kind that is neither 1 to 5 nor 6 is 7 or 8, and its length leaves room for the reports.
-- Assumes nothing.
use Prim.Native.Nat.{ℕ, ◌≤◌}
use mathlib.Core.Path.{sym, ap, ◌∙◌}
use native.Mathlib.Omega.{arith}
use Rattle.frame.specs.declared.Reports.{Reports}
use Rattle.frame.specs.declared.Body.TheVariants.{Plan, Told}
use Rattle.frame.proofs.Laws.{bounds, length_plan, length_reports, body_of_plan, body_of_bare, body_of_reports}
use Rattle.frame.proofs.reader.body_as.Goals as goal
use Rattle.frame.proofs.reader.body_as.Goals.{in_default-via-then-kind-lt1, in_default-via-else-kind-lt1+else-kind-lt6}

pub number64-requires : goal.number64-requires
number64-requires c =
    let a = c.args in
    omega (arith, length_plan a.kind (omega arith) (omega arith))

pub reports_at-requires : goal.reports_at-requires
reports_at-requires c =
    let a = c.args in
    let (low, high) = bounds 1 8 a.kind c.requires.0 in
    let reports : 7 ≤ a.kind = elim c.in_default.branch [ in_default-via-then-kind-lt1 w ↦ omega arith | in_default-via-else-kind-lt1+else-kind-lt6 w ↦ omega arith ] in
    omega (arith, length_reports a.kind reports high)

pub returns-in-6 : goal.returns-in-6
returns-in-6 c =
    let a = c.args in
    sym (body_of_bare a.kind a.s.now (omega arith))

pub returns-in-1-to-5 : goal.returns-in-1-to-5
returns-in-1-to-5 c =
    let a = c.args in
    ap (λ (p : ℕ). Plan p) c.number64.ensures ∙ sym (body_of_plan a.kind a.s.now (omega arith) (omega arith))

pub returns-in_default : goal.returns-in_default
returns-in_default c =
    let a = c.args in
    let (low, high) = bounds 1 8 a.kind c.requires.0 in
    let reports : 7 ≤ a.kind = elim c.in_default.branch [ in_default-via-then-kind-lt1 w ↦ omega arith | in_default-via-else-kind-lt1+else-kind-lt6 w ↦ omega arith ] in
    ap (λ (r : Reports). Told r) c.reports_at.ensures ∙ sym (body_of_reports a.kind a.s.now reports)
