-- `reach::claim_reach` meets its contract (document 02, wish 7). 10 by the length, 14 and 22 by the reports that were read; else their highest claim.
-- Assumes nothing.
use mathlib.Core.Path.{◌≡◌, sym}
use borrow.Author.Rules.{rules}
use Rattle.std.specs.Prelude.{Err}
use Rattle.frame.proofs.Laws.{numbered}
use Rattle.reach.proofs.Laws.{other_length, refused_by, answered_by}
use Rattle.reach.proofs.claim_reach.Goals as goal

pub returns-then-reports-ne-LENGTH : goal.returns-then-reports-ne-LENGTH
returns-then-reports-ne-LENGTH c =
    let a = c.args in
    other_length a.reports.now a.plan c.if-reports-ne-LENGTH.true

pub returns-in_err-content_refusal : goal.returns-in_err-content_refusal
returns-in_err-content_refusal c =
    let a = c.args in
    let is : c.from_residual.result ≡ Err c.in_err-content_refusal.field-0.0 = search rules in
    rw is (refused_by a.reports.now a.plan c.reports_at-told.result c.if-reports-ne-LENGTH.false c.reports_at-told.ensures _
    (sym c.in_err-content_refusal.ensures) (numbered _))

pub highest_claim-requires : goal.highest_claim-requires
highest_claim-requires c = sym c.in_ok-content_refusal.ensures

pub returns : goal.returns
returns c =
    let a = c.args in
    answered_by a.reports.now a.plan c.reports_at-told.result c.if-reports-ne-LENGTH.false c.reports_at-told.ensures c.highest_claim.result
    (sym c.in_ok-content_refusal.ensures) c.highest_claim.ensures
