-- `frame::content_refusal` meets its contract. 'view 0 in kind 6, 7 or 8' (01, Refusal 13), then 14, 21 and 22.
-- Row 13 by the flag, the rows on the reports by the call; a body without reports gives none.
-- Assumes nothing.
use mathlib.Core.Logic.{inl, inr}
use Rattle.frame.proofs.Laws.{told}
use Rattle.frame.proofs.content_refusal.Goals as goal

pub returns-then-view_missing : goal.returns-then-view_missing
returns-then-view_missing c = simp (told c.view_missing.ensures c.if-view_missing.true)

pub returns-in-Plan : goal.returns-in-Plan
returns-in-Plan c =
    let no = told c.view_missing.ensures c.if-view_missing.false in
    elim c.in-Plan.is [ inl (x, e) ↦ rw e (simp no) | inr e ↦ rw e (simp no) ]

pub returns-in-Told : goal.returns-in-Told
returns-in-Told c =
    rw c.in-Told.is (simp
    (told c.view_missing.ensures c.if-view_missing.false) c.reports_refusal.ensures)
