-- `frame::form_refusal` meets its contract. 'empty, or kind not 1 to 8'; 'length wrong for the kind' (01, Refusals 9 and 10).
-- A kind has no length exactly where it is unknown, so the length decides both rows.
-- Assumes nothing.
use mathlib.Core.Path.{sym, ◌∙◌}
use borrow.Author.Tests.{eq-eqb, ne_eqb}
use Rattle.frame.proofs.Laws.{told, unknown, known}
use Rattle.frame.proofs.form_refusal.Goals as goal

pub returns-then-s-eq0 : goal.returns-then-s-eq0
returns-then-s-eq0 c = simp (eq-eqb _ _ c.if-s-eq0.true)

pub returns-then-size-eq0 : goal.returns-then-size-eq0
returns-then-size-eq0 c = simp (ne_eqb _ _ c.if-s-eq0.false, unknown _ (told c.length_of-size.ensures c.if-size-eq0.true))

pub returns-then-s-size : goal.returns-then-s-size
returns-then-s-size c =
    let e = c.length_of-size.ensures in
    simp (
      ne_eqb _ _ c.if-s-eq0.false,
      known _ (λ z. c.if-size-eq0.false (e ∙ z)),
      ne_eqb _ _ (λ z. c.if-s-size.true (z ∙ sym e)),
    )

pub returns : goal.returns
returns c =
    let e = c.length_of-size.ensures in
    simp (
      ne_eqb _ _ c.if-s-eq0.false,
      known _ (λ z. c.if-size-eq0.false (e ∙ z)),
      eq-eqb _ _ (c.if-s-size.false ∙ e),
    )
