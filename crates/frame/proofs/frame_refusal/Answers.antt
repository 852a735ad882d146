-- `frame::frame_refusal` meets its contract. 'Checked downwards' (01, Refusals): 13, 14, 21 and 22 come before 15.
-- The first table gives a number, or the second decides.
-- Assumes nothing.
use mathlib.Core.Path.{◌≡◌, sym, ◌∙◌}
use native.Mathlib.Omega.{arith}
use borrow.Author.Rules.{rules}
use Rattle.std.specs.Prelude.{Err}
use Rattle.frame.proofs.Laws.{first_some, first_none, numbered}
use Rattle.frame.specs.Refusal.{content_rows, leader_rows}
use Rattle.frame.proofs.frame_refusal.Goals as goal

pub returns-in_err-content_refusal : goal.returns-in_err-content_refusal
returns-in_err-content_refusal c =
    let a = c.args in
    let e = c.in_err-content_refusal.ensures in
    let is : c.from_residual.result ≡ Err c.in_err-content_refusal.field-0.0 = search rules in
    rw is (e ∙ sym (first_some (content_rows a.f) (leader_rows a.f a.n a.own) (λ z. numbered _ (e ∙ z))))

pub returns : goal.returns
returns c =
    let a = c.args in
    let e = sym c.in_ok-content_refusal.ensures in
    c.leader_refusal.ensures ∙ sym (first_none (content_rows a.f) (leader_rows a.f a.n a.own) (omega arith) e)
