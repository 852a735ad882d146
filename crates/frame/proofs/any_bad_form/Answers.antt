-- `frame::any_bad_form` meets its contract: 14 is told of any of the three reports (02, wish 1).
-- `any` over three reports is the three flags joined.
-- Assumes nothing.
use mathlib.Core.Path.{◌∙◌}
use mathlib.Core.Bool.{false, ◌||◌}
use Rattle.frame.proofs.any_bad_form.Goals as goal

pub returns : goal.returns
returns c =
    let a = c.bad_form.ensures in
    let b = c.bad_form-2.ensures in
    let d = c.bad_form-3.ensures in
    c.any_of.ensures ∙ (λ i. a i || (b i || (d i || false)))
