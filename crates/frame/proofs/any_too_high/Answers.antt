-- `frame::any_too_high` meets its contract: 21 is told of any of the three reports (02, wish 1).
-- `any` over three reports is the three flags joined.
-- Assumes nothing.
use mathlib.Core.Path.{◌∙◌}
use mathlib.Core.Bool.{false, ◌||◌}
use Rattle.frame.proofs.any_too_high.Goals as goal

pub returns : goal.returns
returns c =
    let a = c.too_high.ensures in
    let b = c.too_high-2.ensures in
    let d = c.too_high-3.ensures in
    c.any_of.ensures ∙ (λ i. a i || (b i || (d i || false)))
