-- `lines::put_refusal` meets its contract: 'fd and the refusal number as one byte', on a line.
-- Assumes nothing.
use mathlib.Core.List.{[], ◌∷◌}
use Rattle.lines.specs.Digits.{line_of}
use Rattle.lines.specs.inside.Steps.{OnPage}
use Rattle.lines.proofs.put_refusal.Goals as goal

pub returns : goal.returns
returns c =
    let a = c.args in
    let p = c.put_line in
    let shown : OnPage (line_of (253 ∷ a.number ∷ [])) a.page.now a.at p.new.page p.result = p.ensures in
    shown
