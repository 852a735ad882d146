-- `for_tests::record_class` meets its contract: each answer has its number.
-- Assumes nothing.
use mathlib.Core.Path.{sym, ap, ◌∙◌}
use Rattle.for_tests.specs.inside.Answers.{class_number}
use Rattle.for_tests.proofs.record_class.Goals as goal

pub returns-in-Blank : goal.returns-in-Blank
returns-in-Blank c = ap class_number (sym c.in-Blank.is ∙ c.classify-lent.ensures)

pub returns-in-Sound : goal.returns-in-Sound
returns-in-Sound c = ap class_number (sym c.in-Sound.is ∙ c.classify-lent.ensures)

pub returns-in-Unsound : goal.returns-in-Unsound
returns-in-Unsound c = ap class_number (sym c.in-Unsound.is ∙ c.classify-lent.ensures)
