-- `explain::refusals::view_fault` meets its contract: by the reader's test.
-- Assumes nothing.
use mathlib.Core.Path.{refl}
use Rattle.frame.proofs.Laws.{told}
use Rattle.explain.specs.inside.Faults.{view_fault}
use Rattle.explain.proofs.refusals.view_fault.Goals as goal

pub returns-then-too_high : goal.returns-then-too_high
unfolding view_fault
returns-then-too_high c = rw (told c.too_high.ensures c.if-too_high.true) refl

pub returns : goal.returns
unfolding view_fault
returns c = rw (told c.too_high.ensures c.if-too_high.false) refl
