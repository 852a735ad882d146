-- `claims::highest_to` meets its contract.
-- The loop keeps the highest of the first r spans that are not above w, and `highest_more` adds one span.
-- Assumes nothing.
use mathlib.Core.Path.{◌≡◌}
use Rattle.claims.specs.inside.Spans.{highest_to}
use Rattle.claims.proofs.highest_to.Given as goal

abbrev pub invariant-loop-r : goal.invariant-loop-r
invariant-loop-r l = l.best ≡ highest_to l.spans l.w l.r
