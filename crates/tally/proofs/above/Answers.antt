-- `tally::above` meets its contract: the mark tells whether there is a vote.
-- Assumes nothing.
use borrow.Author.Tests.{eq-eqb, ne_eqb}
use Rattle.tally.specs.inside.Reports.{above_of}
use Rattle.tally.proofs.above.Goals as goal

pub returns-then-x-eq-PRESENT : goal.returns-then-x-eq-PRESENT
unfolding above_of
returns-then-x-eq-PRESENT c = simp (eq-eqb _ _ c.if-x-eq-PRESENT.true)

pub returns-else-x-eq-PRESENT : goal.returns-else-x-eq-PRESENT
unfolding above_of
returns-else-x-eq-PRESENT c = simp (ne_eqb _ _ c.if-x-eq-PRESENT.false)
