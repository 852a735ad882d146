-- `tally::lead_with` meets its contract: each branch is one case of the definition.
-- Assumes nothing.
use borrow.Author.Tests.{eq-eqb, ne_eqb}
use Rattle.tally.specs.inside.Votes.{lead_with}
use Rattle.tally.proofs.lead_with.Goals as goal

pub returns-then-x-b : goal.returns-then-x-b
unfolding lead_with
returns-then-x-b c = simp (eq-eqb _ _ c.if-x-b.true)

pub returns-then-b-eq0 : goal.returns-then-b-eq0
unfolding lead_with
returns-then-b-eq0 c = simp (ne_eqb _ _ c.if-x-b.false, eq-eqb _ _ c.if-b-eq0.true)

pub returns : goal.returns
unfolding lead_with
returns c = simp (ne_eqb _ _ c.if-x-b.false, ne_eqb _ _ c.if-b-eq0.false)
