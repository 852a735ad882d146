-- `claims::standing_of` meets its contract.
-- Its own level twice and the others' once.
-- Assumes nothing.
use Rattle.claims.specs.inside.Walk.{standing}
use Rattle.claims.proofs.standing_of.Goals as goal

pub returns : goal.returns
unfolding standing
returns c =
    simp (c.views_from-own.ensures, c.views_from-others.ensures, c.claim_end.ensures, c.claim_end-2.ensures, c.other_plan.ensures)
    (λ i. standing c.args.table.now c.args.u c.args.end c.args.r)
