-- `remnant::rebuild` meets its contract: a fresh record, and the own part put back to it.
-- Assumes nothing.
use Rattle.remnant.specs.inside.Parts.{Fresh}
use Rattle.remnant.proofs.Laws.{fresh_held, back_held}
use Rattle.remnant.proofs.rebuild.Goals as goal
use Rattle.remnant.proofs.rebuild.Goals.{After-put_fresh}

-- What the lent bytes hold then.
fresh : (c : After-put_fresh)
    → Fresh c.args.remnant.now c.args.set c.put_fresh.new.rec
fresh c = fresh_held _ _ c.requires.1 c.plan_in-plan.ensures c.put_fresh.ensures

pub store-requires : goal.store-requires
store-requires c = (fresh (goal.at.store-requires c).After-put_fresh).fits

pub returns : goal.returns
returns c =
    back_held _ _ _ (fresh (goal.at.returns c).After-put_fresh) (λ i. (c.type_inv.rec i).fits) c.store.ensures
