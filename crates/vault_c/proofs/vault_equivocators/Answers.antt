-- `vault_c::vault_equivocators` meets its contract: the number of the answer that the call gives, and what that call leaves.
-- Assumes nothing.
use Rattle.vault_c.proofs.Small.{short_named, seen_by}
use Rattle.vault_c.proofs.vault_equivocators.Goals as goal

pub number-requires : goal.number-requires
number-requires c =
    let call = c.equivocators-a in
    short_named call.result _ _ _ _ call.ensures

pub returns : goal.returns
returns c =
    let call = c.equivocators-a in
    seen_by _ call.result _ _ _ c.number.ensures call.ensures
