-- `vault_c::vault_start` meets its contract: the number of the answer that the vault's call gives, and what that call leaves.
-- Assumes nothing.
use Rattle.vault_c.proofs.Small.{small_start, short_by, seen_by}
use Rattle.vault_c.proofs.vault_start.Goals as goal

pub number-requires : goal.number-requires
number-requires c =
    short_by c.start-a.result _ _ _ c.start-a.ensures (small_start _ _ _ _)

pub returns : goal.returns
returns c =
    seen_by _ c.start-a.result _ _ _ c.number.ensures c.start-a.ensures
