-- `vault_c::vault_frame` meets its contract: the number of the answer that the vault's call gives, and what that call leaves.
-- Assumes nothing.
use Rattle.vault_c.proofs.Small.{small_frame, short_by, seen_by}
use Rattle.vault_c.proofs.vault_frame.Goals as goal

pub number-requires : goal.number-requires
number-requires c =
    short_by c.frame-a.result _ _ _ c.frame-a.ensures (small_frame _ _ _ _)

pub returns : goal.returns
returns c =
    seen_by _ c.frame-a.result _ _ _ c.number.ensures c.frame-a.ensures
