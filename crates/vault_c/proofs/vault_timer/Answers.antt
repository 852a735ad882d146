-- `vault_c::vault_timer` meets its contract: the number of the answer that the vault's call gives, and what that call leaves.
-- Assumes nothing.
use Rattle.vault_c.proofs.Small.{small_timer, short_by, seen_by}
use Rattle.vault_c.proofs.vault_timer.Goals as goal

pub number-requires : goal.number-requires
number-requires c = short_by c.timer-a.result _ _ _ c.timer-a.ensures (small_timer _ _ _)

pub returns : goal.returns
returns c =
    seen_by _ c.timer-a.result _ _ _ c.number.ensures c.timer-a.ensures
