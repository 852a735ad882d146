-- `vault_c::vault_write_remnant` meets its contract: the number of the answer that the call gives, and what that call leaves.
-- Assumes nothing.
use Rattle.vault_c.proofs.Small.{fits_written, short_fits, seen_by}
use Rattle.vault_c.proofs.vault_write_remnant.Goals as goal

pub number-requires : goal.number-requires
number-requires c =
    let call = c.write_remnant-a in
    short_fits call.result _ _ _ call.ensures (fits_written _ _)

pub returns : goal.returns
returns c =
    let call = c.write_remnant-a in
    seen_by _ call.result _ _ _ c.number.ensures call.ensures
