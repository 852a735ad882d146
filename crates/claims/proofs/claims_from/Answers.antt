-- `claims::claims_from` meets its contract.
-- Where the vaults stand, and the lists of their plans, tell who comes in at each candidate view (`standing_told`).
-- Assumes nothing.
use Rattle.claims.proofs.Standing.{standing_told}
use Rattle.claims.proofs.claims_from.Goals as goal

pub returns-clause-told : goal.returns-clause-told
returns-clause-told c =
    let a = c.args in
    standing_told a.table.now a.n a.u a.end c.requires.1 _ c.standings-found.ensures _ _ _ _ c.write_row-row.ensures.in_order _ _
    c.count_at.ensures c.count_at-2.ensures
