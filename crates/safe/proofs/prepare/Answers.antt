-- `safe::prepare` meets its contract.
-- The row of locks is written behind the row of claims, which stays (`prepares`).
-- Assumes nothing.
use mathlib.Core.Path.{refl}
use native.Mathlib.Omega.{arith}
use Rattle.claims.specs.Table.{reports_in_table}
use Rattle.safe.proofs.Searches.{prepares}
use Rattle.safe.proofs.prepare.Goals as goal

pub returns : goal.returns
returns c =
    let a = c.args in
    let rs = reports_in_table a.table.now in
    let told = c.claims_from-coming.ensures.told in
    let locks = c.locks_at-locks.ensures in (
      prepares rs _ _ _ _ c.requires.0 c.requires.1 c.requires.2 (omega arith) c.end_of-end.ensures told locks.0 locks.1,
      refl,
      refl,
      refl,
      refl,
    )
