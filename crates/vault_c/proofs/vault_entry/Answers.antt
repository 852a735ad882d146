-- `vault_c::vault_entry` meets its contract: an entry's size is small.
-- Assumes nothing.
use native.Mathlib.Omega.{arith}
use lib.ListN.{drop}
use Rattle.entry.proofs.Laws.{in_most}
use Rattle.vault_c.proofs.vault_entry.Goals as goal

pub overflow_cast-result : goal.overflow_cast-result
overflow_cast-result c = let a = c.args in omega (arith, c.size_from-size.ensures, in_most (drop a.at a.out.now))
