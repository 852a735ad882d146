-- `claims::reported` meets its contract.
-- The vault's place in the first column is not 0.
-- Assumes nothing.
use mathlib.Core.Path.{refl}
use borrow.Author.Tests.{lt-ltb}
use Rattle.claims.specs.Table.{reporter}
use Rattle.claims.proofs.reported.Goals as goal

pub returns : goal.returns
unfolding reporter
returns c = simp (lt-ltb _ _ c.requires) refl
