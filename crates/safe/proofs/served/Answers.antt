-- `safe::served` meets its contract.
-- The search finds a view below v exactly if a candidate serves.
-- Assumes nothing.
use Prim.Native.Nat.{ℕ}
use mathlib.Core.Path.{ap}
use lib.Dec.{ltb}
use Rattle.safe.specs.inside.Searches.{served_from}
use Rattle.safe.proofs.served.Goals as goal

pub returns : goal.returns
unfolding served_from
returns c = ap (λ (w : ℕ). ltb w c.args.c.v) c.serving_view.ensures
