-- `safe::smallest_safe` meets its contract.
-- The locks' plans, and then the votes' plans with the best of the locks'.
-- Assumes nothing.
use Prim.Native.Nat.{ℕ, ◌+◌}
use mathlib.Core.Bool.{false}
use mathlib.Core.Option.{Option}
use mathlib.Core.Path.{◌∙◌, ap}
use lib.ListN.{get_or}
use Rattle.safe.specs.inside.Searches.{passes_in, smallest_from}
use Rattle.safe.proofs.smallest_safe.Goals as goal

pub returns : goal.returns
returns c =
    let a = c.args in
    c.smallest_in.ensures
    ∙ ap (λ (o : Option ℕ). smallest_from o (passes_in a.plans.now a.c false) (λ i. get_or a.plans.now (0 + i) 0) a.c.next.some)
    c.smallest_in-best.ensures
