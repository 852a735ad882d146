-- `safe::allowed` meets its contract: the count of the row of locks is held against a quorum.
-- Assumes nothing.
use Prim.Native.Nat.{◌-◌}
use mathlib.Core.Path.{◌∙◌, ap}
use lib.Dec.{leb}
use Rattle.safe.specs.inside.Searches.{allowed_in}
use Rattle.safe.proofs.allowed.Goals as goal

pub returns : goal.returns
unfolding allowed_in
returns c =
    let a = c.args in
    c.is_quorum.ensures ∙ ap (leb (a.c.n - a.c.f)) c.count_for.ensures
