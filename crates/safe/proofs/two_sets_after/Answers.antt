-- `safe::two_sets_after` meets its contract.
-- The rows are prepared again from the next view on; where that is the last below v there are no two views.
-- Assumes nothing.
use Prim.Native.Nat.{◌+◌}
use mathlib.Core.Path.{sym}
use native.Mathlib.Omega.{arith}
use Rattle.claims.specs.Table.{reports_in_table}
use Rattle.rules.specs.Sets.{equals}
use Rattle.rules.proofs.Views.{two_late}
use Rattle.safe.proofs.Searches.{falling, pair_same}
use Rattle.safe.proofs.two_sets_after.Goals as goal

pub two_sets-requires : goal.two_sets-requires
two_sets-requires c =
    let s = c.prepare-later in
    let ready = s.ensures.0 in (
      ready.laid,
      falling (reports_in_table c.args.table.now) s.result _ ready,
      omega (arith, s.ensures.3, s.ensures.4, c.if-low-c.true),
    )

pub returns-then-low-c : goal.returns-then-low-c
returns-then-low-c c =
    let a = c.args in
    let s = c.prepare-later in
    pair_same (reports_in_table a.table.now) s.result _ s.ensures.0 _ a.c.n a.c.f (a.c.u + 1) a.c.v
    s.ensures.1 s.ensures.2 s.ensures.3 s.ensures.4 c.if-low-c.true c.two_sets.ensures

pub returns : goal.returns
returns c =
    let a = c.args in
    sym (two_late (equals a.c.n a.c.f) (reports_in_table a.table.now) a.c.v (a.c.u + 1) c.if-low-c.false)
