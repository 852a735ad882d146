-- `safe::lowest_view` meets its contract.
-- The search over the spans of the locks finds the lowest view with a cleared quorum (`spans_lock`).
-- Assumes nothing.
use mathlib.Core.Path.{◌∙◌}
use Rattle.claims.specs.Table.{reports_in_table}
use Rattle.safe.proofs.Locks.{spans_lock}
use Rattle.safe.proofs.lowest_view.Goals as goal

pub returns : goal.returns
returns c =
    let a = c.args in
    let t = c.lock_spans-spans in
    c.lowest_cleared.ensures ∙ spans_lock a.n a.f a.v (reports_in_table a.table.now) t.result t.ensures
