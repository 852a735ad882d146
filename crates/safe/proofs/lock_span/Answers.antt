-- `safe::lock_span` meets its contract.
-- A vault that has not reported has no report, and its span is v; else the span goes by the lock's view (`span_in`).
-- Assumes nothing.
use Prim.Native.Nat.{ℕ, ◌-◌, min}
use mathlib.Core.Path.{◌≡◌, sym, ◌∙◌, ap}
use native.Mathlib.Omega.{arith}
use Rattle.claims.specs.Table.{reports_in_table}
use Rattle.rules.specs.inside.Views.{lock_span}
use Rattle.safe.proofs.Locks.{span_in}
use Rattle.safe.proofs.lock_span.Goals as goal
use Rattle.safe.proofs.lock_span.Goals.{After-lock_of-above}

-- Where the vault has reported, its span goes by its lock.
span_of : (c : After-lock_of-above) → let a = c.args in lock_span a.v (reports_in_table a.table.now a.r)
    ≡ min (c.lock_of-above.result - 1) a.v
span_of c =
    let a = c.args in
    span_in a.table.now a.r (sym c.reported.ensures ∙ c.if-reported.true) a.v
    ∙ ap (λ (x : ℕ). min (x - 1) a.v) (sym c.lock_of-above.ensures)

pub returns-then-v-above : goal.returns-then-v-above
returns-then-v-above c = omega (arith, span_of (goal.at.returns-then-v-above c).After-lock_of-above)

pub returns-then-reported : goal.returns-then-reported
returns-then-reported c = omega (arith, span_of (goal.at.returns-then-reported c).After-lock_of-above)

pub returns : goal.returns
unfolding reports_in_table
returns c = simp (sym c.reported.ensures ∙ c.if-reported.false)
