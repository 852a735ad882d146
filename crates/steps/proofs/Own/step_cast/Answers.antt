-- `steps::Own::step_cast` meets its contract: each arm's step is that of its vote.
-- Assumes nothing.
use Prim.Native.Nat.{ℕ, ◌≤◌}
use mathlib.Core.Path.{◌≡◌}
use mathlib.Core.Logic.{◌≢◌}
use native.Mathlib.Omega.{arith}
use Rattle.acts.specs.inside.Acts.{act_at}
use Rattle.steps.proofs.Steps.{takes_as}
use Rattle.steps.proofs.Own.step_cast.Goals as goal

-- Vote-4 is what is left.
last_vote : (k : ℕ) → k ≤ 4 → (((Unit {0} × (k ≢ 0)) × (k ≢ 1)) × (k ≢ 2)) × (k ≢ 3) → k ≡ 4
last_vote k low ((((u, a), b), c), d) = omega arith

pub returns-in-0 : goal.returns-in-0
unfolding act_at
returns-in-0 c = takes_as c.in-0.is c.step_c.ensures

pub returns-in-1 : goal.returns-in-1
unfolding act_at
returns-in-1 c = takes_as c.in-1.is c.step_d.ensures

pub returns-in-2 : goal.returns-in-2
unfolding act_at
returns-in-2 c = takes_as c.in-2.is c.step_e.ensures

pub returns-in-3 : goal.returns-in-3
unfolding act_at
returns-in-3 c = takes_as c.in-3.is c.step_f.ensures

pub returns-in_default : goal.returns-in_default
unfolding act_at
returns-in_default c =
    takes_as (last_vote c.args.k c.requires c.in_default.in_default-own.rest) c.step_g.ensures
