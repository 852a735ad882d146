-- `frame::led_wrong` meets its contract. 'proposal not from its view's leader; suggest for a view this vault does not lead' (01, Refusal 15).
-- The match finds the kind, and each kind but 1 and 7 passes.
-- Assumes nothing.
use mathlib.Core.Path.{◌≡◌}
use native.Mathlib.Omega.{arith}
use Rattle.frame.proofs.Laws.{tests}
use Rattle.frame.specs.Refusal.{misled}
use Rattle.frame.proofs.led_wrong.Goals as goal

pub returns-in-1 : goal.returns-in-1
unfolding misled
returns-in-1 c =
    let other : c.args.kind ≡ 7 → ⊥ = omega arith in
    search tests

pub returns-in-7 : goal.returns-in-7
unfolding misled
returns-in-7 c =
    let other : c.args.kind ≡ 1 → ⊥ = omega arith in
    search tests

pub returns-in_default : goal.returns-in_default
unfolding misled
returns-in_default c = search tests
