-- What the laws on quorums ask of the vaults.
-- Assumes nothing.
use Rattle.std.specs.Prelude.{◌*◌, ◌≤◌, ◌<◌, not}
use Rattle.rules.specs.Sets.{Vaults, Set, size, total}

-- The rule-keeping vaults of a run: f is below a third, and the others weigh at most f.
pub record Mostly (vs : Vaults) (keeps : Set) : Type 0 where
  pub third : 3 * vs.f < total vs
  pub others : size vs (λ i. not (keeps i)) ≤ vs.f
