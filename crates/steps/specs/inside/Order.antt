-- The steps of a pass by number, 0 to 7 for A to H (document 01, 'One pass').
-- Assumes nothing.
use Rattle.std.specs.Prelude.{ℕ, ◌+◌, ◌≤◌, ◌≡◌, get_or}
use Rattle.std.proofs.Math.Option.{none}
use Rattle.protocol.specs.Pass.{Act, ask, enter, cast, decide, Step, taken, from_a}

-- The step of a number.
abbrev pub step_at : ℕ → Step
step_at k = get_or from_a k (λ c. taken c none)

-- The act of the step of a number: A asks, B enters, C to G send vote-0 (the proposal) to vote-4, H decides.
abbrev pub ActOf : ℕ → Act → Type 0
ActOf k (ask w) = k ≡ 0
ActOf k (enter w) = k ≡ 1
ActOf k (cast j p) = (k ≡ j + 2) × (j ≤ 4)
ActOf k (decide p) = k ≡ 7
