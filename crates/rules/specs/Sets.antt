-- Vaults and sets of vaults (document 01, 'Words and ranges').
-- Each vault has a weight. In document 01 every weight is 1, and a set weighs what it counts.
-- Assumes nothing.
use Rattle.std.specs.Prelude.{ℕ, zero, suc, ◌+◌, Bool, true, cond}

-- The vaults are the numbers below n; f is the weight that those who break the rules have at most.
pub record Vaults : Type 0 where
  pub n : ℕ
  pub weight : ℕ → ℕ
  pub f : ℕ

-- Document 01's vaults: each weighs 1.
abbrev pub equals : ℕ → ℕ → Vaults
equals n f = record { n = n; weight = λ i. 1; f = f }

-- A set of vaults is a test on their numbers.
abbrev pub Set : Type 0
Set = ℕ → Bool

-- What the members of a set below k weigh.
unfoldable pub weigh : (ℕ → ℕ) → Set → ℕ → ℕ
weigh w s zero = 0
weigh w s (suc k) = weigh w s k + cond (s k) (w k) 0

-- What a set of vaults weighs.
abbrev pub size : Vaults → Set → ℕ
size vs s = weigh vs.weight s vs.n

-- What all vaults weigh: n where each weighs 1.
abbrev pub total : Vaults → ℕ
total vs = size vs (λ i. true)
