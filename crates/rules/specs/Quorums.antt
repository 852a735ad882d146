-- Quorums and blocking sets (document 01, 'Words and ranges').
-- Assumes nothing.
use Rattle.std.specs.Prelude.{ℕ, ◌+◌, ◌-◌, ◌<◌, ◌≡◌, Bool, true, leb}
use Rattle.rules.specs.Sets.{Vaults, Set, size, total}

-- 'A quorum is n - f or more vaults'.
unfoldable pub is_quorum : Vaults → Set → Bool
is_quorum vs s = leb (total vs - vs.f) (size vs s)

-- 'A blocking set f + 1 or more'.
unfoldable pub is_blocking : Vaults → Set → Bool
is_blocking vs s = leb (vs.f + 1) (size vs s)

-- A set that is enough, each member of which has P.
pub record Group (vs : Vaults) (enough : Set → Bool) (P : ℕ → Type 0) : Type 0 where
  pub who : Set
  pub large : enough who ≡ true
  pub each : (i : ℕ) → i < vs.n → who i ≡ true → P i

-- Some quorum has P throughout.
abbrev pub Quorum : Vaults → (ℕ → Type 0) → Type 0
Quorum vs P = Group vs (is_quorum vs) P

-- Some blocking set has P throughout.
abbrev pub Blocking : Vaults → (ℕ → Type 0) → Type 0
Blocking vs P = Group vs (is_blocking vs) P
