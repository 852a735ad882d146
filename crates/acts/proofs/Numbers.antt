-- The steps by their numbers (document 01, 'One pass', 'A' to 'H').
-- Assumes nothing.
use Prim.Native.Nat.{ℕ, zero, suc, ◌+◌, ◌≤◌}
use mathlib.Core.Path.{◌≡◌, refl, sym, ap}
use native.Mathlib.Omega.{arith}
use Rattle.protocol.specs.Record.{Record}
use Rattle.protocol.specs.Pass.{act_vote}
use Rattle.acts.specs.inside.Acts.{act_at}

-- Equal numbers name the same step: for the arms of the match in `act_at`.
pub numbered : {k j : ℕ} (c : Record) → k ≡ j → act_at j c ≡ act_at k c
numbered c e = ap (λ (i : ℕ). act_at i c) (sym e)

-- E, F, G are numbers 4, 5, 6.
pub act_votes : (k : ℕ) (c : Record) → 1 ≤ k → k ≤ 3 → act_vote c k ≡ act_at (k + 3) c
unfolding act_at
act_votes zero c low high = absurd (omega arith)
act_votes (suc zero) c low high = refl
act_votes (suc (suc zero)) c low high = refl
act_votes (suc (suc (suc zero))) c low high = refl
act_votes (suc (suc (suc (suc k)))) c low high = absurd (omega arith)
