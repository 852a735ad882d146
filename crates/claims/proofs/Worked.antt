-- Worked counts, by computation: n = 4, f = 1, the proofs of view 3 from vaults 0 to 3, and the counts carried down views 2 and 1.
-- Assumes nothing.
use Prim.Native.Nat.{ℕ, zero, suc}
use mathlib.Core.Path.{◌≡◌, refl}
use mathlib.Core.Bool.{true, false}
use mathlib.Core.Option.{Option, none, some}
use Rattle.rules.specs.Sets.{equals, weigh}
use Rattle.rules.specs.Quorums.{is_quorum, is_blocking}
use Rattle.rules.specs.Rules.{Vote, Reports, rule3, reach, claims, unlocked, allows}
use Rattle.rules.specs.inside.Bools.{any_below}
use Rattle.rules.specs.inside.Counts.{claimed, free, allowed, two_sets, backed, safe}
use Rattle.rules.specs.inside.Views.{under, cleared, lowest_view}
use Rattle.claims.specs.Carried.{coming_in, carried, claimers}
use Rattle.claims.specs.inside.Walk.{down_from}

-- A vote for p in view v, as a report tells it.
abbrev vote : ℕ → ℕ → Option Vote
vote v p = some (record { view = v; plan = p })

-- Highest (1, a), (1, a), (2, b), (2, b) and locks (1, c) at 0 and 2, where a is 1, b is 2, c is 3 and d is 4; vaults 2 and 3 may have a previous vote.
abbrev proofs : Option Vote → Reports
proofs previous zero = some (record { highest = vote 1 1; previous = none; lock = vote 1 3 })
proofs previous (suc zero) = some (record { highest = vote 1 1; previous = none; lock = none })
proofs previous (suc (suc zero)) = some (record { highest = vote 2 2; previous = previous; lock = vote 1 3 })
proofs previous (suc (suc (suc zero))) = some (record { highest = vote 2 2; previous = previous; lock = none })
proofs previous (suc (suc (suc (suc i)))) = none

-- The count of plan p's walk at view 2, and at view 1.
abbrev counts : Option Vote → ℕ → ℕ × ℕ
counts previous p = (
  carried (λ i. 1) (claimers (proofs previous) p) (down_from 3) 4 0,
  carried (λ i. 1) (claimers (proofs previous) p) (down_from 3) 4 1,
)

-- Here u is 1.
lowest : lowest_view (equals 4 1) (proofs none) 3 ≡ 1
unfolding lowest_view cleared is_quorum under weigh
lowest = refl

-- Without previous votes: a 0, 2; b 2, 2; c 0, 0; d 0, 0.
without_previous : (counts none 1 ≡ (0, 2)) × (counts none 2 ≡ (2, 2)) × (counts none 3 ≡ (0, 0)) × (counts none 4 ≡ (0, 0))
unfolding carried coming_in claims reach weigh
without_previous = (refl, refl, refl, refl)

-- With previous (1, a) at 2 and 3: a 0, 4; b 2, 2; c 0, 2; d 0, 2.
with_previous : (counts (vote 1 1) 1 ≡ (0, 4)) × (counts (vote 1 1) 2 ≡ (2, 2)) × (counts (vote 1 1) 3 ≡ (0, 2)) × (counts (vote 1 1) 4 ≡ (0, 2))
unfolding carried coming_in claims reach weigh
with_previous = (refl, refl, refl, refl)

-- By Rule 3 b and c are safe, a and d are not.
abbrev Safe : Option Vote → Type 0
Safe previous = (safe rule3 (equals 4 1) (proofs previous) 3 1 ≡ false) × (safe rule3 (equals 4 1) (proofs previous) 3 2 ≡ true)
    × (safe rule3 (equals 4 1) (proofs previous) 3 3 ≡ true) × (safe rule3 (equals 4 1) (proofs previous) 3 4 ≡ false)

safe_without : Safe none
unfolding safe free allowed backed two_sets claimed is_quorum is_blocking unlocked allows claims reach weigh any_below
safe_without = (refl, refl, refl, refl)

safe_with : Safe (vote 1 1)
unfolding safe free allowed backed two_sets claimed is_quorum is_blocking unlocked allows claims reach weigh any_below
safe_with = (refl, refl, refl, refl)
