-- Document 01's sentences on safe plans, held against the tests that compute: whoever believes `Safe` and `Chosen` need not believe
-- `claims`' reach, nor the search in Counts.
-- Assumes nothing.
use Rattle.std.specs.Prelude.{ℕ, ◌≤◌, ◌≡◌, ◌↔◌, true}
use Rattle.std.proofs.Math.Option.{Option, some}
use Rattle.rules.specs.Sets.{Vaults}
use Rattle.rules.specs.Rules.{Vote, Report, Reports, Rule, claims, Safe, Chosen}
use Rattle.rules.specs.inside.Counts.{safe, choice}

-- 'A reporter claims p at v' if v' is 0, or its highest vote is for p at v' or later, or its previous vote is at v' or later (Rules 2 and 4).'
pub data Says (r : Report) (p u : ℕ) : Type 0 where
  always : u ≡ 0 → Says r p u
  for_it : {x : Vote} → r.highest ≡ some x → x.plan ≡ p → u ≤ x.view → Says r p u
  for_any : {x : Vote} → r.previous ≡ some x → u ≤ x.view → Says r p u

-- A report claims a plan in these three cases and in no other. Proved as `claims_says` in proofs/Single.
abbrev pub ClaimIsSaid : Type 0
ClaimIsSaid = (r : Report) (p u : ℕ) → (claims p u r ≡ true) ↔ Says r p u

-- 'Plan p is safe if some quorum q of reporters has no lock at all, or some v' below v has: no lock in q above v'; every lock in q at v' is
-- for p; and a blocking set claiming p at v'. Rule 3 also accepts, instead of the last, ..': safe by counting is safe by sets, for both
-- rules, any vaults, any reports. Proved as `safe_iff` in proofs/Laws.
abbrev pub CountingIsTheRule : Type 0
CountingIsTheRule = (vs : Vaults) (rs : Reports) (rule : Rule) (v p : ℕ) → Safe rule vs rs v p ↔ (safe rule vs rs v p ≡ true)

-- 'its starting plan if .. safe by Rule 1, else the smallest safe plan, else waits': just the choice by counting. Proved as `chosen_iff` in proofs/Laws.
abbrev pub ChoiceIsTheRule : Type 0
ChoiceIsTheRule = (vs : Vaults) (rs : Reports) (v start : ℕ) (o : Option ℕ) → Chosen vs rs v start o ↔ (choice vs rs v start ≡ o)
