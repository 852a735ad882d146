-- The rules by counting: what `Safe` and `Chosen` say of sets, as tests that compute.
-- That both say the same is `CountingIsTheRule` and `ChoiceIsTheRule` in Sentences.
-- Assumes nothing.
use Rattle.std.specs.Prelude.{ℕ, zero, suc, ◌+◌, ◌-◌, min, Bool, true, false, cond, not, ◌&&◌, ◌||◌, ltb, eqb}
use Rattle.std.proofs.Math.Option.{Option, none, some}
use Rattle.rules.specs.inside.Bools.{any_below}
use Rattle.rules.specs.Sets.{Vaults}
use Rattle.rules.specs.Quorums.{is_quorum, is_blocking}
use Rattle.rules.specs.Options.{holds}
use Rattle.rules.specs.Rules.{Vote, Report, Reports, Rule, rule1, rule3, claims, unlocked, allows, reporting}

-- 'a blocking set claiming p at v'': the claimers are enough.
unfoldable pub claimed : Vaults → Reports → ℕ → ℕ → Bool
claimed vs rs p u = is_blocking vs (reporting rs (claims p u))

-- 'some quorum q of reporters has no lock at all'.
unfoldable pub free : Vaults → Reports → Bool
free vs rs = is_quorum vs (reporting rs unlocked)

-- 'no lock in q above v'; every lock in q at v' is for p', for some quorum q of reporters.
unfoldable pub allowed : Vaults → Reports → ℕ → ℕ → Bool
allowed vs rs p u = is_quorum vs (reporting rs (allows p u))

-- A vote's plan, d where there is none.
abbrev pub plan_or : ℕ → Option Vote → ℕ
plan_or d none = d
plan_or d (some x) = x.plan

-- The plan of one of a report's votes, d where there is none.
abbrev pub plan_by : (Report → Option Vote) → ℕ → Option Report → ℕ
plan_by vote d none = d
plan_by vote d (some r) = plan_or d (vote r)

-- The plans of the highest votes, and two more, 0 and 1: if two plans are claimed, then two of these are.
abbrev pub voted_plan : Reports → ℕ → ℕ → ℕ
voted_plan rs n i = cond (ltb i n) (plan_by (λ r. r.highest) 0 (rs i)) (i - n)

-- Two plans are claimed, p₁ at view u and p₂ at the next.
abbrev pub two_claimed : Vaults → Reports → ℕ → ℕ → ℕ → Bool
two_claimed vs rs u p₁ p₂ = not (eqb p₂ p₁) && (claimed vs rs p₁ u && claimed vs rs p₂ (u + 1))

-- 'blocking sets claiming p1 at view a and another plan p2 at view b, with v' ≤ a < b < v': a = v' and b = v' + 1 will do.
unfoldable pub two_sets : Vaults → Reports → ℕ → ℕ → Bool
two_sets vs rs v u =
    ltb (u + 1) v
    && any_below (λ i. any_below (λ j. two_claimed vs rs u (voted_plan rs vs.n i) (voted_plan rs vs.n j)) (vs.n + 2)) (vs.n + 2)

-- What a rule asks of the claims at view u.
unfoldable pub backed : Rule → Vaults → Reports → ℕ → ℕ → ℕ → Bool
backed rule1 vs rs v p u = claimed vs rs p u
backed rule3 vs rs v p u = claimed vs rs p u || two_sets vs rs v u

-- Plan p is safe in view v by the rule.
unfoldable pub safe : Rule → Vaults → Reports → ℕ → ℕ → Bool
safe rule vs rs v p = eqb v 0 || (free vs rs || any_below (λ u. allowed vs rs p u && backed rule vs rs v p u) v)

-- The report names p: its lock or its highest vote is for p.
unfoldable pub names : ℕ → Report → Bool
names p r = holds (λ x. eqb x.plan p) r.lock || holds (λ x. eqb x.plan p) r.highest

-- The plans that reports name, of locks and then of highest votes; d where one names none.
abbrev pub named_plan : Reports → ℕ → ℕ → ℕ → ℕ
named_plan rs n d i = cond (ltb i n) (plan_by (λ r. r.lock) d (rs i)) (plan_by (λ r. r.highest) d (rs (i - n)))

-- The smaller of x, where it passes, and of what was found before.
abbrev pub smaller : Bool → ℕ → Option ℕ → Option ℕ
smaller false x best = best
smaller true x none = some x
smaller true x (some y) = some (min x y)

-- The smallest of the plans with numbers below k that pass the test.
unfoldable pub smallest : (ℕ → Bool) → (ℕ → ℕ) → ℕ → Option ℕ
smallest test plan zero = none
smallest test plan (suc k) = smaller (test (plan k)) (plan k) (smallest test plan k)

-- Step C: 'proposes its starting plan if that is safe by Rule 1, else the smallest safe plan, else waits'.
unfoldable pub choice : Vaults → Reports → ℕ → ℕ → Option ℕ
choice vs rs v start =
    cond (safe rule1 vs rs v start) (some start)
    (smallest (safe rule1 vs rs v) (named_plan rs vs.n start) (vs.n + vs.n))
