-- The vaults that spoke twice, by what the records handed in keep (document 02, wish 5). The field's word is equivocation.
-- Assumes nothing.
use Rattle.std.specs.Prelude.{ℕ, zero, suc, Bool, false, not, ◌&&◌, ◌||◌, cond, List, [], ◌∷◌, ◌++◌, eqb}
use Rattle.std.proofs.Math.Option.{Option, none, some}
use Rattle.rules.specs.Sets.{Set}
use Rattle.frame.specs.declared.Frame.{Frame}
use Rattle.record.specs.Slots.{Record}
use Rattle.record.specs.Kept.{kept_frame, plan_of}

-- Some of a list pass the test.
unfoldable pub any : {A : Type 0} → (A → Bool) → List A → Bool
any test [] = false
any test (a ∷ rest) = test a || any test rest

-- 'two different plans for one view': kept frames that differ so. One that is not kept differs from none.
abbrev pub differ : Option Frame → Option Frame → Bool
differ none y = false
differ (some x) none = false
differ (some x) (some y) = eqb x.view y.view && not (eqb (plan_of x.body) (plan_of y.body))

-- 'with two different plans for one view and one kind': two of the records keep such frames of kind k in row s.
unfoldable pub two_plans : List Record → ℕ → Set
two_plans rs k s = any (λ x. any (λ y. differ (kept_frame x k s) (kept_frame y k s)) rs) rs

-- 'kept vote frames only': the kinds of vote-1 to vote-4.
abbrev pub vote_kinds : List ℕ
vote_kinds = 2 ∷ 3 ∷ 4 ∷ 5 ∷ []

-- 'every vault that appears in them' so.
unfoldable pub spoke_twice : List Record → Set
spoke_twice rs s = any (λ k. two_plans rs k s) vote_kinds

-- 'by rising number, one byte each': the members of a set below n.
unfoldable pub rising : Set → ℕ → List ℕ
rising s zero = []
rising s (suc k) = rising s k ++ cond (s k) (k ∷ []) []

-- The vaults to be named: n is the same in all records.
abbrev pub named : List Record → List ℕ
named [] = []
named (r ∷ rs) = rising (spoke_twice (r ∷ rs)) r.set.n
