-- What the tests on a report's lock say of it: a lock that allows a plan at a view is not above the view, and for the plan if
-- at it; an unlocked report has none.
-- Assumes nothing.
use Prim.Native.Nat.{ℕ, ◌≤◌}
use mathlib.Core.Path.{◌≡◌, refl, sym, ◌∙◌}
use mathlib.Core.Logic.{◌⊎◌, inl, inr}
use mathlib.Core.Bool.{true, not, ◌||◌, false≢true}
use mathlib.Core.Option.{Option, none, some}
use native.Mathlib.Omega.{arith}
use lib.Dec.{leb, eqb}
use borrow.Author.Tests.{leb-true, eqb-true, eq-eqb}
use Rattle.rules.proofs.Bools.{both_split, either}
use Rattle.rules.specs.Options.{is_none, holds}
use Rattle.rules.specs.Rules.{Vote, Report, unlocked, lock_allows, allows}
use Rattle.rules.proofs.Laws.{holds_where}

-- Nothing is not something: the end of impossible cases.
pub none≢some : {A : Type 0} {x : A} → ◌≡◌ {A = Option A} none (some x) → ⊥
none≢some e = let z : ◌≡◌ {A = ℕ} 0 1 = cc in omega arith

-- What tests as missing is missing.
pub is_none_none : {A : Type 0} (o : Option A) → is_none o ≡ true → o ≡ none
is_none_none none e = refl
is_none_none (some x) e = absurd (false≢true e)

-- What `lock_allows` says of a lock: it is not above u, and at u it is for p.
fits_vote : (p u : ℕ) (x : Vote) → lock_allows p u x ≡ true → (x.view ≤ u) × (x.view ≡ u → x.plan ≡ p)
fits_vote p u x h =
    let (low, here) = both_split (leb x.view u) (not (eqb x.view u) || eqb x.plan p) h in
    (leb-true x.view u low, λ is. plan is (either (not (eqb x.view u)) (eqb x.plan p) here))
  where
    plan : x.view ≡ u → (not (eqb x.view u) ≡ true) ⊎ (eqb x.plan p ≡ true) → x.plan ≡ p
    plan is (inl differs) = absurd (false≢true (rw (eq-eqb x.view u is) at differs))
    plan is (inr same) = eqb-true x.plan p same

-- 'no lock in q above v'; every lock in q at v' is for p', of one report.
pub allowed_lock : {p u : ℕ} (r : Report) {x : Vote} → allows p u r ≡ true → r.lock ≡ some x → (x.view ≤ u) × (x.view ≡ u → x.plan ≡ p)
unfolding allows
allowed_lock {p} {u} r {x} h e = go (either (is_none r.lock) (holds (lock_allows p u) r.lock) h)
  where
    go : (is_none r.lock ≡ true) ⊎ (holds (lock_allows p u) r.lock ≡ true) → (x.view ≤ u) × (x.view ≡ u → x.plan ≡ p)
    go (inl t) = absurd (none≢some (sym (is_none_none r.lock t) ∙ e))
    go (inr t) =
        let (y, at, ok) = holds_where r.lock (lock_allows p u) t in
        let same : y ≡ x = cc in
        fits_vote p u x (rw same at ok)

-- 'no lock at all', of one report.
pub unlocked_none : (r : Report) → unlocked r ≡ true → r.lock ≡ none
unfolding unlocked
unlocked_none r h = is_none_none r.lock h
