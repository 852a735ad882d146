-- Laws of one report (Rules 2 and 4; 'When a plan is safe'). Claims go by one number, the reach, so they fall with the view;
-- a lock that is not above a view stands against no plan at a later one; and a report that does not name p treats p as it
-- treats every other plan that it does not name.
-- Assumes nothing.
use Prim.Native.Nat.{ℕ, ◌≤◌, ◌<◌, max}
use mathlib.Core.Path.{◌≡◌, refl, ap}
use mathlib.Core.Logic.{◌⊎◌, inl, inr, ⊎_elim}
use mathlib.Core.Bool.{true, false, not, ◌||◌}
use mathlib.Core.Option.{Option, none, some}
use native.Mathlib.Omega.{arith}
use lib.Dec.{leb, eqb}
use native.Mathlib.Decide.{dec_le}
use borrow.Author.Tests.{leb-true, le-leb, eqb-true, eq-eqb, ne_eqb}
use Rattle.rules.proofs.Bools.{which, clash, not_true, both_split, both_join, or_left, or_right, either}
use Rattle.rules.specs.Options.{is_none, holds}
use Rattle.rules.specs.Rules.{Vote, Report, view_of, view_for, reach, claims, lock_allows, allows}
use Rattle.rules.specs.inside.Counts.{names}
use Rattle.rules.specs.inside.Views.{under}
use Rattle.rules.specs.Sentences.{Says, always, for_it, for_any, ClaimIsSaid}

-- A vote is there, or its view counts as 0.
viewed : (o : Option Vote) (u : ℕ) → u ≤ view_of o → (u ≡ 0) ⊎ ((x : Vote) × (o ≡ some x) × (u ≤ x.view))
viewed none u low = inl (omega arith)
viewed (some x) u low = inr (x, refl, low)

-- A vote for p is there, or its view counts as 0.
viewed_for : (o : Option Vote) (p u : ℕ) → u ≤ view_for p o → (u ≡ 0) ⊎ ((x : Vote) × (o ≡ some x) × (x.plan ≡ p) × (u ≤ x.view))
viewed_for none p u low = inl (omega arith)
viewed_for (some x) p u low = go (which (eqb x.plan p))
  where
    go : (eqb x.plan p ≡ true) ⊎ (eqb x.plan p ≡ false)
        → (u ≡ 0) ⊎ ((y : Vote) × (Path (Option Vote) (some x) (some y)) × (y.plan ≡ p) × (u ≤ y.view))
    go (inl e) = inr (x, refl, eqb-true x.plan p e, rw e at low)
    go (inr e) = let none : u ≤ 0 = rw e at low in inl (omega arith)

-- The view of a vote that is for p, as `view_for` reads it.
for_it_view : (o : Option Vote) (x : Vote) (p : ℕ) → o ≡ some x → x.plan ≡ p → view_for p o ≡ x.view
for_it_view o x p e same = rw (e, eq-eqb x.plan p same)

-- Document 01's three cases.
pub claims_says : ClaimIsSaid
unfolding claims reach
claims_says r p u = (λ h. to (leb-true u (max (view_for p r.highest) (view_of r.previous)) h), from)
  where
    to : u ≤ max (view_for p r.highest) (view_of r.previous) → Says r p u
    to low = high (dec_le u (view_for p r.highest))
      where
        high : Dec (u ≤ view_for p r.highest) → Says r p u
        high (yes le) = ⊎_elim always (λ (x, is, same, at). for_it is same at) (viewed_for r.highest p u le)
        high (no above) = ⊎_elim always (λ (x, is, at). for_any is at) (viewed r.previous u (omega arith))

    from : Says r p u → leb u (max (view_for p r.highest) (view_of r.previous)) ≡ true
    from (always e) = le-leb u _ (omega arith)
    from (for_it {x} is same le) = le-leb u _ (omega (arith, for_it_view r.highest x p is same))
    from (for_any {x} is le) = le-leb u _ (omega (arith, ap view_of is))

-- ---- along the views

-- Claims fall with the view.
pub claims_fall : (r : Report) (p u w : ℕ) → w ≤ u → claims p u r ≡ true → claims p w r ≡ true
unfolding claims
claims_fall r p u w le h = le-leb w (reach r p) (omega (arith, leb-true u (reach r p) h))

-- A lock that does not stand against p at a view is not above it.
pub allows_under : (r : Report) (p u : ℕ) → allows p u r ≡ true → under u r ≡ true
unfolding allows under
allows_under r p u h = go r.lock h
  where
    go : (o : Option Vote) → (is_none o || holds (lock_allows p u) o) ≡ true → leb (view_of o) u ≡ true
    go none e = le-leb 0 u (omega arith)
    go (some x) e = (both_split (leb x.view u) (not (eqb x.view u) || eqb x.plan p) e).0

-- A lock that is not above a view stands against no plan at a later one.
pub under_allows : (r : Report) (p u w : ℕ) → u < w → under u r ≡ true → allows p w r ≡ true
unfolding allows under
under_allows r p u w less h = go r.lock h
  where
    go : (o : Option Vote) → leb (view_of o) u ≡ true → (is_none o || holds (lock_allows p w) o) ≡ true
    go none e = refl
    go (some x) e =
        let low : x.view ≤ u = leb-true x.view u e in
        both_join (leb x.view w) _ (le-leb x.view w (omega arith))
        (or_left (not (eqb x.view w)) _ (ap not (ne_eqb x.view w (λ (same : x.view ≡ w). omega arith))))

-- A lock that is not above a view is not above a later one.
pub under_rises : (r : Report) (u w : ℕ) → u ≤ w → under u r ≡ true → under w r ≡ true
unfolding under
under_rises r u w le h = le-leb (view_of r.lock) w (omega (arith, leb-true (view_of r.lock) u h))

-- ---- plans that a report does not name

-- A vote that is not for p counts for it with view 0.
unnamed_vote : (o : Option Vote) (p : ℕ) → holds (λ x. eqb x.plan p) o ≡ false → view_for p o ≡ 0
unnamed_vote none p e = refl
unnamed_vote (some x) p e = rw e

-- A plan that is not the highest vote's is claimed only where every plan is.
pub claims_unnamed : (r : Report) (p q u : ℕ) → holds (λ x. eqb x.plan p) r.highest ≡ false → claims p u r ≡ true → claims q u r ≡ true
unfolding claims reach
claims_unnamed r p q u other h =
    le-leb u (max (view_for q r.highest) (view_of r.previous))
    (omega (arith, unnamed_vote r.highest p other, leb-true u (max (view_for p r.highest) (view_of r.previous)) h))

-- A plan that is not the lock's is allowed only where every plan is.
pub allows_unnamed : (r : Report) (p q u : ℕ) → holds (λ x. eqb x.plan p) r.lock ≡ false → allows p u r ≡ true → allows q u r ≡ true
unfolding allows
allows_unnamed r p q u other h = go r.lock other h
  where
    go : (o : Option Vote) → holds (λ x. eqb x.plan p) o ≡ false → (is_none o || holds (lock_allows p u) o) ≡ true
        → (is_none o || holds (lock_allows q u) o) ≡ true
    go none f e = refl
    go (some x) f e =
        let (low, at) = both_split (leb x.view u) _ e in
        both_join (leb x.view u) _ low
        (⊎_elim (or_left (not (eqb x.view u)) _) (λ same. absurd (clash same f)) (either (not (eqb x.view u)) _ at))

-- A report that does not name p has it neither as its lock's plan nor as its highest vote's.
pub names_split : (r : Report) (p : ℕ) → names p r ≡ false
    → (holds (λ x. eqb x.plan p) r.lock ≡ false) × (holds (λ x. eqb x.plan p) r.highest ≡ false)
unfolding names
names_split r p e = (
  not_true _ (λ h. clash (or_left (holds (λ x. eqb x.plan p) r.lock) _ h) e),
  not_true _ (λ h. clash (or_right (holds (λ x. eqb x.plan p) r.lock) _ h) e),
)
