-- Tables with one entry changed, options, and the highest number that passes a test: all that the other proofs need of them.
-- A changed table has the new entry at its place and the old ones elsewhere.
-- Assumes nothing.
use Prim.Native.Nat.{ℕ, zero, suc, ◌≤◌, ◌<◌}
use mathlib.Core.Path.{◌≡◌, refl, sym, ◌∙◌, ap, fun_ext}
use mathlib.Core.Logic.{◌⊎◌, inl, inr}
use mathlib.Core.Bool.{Bool, true, false, cond, ◌&&◌, false≢true}
use mathlib.Core.Option.{Option, none, some}
use native.Mathlib.Omega.{arith}
use native.Mathlib.Decide.{ℕ_discrete}
use lib.Dec.{ltb, eqb}
use borrow.Author.Tests.{eqb-true, eq-eqb, ne_eqb, ltb-true, ltb-false}
use Rattle.rules.proofs.Bools.{which, both_split}
use Rattle.rules.specs.Options.{holds}
use Rattle.rules.proofs.Laws.{holds_where}
use Rattle.rules.proofs.Reports.{none≢some}
use Rattle.frame.specs.declared.Frame.{Frame}
use Rattle.protocol.specs.Record.{when, each, higher, highest, keeping}
use Rattle.protocol.specs.Tables.{put}

-- ---- tables

-- At its place a changed table has the new entry.
pub put_same {ℓ} : {A : Type ℓ} (k : ℕ) (x : A) (t : ℕ → A) → put k x t k ≡ x
put_same k x t = rw (eq-eqb k k refl)

-- Elsewhere it has the old one.
pub put_other {ℓ} : {A : Type ℓ} (k : ℕ) (x : A) (t : ℕ → A) (j : ℕ) → (k ≡ j → ⊥) → put k x t j ≡ t j
put_other k x t j ne = rw (ne_eqb k j ne)

-- The second change of a place counts.
pub put_again {ℓ} : {A : Type ℓ} (k : ℕ) (x y : A) (t : ℕ → A) → put k x (put k y t) ≡ put k x t
put_again k x y t = fun_ext (λ j. go j (eqb k j))
  where
    go : (j : ℕ) (b : Bool) → cond b x (cond b y (t j)) ≡ cond b x (t j)
    go j true = refl
    go j false = refl

-- An entry put where it was changes nothing.
pub put_own {ℓ} : {A : Type ℓ} (k : ℕ) (t : ℕ → A) → put k (t k) t ≡ t
put_own k t = fun_ext (λ j. go j (which (eqb k j)))
  where
    go : (j : ℕ) → (eqb k j ≡ true) ⊎ (eqb k j ≡ false) → put k (t k) t j ≡ t j
    go j (inl e) = rw e (ap t (eqb-true k j e))
    go j (inr e) = rw e

-- A frame that is kept is found in its sender's row.
pub keep_same : (f : Frame) (t : ℕ → ℕ → Option Frame) → keeping f t f.kind f.sender ≡ some f
keep_same f t = rw (eq-eqb f.kind f.kind refl, eq-eqb f.sender f.sender refl)

-- Frames of other kinds stay.
pub keep_other_kind : (f : Frame) (t : ℕ → ℕ → Option Frame) (k j : ℕ) → (f.kind ≡ k → ⊥) → keeping f t k j ≡ t k j
keep_other_kind f t k j ne = rw (ne_eqb f.kind k ne)

-- Other senders' frames stay.
pub keep_other_sender : (f : Frame) (t : ℕ → ℕ → Option Frame) (k j : ℕ) → (f.sender ≡ j → ⊥) → keeping f t k j ≡ t k j
keep_other_sender f t k j ne = go (eqb f.kind k)
  where
    go : (b : Bool) → cond (b && eqb f.sender j) (some f) (t k j) ≡ t k j
    go true = rw (ne_eqb f.sender j ne)
    go false = refl

-- An entry of the changed table is the new frame, or an old entry.
pub keep_was : (f : Frame) (t : ℕ → ℕ → Option Frame) (k j : ℕ) {g : Frame} → keeping f t k j ≡ some g
    → ((f.kind ≡ k) × (f.sender ≡ j) × (f ≡ g)) ⊎ (t k j ≡ some g)
keep_was f t k j {g} e = go (eqb f.kind k && eqb f.sender j) refl e
  where
    go : (b : Bool) → (eqb f.kind k && eqb f.sender j) ≡ b → cond b (some f) (t k j) ≡ some g
        → ((f.kind ≡ k) × (f.sender ≡ j) × (f ≡ g)) ⊎ (t k j ≡ some g)
    go true h e = let (a, b) = both_split (eqb f.kind k) (eqb f.sender j) h in inl (eqb-true f.kind k a, eqb-true f.sender j b, cc)
    go false h e = inr e

-- ---- options

-- Something follows from an option only if something is there.
pub each_some : {A B : Type 0} (o : Option A) (f : A → Option B) {b : B} → each o f ≡ some b → (a : A) × (o ≡ some a) × (f a ≡ some b)
each_some none f e = absurd (none≢some e)
each_some (some a) f e = (a, refl, e)

-- Something is left by `when` only if the test passed.
pub when_some : {A : Type 0} (b : Bool) (o : Option A) {x : A} → when b o ≡ some x → (b ≡ true) × (o ≡ some x)
when_some true o e = (refl, e)
when_some false o e = absurd (none≢some e)

-- ---- the highest

-- What holds of both numbers holds of the one that a test picks.
cond_one : (P : ℕ → Type 0) (b : Bool) (x y : ℕ) → P x → P y → P (cond b x y)
cond_one P true x y hx hy = hx
cond_one P false x y hx hy = hy

-- What holds of two numbers holds of the higher.
higher_has : (P : ℕ → Type 0) (a b : Option ℕ) {w : ℕ} → ((x : ℕ) → a ≡ some x → P x) → ((x : ℕ) → b ≡ some x → P x) → higher a b ≡ some w → P w
higher_has P none b {w} ha hb e = hb w e
higher_has P (some x) none {w} ha hb e = ha w e
higher_has P (some x) (some y) {w} ha hb e = let is : cond (ltb y x) x y ≡ w = cc in rw (← is) (cond_one P (ltb y x) x y (ha x refl) (hb y refl))

-- The highest number passes the test, and is one of the numbers.
pub highest_has : (test : ℕ → Bool) (f : ℕ → Option ℕ) (n : ℕ) {w : ℕ} → highest test f n ≡ some w → (test w ≡ true) × ((j : ℕ) × (j < n) × (f j ≡ some w))
unfolding highest
highest_has test f zero e = absurd (none≢some e)
highest_has test f (suc n) {w} e =
    higher_has (λ x. (test x ≡ true) × ((j : ℕ) × (j < suc n) × (f j ≡ some x))) (when (holds test (f n)) (f n)) (highest test f n) this
    (λ x is. let (p, j, low, at) = flat (highest_has test f n is) in (p, (j, omega arith, at))) e
  where
    this : (x : ℕ) → when (holds test (f n)) (f n) ≡ some x → (test x ≡ true) × ((j : ℕ) × (j < suc n) × (f j ≡ some x))
    this x e =
        let (h, is) = when_some (holds test (f n)) (f n) e in
        let (y, at, p) = holds_where (f n) test h in
        let same : y ≡ x = cc in
        (rw same at p, (n, omega arith, is))

    flat : {x : ℕ} → (test x ≡ true) × ((j : ℕ) × (j < n) × (f j ≡ some x)) → (test x ≡ true) × (j : ℕ) × (j < n) × (f j ≡ some x)
    flat (p, (j, low, at)) = (p, j, low, at)

-- The higher of two is no lower than either.
higher_most : (a b : Option ℕ) (x : ℕ) → ((a ≡ some x) ⊎ ((y : ℕ) × (b ≡ some y) × (x ≤ y))) → (w : ℕ) × (higher a b ≡ some w) × (x ≤ w)
higher_most none b x (inl e) = absurd (none≢some e)
higher_most none b x (inr h) = h
higher_most (some a) none x (inl e) = let is : a ≡ x = cc in (a, refl, omega arith)
higher_most (some a) none x (inr (y, e, le)) = absurd (none≢some e)
higher_most (some a) (some b) x h = go (ltb b a) refl h
  where
    go : (c : Bool) → ltb b a ≡ c → ((some a ≡ some x) ⊎ ((y : ℕ) × (some b ≡ some y) × (x ≤ y))) → (w : ℕ) × (some (cond c a b) ≡ some w) × (x ≤ w)
    go true d (inl e) = let is : a ≡ x = cc in (a, refl, omega arith)
    go true d (inr (y, e, le)) = let is : b ≡ y = cc in let lt : b < a = ltb-true b a d in (a, refl, omega arith)
    go false d (inl e) = let is : a ≡ x = cc in let ge : a ≤ b = ltb-false b a d in (b, refl, omega arith)
    go false d (inr (y, e, le)) = let is : b ≡ y = cc in (b, refl, omega arith)

-- Where one of the numbers passes there is a highest, and it is no lower.
pub highest_most : (test : ℕ → Bool) (f : ℕ → Option ℕ) (n j x : ℕ) → j < n → f j ≡ some x → test x ≡ true → (w : ℕ) × (highest test f n ≡ some w) × (x ≤ w)
unfolding highest
highest_most test f zero j x low e p = absurd (omega arith)
highest_most test f (suc n) j x low e p = go (ℕ_discrete j n) (λ under. highest_most test f n j x under e p)
  where
    go : Dec (j ≡ n) → (j < n → (w : ℕ) × (highest test f n ≡ some w) × (x ≤ w))
        → (w : ℕ) × (higher (when (holds test (f n)) (f n)) (highest test f n) ≡ some w) × (x ≤ w)
    go (yes is) rest = let at : f n ≡ some x = ap f (sym is) ∙ e in higher_most (when (holds test (f n)) (f n)) (highest test f n) x (inl (rw (at, p)))
    go (no other) rest = higher_most (when (holds test (f n)) (f n)) (highest test f n) x (inr (rest (omega arith)))

-- A search over nothing finds nothing.
pub highest_none : (test : ℕ → Bool) (n : ℕ) → highest test (λ j. none) n ≡ none
unfolding highest
highest_none test zero = refl
highest_none test (suc n) = highest_none test n

-- Nothing follows from an option, if nothing follows from what is there.
pub each_none : {A B : Type 0} (o : Option A) (f : A → Option B) → ((x : A) → o ≡ some x → f x ≡ none) → each o f ≡ none
each_none none f h = refl
each_none (some x) f h = h x refl

-- What follows from an option gave nothing.
pub each_was : {A B : Type 0} (o : Option A) (f : A → Option B) (x : A) → each o f ≡ none → o ≡ some x → f x ≡ none
each_was none f x e is = absurd (none≢some is)
each_was (some y) f x e is = let same : y ≡ x = cc in rw (← same) e

-- Nothing is left of something only if the test failed.
pub when_none : {A : Type 0} (b : Bool) (x : A) → when b (some x) ≡ none → b ≡ false
when_none true x e = absurd (none≢some (sym e))
when_none false x e = refl

-- Where the test fails nothing is left.
pub when_false : {A : Type 0} (b : Bool) (o : Option A) → b ≡ false → when b o ≡ none
when_false true o e = absurd (false≢true (sym e))
when_false false o e = refl
