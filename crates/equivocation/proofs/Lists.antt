-- Laws of lists as document 02's wish 5 uses them: `any` passes just where an element passes that stands at some place of the list; `rising` has the
-- members of a set below n, each once and by rising number, so that it is as long as they are many; `handed_in` has a record for each length.
-- All hold by induction over the list or over n.
-- Assumes nothing.
use Prim.Native.Nat.{ℕ, zero, suc, ◌≤◌, ◌<◌}
use mathlib.Core.Path.{◌≡◌, refl, sym, ◌∙◌, ap, subst}
use mathlib.Core.Bool.{Bool, true, false, ◌||◌, cond, or-false, or_assoc}
use mathlib.Core.Logic.{⊎_elim}
use mathlib.Core.List.{List, [], ◌∷◌, ◌++◌, Memᴰ}
use mathlib.Core.List.{map, append-nil}
use native.Mathlib.Omega.{arith}
use native.Mathlib.Decide.{dec_lt}
use lib.ListN.{length, get_or, drop, length-append, get_or-append}
use lib.Seq.{get_or_at}
use Rattle.rules.specs.Sets.{Set, weigh}
use Rattle.rules.specs.inside.Bools.{any_below}
use Rattle.rules.proofs.Bools.{clash, not_true, any_at, any_where}
use Rattle.rules.proofs.Quorums.{weigh_most}
use Rattle.record.specs.Layout.{decode_record}
use Rattle.equivocation.specs.Named.{any, spoke_twice, rising, named}
use Rattle.equivocation.specs.Call.{handed_in}
use Rattle.equivocation.specs.Sentences.{record_at}

-- ---- some of a list

-- The first number may be tested first.
any_front : (f : ℕ → Bool) (k : ℕ) → any_below f (suc k) ≡ (f 0 || any_below (λ i. f (suc i)) k)
unfolding any_below
any_front f zero = sym (or-false (f 0))
any_front f (suc k) =
    ap (λ (b : Bool). b || f (suc k)) (any_front f k) ∙ or_assoc (f 0) (any_below (λ i. f (suc i)) k) (f (suc k))

-- Some of a list pass just where some number's element does.
pub any_is : {A : Type 0} (test : A → Bool) (l : List A) (d : A) → any test l ≡ any_below (λ i. test (get_or l i d)) (length l)
unfolding any any_below
any_is test [] d = refl
any_is test (a ∷ rest) d =
    ap (λ (b : Bool). test a || b) (any_is test rest d) ∙ sym (any_front (λ i. test (get_or (a ∷ rest) i d)) (length rest))

-- An element that passes is enough.
pub any_get : {A : Type 0} (test : A → Bool) (l : List A) (d : A) (i : ℕ) → i < length l → test (get_or l i d) ≡ true → any test l ≡ true
any_get test l d i low here = any_is test l d ∙ any_at (λ i. test (get_or l i d)) (length l) i low here

-- Where some pass, one that passes is found.
pub any_find : {A : Type 0} (test : A → Bool) (l : List A) (d : A) → any test l ≡ true → (i : ℕ) × (i < length l) × (test (get_or l i d) ≡ true)
any_find test l d h = any_where (λ i. test (get_or l i d)) (length l) (sym (any_is test l d) ∙ h)

-- Where none passes, each fails.
pub any_none : {A : Type 0} (test : A → Bool) (l : List A) (d : A) (i : ℕ) → any test l ≡ false → i < length l → test (get_or l i d) ≡ false
any_none test l d i none low = not_true (test (get_or l i d)) (λ here. clash (any_get test l d i low here) none)

-- ---- the members of a set, by rising number

-- What is listed is below n, and a member.
pub rising_in : (s : Set) (n j : ℕ) → Memᴰ j (rising s n) → (j < n) × (s j ≡ true)
unfolding rising
rising_in s zero j at = absurd (mathlib.Core.List.Memᴰ.not-nil at)
rising_in s (suc k) j at = ⊎_elim
    (λ (before : Memᴰ j (rising s k)). let (low, here) = rising_in s k j before in (omega arith, here))
    (λ (last : Memᴰ j (cond (s k) (k ∷ []) [])). go (s k) refl last)
    (mathlib.Core.List.Memᴰ.append_cases (rising s k) at)
  where
    go : (b : Bool) → s k ≡ b → Memᴰ j (cond b (k ∷ []) []) → (j < suc k) × (s j ≡ true)
    go true is last =
        let e : j ≡ k = mathlib.Core.List.Memᴰ.eq_of_singleton last in
        (omega arith, subst (λ (x : ℕ). s x ≡ true) (sym e) is)
    go false is last = absurd (mathlib.Core.List.Memᴰ.not-nil last)

-- A member below n is listed.
pub rising_has : (s : Set) (n j : ℕ) → j < n → s j ≡ true → Memᴰ j (rising s n)
unfolding rising
rising_has s zero j low here = absurd (omega arith)
rising_has s (suc k) j low here = go (dec_lt j k) (rising_has s k j)
  where
    go : Dec (j < k) → (j < k → s j ≡ true → Memᴰ j (rising s k)) → Memᴰ j (rising s k ++ cond (s k) (k ∷ []) [])
    go (yes below) rest = mathlib.Core.List.Memᴰ.append_left (cond (s k) (k ∷ []) []) (rest below here)
    go (no above) rest =
        let e : j ≡ k = omega arith in
        let is : s k ≡ true = subst (λ (x : ℕ). s x ≡ true) e here in
        mathlib.Core.List.Memᴰ.append_right (rising s k) (rw is (mathlib.Core.List.Memᴰ.head e))

-- As many are listed as the set has members below n.
pub rising_length : (s : Set) (n : ℕ) → length (rising s n) ≡ weigh (λ i. 1) s n
unfolding rising weigh
rising_length s zero = refl
rising_length s (suc k) = length-append (rising s k) (cond (s k) (k ∷ []) []) ∙ omega (arith, rising_length s k, one (s k))
  where
    one : (b : Bool) → length (cond b (k ∷ []) []) ≡ cond b 1 0
    one true = refl
    one false = refl

-- So at most n are listed.
pub rising_most : (s : Set) (n : ℕ) → length (rising s n) ≤ n
rising_most s n = omega (arith, rising_length s n, weigh_most s n)

-- What stands at a place of a list is in the list.
get_in : (l : List ℕ) (i : ℕ) → i < length l → Memᴰ (get_or l i 0) l
get_in [] i low = absurd (omega arith)
get_in (x ∷ rest) zero low = mathlib.Core.List.Memᴰ.head refl
get_in (x ∷ rest) (suc i) low = mathlib.Core.List.Memᴰ.tail (get_in rest i (omega arith))

-- Each number listed is below n.
rising_below : (s : Set) (n i : ℕ) → i < length (rising s n) → get_or (rising s n) i 0 < n
rising_below s n i low = (rising_in s n (get_or (rising s n) i 0) (get_in (rising s n) i low)).0

-- A list that rises below k still rises with k put behind it.
last_rises : (l : List ℕ) (k : ℕ) → ((i : ℕ) → i < length l → get_or l i 0 < k) → ((i j : ℕ) → i < j → j < length l → get_or l i 0 < get_or l j 0)
    → (i j : ℕ) → i < j → j < length (l ++ (k ∷ [])) → get_or (l ++ (k ∷ [])) i 0 < get_or (l ++ (k ∷ [])) j 0
last_rises l k below rises i j less low = go (dec_lt j (length l))
  where
    go : Dec (j < length l) → get_or (l ++ (k ∷ [])) i 0 < get_or (l ++ (k ∷ [])) j 0
    go (yes early) =
        let first : i < length l = omega arith in
        rw (get_or-append l (k ∷ []) 0 i first, get_or-append l (k ∷ []) 0 j early) (rises i j less early)
    go (no late) =
        let last : length l ≡ j = omega (arith, length-append l (k ∷ [])) in
        let first : i < length l = omega arith in
        rw (get_or-append l (k ∷ []) 0 i first, get_or_at l k [] 0 j last) (below i first)

-- A number that is listed later is larger.
pub rising_rises : (s : Set) (n i j : ℕ) → i < j → j < length (rising s n) → get_or (rising s n) i 0 < get_or (rising s n) j 0
unfolding rising
rising_rises s zero i j less low = absurd (omega arith)
rising_rises s (suc k) i j less low = go (s k) low (rising_rises s k)
  where
    go : (b : Bool) → j < length (rising s k ++ cond b (k ∷ []) [])
        → ((i j : ℕ) → i < j → j < length (rising s k) → get_or (rising s k) i 0 < get_or (rising s k) j 0)
        → get_or (rising s k ++ cond b (k ∷ []) []) i 0 < get_or (rising s k ++ cond b (k ∷ []) []) j 0
    go true low rises = last_rises (rising s k) k (rising_below s k) rises i j less low
    go false low rises = rw append-nil (rises i j less (rw append-nil at low))

-- ---- the records

-- There is a record for each length.
pub handed_length : (lengths s : List ℕ) → length (handed_in lengths s) ≡ length lengths
unfolding handed_in
handed_length [] s = refl
handed_length (k ∷ lengths) s = ap suc (handed_length lengths (drop k s))

-- The vaults of the first record's n that spoke twice.
abbrev pub names_of : List (List ℕ) → List ℕ
names_of bs = rising (spoke_twice (map decode_record bs)) (record_at bs 0).set.n

-- Of one record or more, they are those to be named.
pub named_of : (bs : List (List ℕ)) → 1 ≤ length bs → named (map decode_record bs) ≡ names_of bs
named_of [] one = absurd (omega arith)
named_of (b ∷ bs) one = refl
