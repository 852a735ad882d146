-- The search for the lowest view that fewer than f + 1 vaults cover, over their spans: how many views, from 0 on, each covers.
-- A vault covers the views above which it has a lock, and all where it has not reported. Assumes nothing.
use Rattle.std.specs.Prelude.{ℕ, zero, suc, ◌≤◌, ◌<◌, max, ◌≡◌, Bool, true, cond, List, leb, ltb, eqb, get_or}
use Rattle.rules.specs.Sets.{equals, Set, weigh}
use Rattle.rules.specs.Quorums.{is_blocking}
use Rattle.rules.specs.inside.Views.{views}
use Rattle.claims.specs.Carried.{Descends, coming_in, carried}

-- Those of whose spans view u is one.
abbrev pub covering : List ℕ → ℕ → Set
covering spans u i = ltb u (get_or spans i 0)

-- The vaults that stand at k, by a list with a number for each: their span ends at k, so that view k - 1 is its last, or their standing is k.
abbrev pub stands_at : List ℕ → ℕ → Set
stands_at numbers k i = eqb (get_or numbers i 0) k

-- Those of whose spans view u is one are f + 1 or more of n: no quorum is without a lock above u.
unfoldable pub covered : List ℕ → ℕ → ℕ → ℕ → Bool
covered spans n f u = is_blocking (equals n f) (covering spans u)

-- In how many views below v they are.
unfoldable pub covered_views : List ℕ → ℕ → ℕ → ℕ → ℕ
covered_views spans n f v = views (covered spans n f) v

-- The highest of the first k spans that is not above w, 0 where there is none: the next candidate view is its last.
unfoldable pub highest_to : List ℕ → ℕ → ℕ → ℕ
highest_to spans w zero = 0
highest_to spans w (suc k) = max (highest_to spans w k) (cond (leb (get_or spans k 0) w) (get_or spans k 0) 0)

-- The first n spans are at most v.
abbrev pub Within : List ℕ → ℕ → ℕ → Type 0
Within spans n v = (i : ℕ) → i < n → get_or spans i 0 ≤ v

-- The list has the first n spans.
abbrev pub AreSpans : List ℕ → ℕ → (ℕ → ℕ) → Type 0
AreSpans spans n span = (i : ℕ) → i < n → get_or spans i 0 ≡ span i

-- What the lock search carries down to candidate t: `locks` is the code's own count. All vaults whose lock is above view t are counted, each
-- once: they are those whose span ends above t. So at the candidate only those come in whose span ends there, and nobody is counted again.
-- They are at most f, as the search has not ended above.
pub record LocksCarried (spans : List ℕ) (n f v t locks : ℕ) : Type 0 where
  pub are : locks ≡ weigh (λ i. 1) (covering spans t) n
  pub few : locks ≤ f
  pub low : t ≤ v

-- 'the count at each view', of locks: it is that of the vaults whose lock is above the view. Proved as `lock_carried` in proofs/Spans.
abbrev pub LockCarried : Type 0
LockCarried = (weight : ℕ → ℕ) (spans : List ℕ) (n : ℕ) (x : ℕ → ℕ) → Descends x → (k : ℕ)
    → carried weight (covering spans) x n k ≡ weigh weight (covering spans (x k)) n

-- 'each counted once', of locks: a vault comes in at one candidate view at most. Proved as `lock_once` in proofs/Spans.
abbrev pub LockOnce : Type 0
LockOnce = (spans : List ℕ) (i : ℕ) (x : ℕ → ℕ) → Descends x → (j k : ℕ)
    → coming_in (covering spans) x j i ≡ true → coming_in (covering spans) x k i ≡ true → j ≡ k
