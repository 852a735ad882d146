-- 'let it carry the count down the candidate views. A claimer at a view is a claimer at every lower view. Show that the count at each view is that of
-- the claimers there, made of the count above and the reporters not yet counted, each counted once for a plan' (document 02, wish 4).
-- Assumes nothing.
use Rattle.std.specs.Prelude.{ℕ, zero, suc, ◌+◌, ◌≤◌, ◌≡◌, true, not, ◌&&◌}
use Rattle.rules.specs.Sets.{Set, weigh}
use Rattle.rules.specs.Rules.{Reports, claims, reporting}

-- 'A claimer at a view is a claimer at every lower view', of any sets, one for each view.
abbrev pub Grows : (ℕ → Set) → Type 0
Grows members = (u w i : ℕ) → w ≤ u → members u i ≡ true → members w i ≡ true

-- 'down the candidate views': view x (k + 1) comes after view x k.
abbrev pub Descends : (ℕ → ℕ) → Type 0
Descends x = (k : ℕ) → x (suc k) ≤ x k

-- 'the reporters not yet counted': those of candidate k that are not of the candidate above it.
unfoldable pub coming_in : (ℕ → Set) → (ℕ → ℕ) → ℕ → Set
coming_in members x zero i = members (x zero) i
coming_in members x (suc k) i = members (x (suc k)) i && not (members (x k) i)

-- 'the count above and the reporters not yet counted'. Each vault counts with its weight.
unfoldable pub carried : (ℕ → ℕ) → (ℕ → Set) → (ℕ → ℕ) → ℕ → ℕ → ℕ
carried weight members x n zero = weigh weight (coming_in members x zero) n
carried weight members x n (suc k) = carried weight members x n k + weigh weight (coming_in members x (suc k)) n

-- The claimers of a plan at each view (Rules 2 and 4).
abbrev pub claimers : Reports → ℕ → ℕ → Set
claimers rs p u = reporting rs (claims p u)

-- 'the count at each view is that of the claimers there'. Proved as `carried_count` in proofs/Carried, for all sets that grow as the view falls.
abbrev pub CarriedCount : Type 0
CarriedCount = (weight : ℕ → ℕ) (rs : Reports) (p n : ℕ) (x : ℕ → ℕ) → Descends x → (k : ℕ)
    → carried weight (claimers rs p) x n k ≡ weigh weight (claimers rs p (x k)) n

-- 'each counted once for a plan': a reporter comes in at one candidate view at most. Proved as `counted_once` in proofs/Carried.
abbrev pub CountedOnce : Type 0
CountedOnce = (rs : Reports) (p i : ℕ) (x : ℕ → ℕ) → Descends x → (j k : ℕ)
    → coming_in (claimers rs p) x j i ≡ true → coming_in (claimers rs p) x k i ≡ true → j ≡ k
