-- What is prepared for a search: two rows of plans. A report that is for every plan is only counted; one that is for a single plan has
-- that plan in the row. So how many are for a plan is a count of equal numbers. Assumes nothing.
use Rattle.std.specs.Prelude.{ℕ, ◌+◌, ◌^◌, ◌≤◌, ◌<◌, ◌≡◌, Bool, true, false, List, eqb, get_or}
use Rattle.rules.specs.Sets.{weigh}
use Rattle.rules.specs.Rules.{Report, Reports, reporting}
use Rattle.claims.specs.declared.Tally.{Tally}
use Rattle.claims.specs.Table.{column}

-- Two rows: who claims at the candidate views, and whom the locks let be at view u.
abbrev pub rows_size : ℕ
rows_size = 128

-- Every element is a number of 64 bits, as those of a slice of u64 are.
abbrev pub Words : List ℕ → Type 0
Words s = (i : ℕ) → get_or s i 0 < 2 ^ 64

-- How many of the k plans from place `at` on are p.
unfoldable pub count_of : List ℕ → ℕ → ℕ → ℕ → ℕ
count_of plans at k p = weigh (λ r. 1) (λ r. eqb (get_or plans (at + r) 0) p) k

-- How many are for plan p.
abbrev pub for_plan : List ℕ → ℕ → Tally → ℕ → ℕ
for_plan plans at t p = t.every + count_of plans at t.some p

-- The tally fits a row.
abbrev pub FitsRow : Tally → Type 0
FitsRow t = (t.every ≤ column) × (t.some ≤ column)

-- What one report adds: it passes the test of every plan, of plan x only, or of none.
pub data Stance (test : ℕ → Bool) (x every some : ℕ) : Type 0 where
  for_all : every ≡ 1 → some ≡ 0 → ((p : ℕ) → test p ≡ true) → Stance test x every some
  for_one : every ≡ 0 → some ≡ 1 → ((p : ℕ) → test p ≡ eqb x p) → Stance test x every some
  for_none : every ≡ 0 → some ≡ 0 → ((p : ℕ) → test p ≡ false) → Stance test x every some

-- A tally with what one report adds.
abbrev pub added : Tally → Tally → Tally
added t share = record { every = t.every + share.every; some = t.some + share.some }

-- The row tells of every plan how many of the first n reports pass its test.
pub record RowTells (rs : Reports) (n : ℕ) (test : ℕ → Report → Bool) (plans : List ℕ) (at : ℕ) (t : Tally) : Type 0 where
  pub most : t.every + t.some ≤ n
  pub tells : (p : ℕ) → for_plan plans at t p ≡ weigh (λ i. 1) (reporting rs (test p)) n

-- Two lists have the same numbers below place `at`.
abbrev pub SameBelow : List ℕ → List ℕ → ℕ → Type 0
SameBelow before after at = (i : ℕ) → i < at → get_or after i 0 ≡ get_or before i 0
