-- How the reports of one view lie in a flat table: columns of 64 numbers, one for each vault. Column 0 tells who has reported; then the
-- highest vote, the previous vote and the lock have two columns each, the view + 1 (0 where there is none) and the plan.
-- Assumes nothing.
use Rattle.std.specs.Prelude.{ℕ, ◌+◌, ◌-◌, ◌*◌, Bool, cond, not, ◌&&◌, List, ltb, eqb, get_or}
use Rattle.std.proofs.Math.Option.{Option, none, some}
use Rattle.rules.specs.Rules.{Vote, Reports}

-- 'n is 4 to 64': the vaults that have a place in each column.
abbrev pub column : ℕ
column = 64

-- Seven columns.
abbrev pub table_size : ℕ
table_size = 448

-- 'A report is a mark (1 present, 0 absent), a view (4 bytes) and a plan (8)', from the view + 1, 0 where it is absent, and the plan.
unfoldable pub vote_above : ℕ → ℕ → Option Vote
vote_above above plan = cond (eqb above 0) none (some (record { view = above - 1; plan = plan }))

-- The vote of vault i in columns c and c + 1.
abbrev pub vote_in : List ℕ → ℕ → ℕ → Option Vote
vote_in t c i = vote_above (get_or t (column * c + i) 0) (get_or t (column * (c + 1) + i) 0)

-- Vault i has reported: its suggest or proof of this view is kept.
unfoldable pub reporter : List ℕ → ℕ → Bool
reporter t i = ltb i column && not (eqb (get_or t i 0) 0)

-- 'Reports are those in kept suggests (Rule 1) or proofs (Rule 3) of view v'.
unfoldable pub reports_in_table : List ℕ → Reports
reports_in_table t i = cond (reporter t i) (some (record { highest = vote_in t 1 i; previous = vote_in t 3 i; lock = vote_in t 5 i })) none
