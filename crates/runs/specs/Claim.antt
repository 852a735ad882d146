-- Demand 3, over bytes: 'a single claim about the whole list, and not one for each call'. Proved as `demand3` and `demand3_of_exports` in crate shipped.
-- Assumes nothing.
use Rattle.std.specs.Prelude.{ℕ, ◌<◌, ◌≡◌, true, List}
use Rattle.runs.specs.Runs.{Rules, Setting, Item, Run, Decides, Started}

pub record Claim (c : Setting) (l : List Item) : Type 0 where
  -- 'Any two decisions in the list, of one vault or of two, are for the same plan.'
  pub agreement : (i j p q : ℕ) → Decides l i p → Decides l j q → p ≡ q
  -- 'If the set is all n numbers, each decision's plan is that of an accepted start in the list.'
  pub validity : ((i : ℕ) → i < c.vaults.n → c.keeps i ≡ true) → (i p : ℕ) → Decides l i p → Started p l

-- Of calls that keep the rules as the paper has them (`Fixed`), or as the contracts of a program's functions do.
abbrev pub Demand3 : Rules → Type 0
Demand3 keeps_rules = (c : Setting) (l : List Item) → Run c keeps_rules l → Claim c l
