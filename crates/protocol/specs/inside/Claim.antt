-- Demand 3, by contents: 'a single claim about the whole list, and not one for each call'. Proved as `demand3_by_contents` in proofs/Demand.
-- Assumes nothing.
use Rattle.std.specs.Prelude.{ℕ, ◌<◌, ◌≡◌, true, List}
use Rattle.protocol.specs.inside.Runs.{ContentsSetting, ContentsItem, ContentsRun, ContentsDecides, ContentsStarted}

pub record ContentsClaim (c : ContentsSetting) (l : List ContentsItem) : Type 0 where
  -- 'Any two decisions in the list, of one vault or of two, are for the same plan.'
  pub agreement : (i j p q : ℕ) → ContentsDecides l i p → ContentsDecides l j q → p ≡ q
  -- 'If the set is all n numbers, each decision's plan is that of an accepted start in the list.'
  pub validity : ((i : ℕ) → i < c.vaults.n → c.keeps i ≡ true) → (i p : ℕ) → ContentsDecides l i p → ContentsStarted p l

abbrev pub Demand3ByContents : Type 0
Demand3ByContents = (c : ContentsSetting) (l : List ContentsItem) → ContentsRun c l → ContentsClaim c l
