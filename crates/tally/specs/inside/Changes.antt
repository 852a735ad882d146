-- View-changes, slot by slot, and the highest view with enough of them (document 01, 'One pass', A and B).
-- Assumes nothing.
use Rattle.std.specs.Prelude.{ℕ, ◌≤◌, ◌<◌, max, ◌≡◌, Bool, true, cond, ◌&&◌, List, leb, ltb, length, get_or}
use Rattle.std.proofs.Math.Option.{Option, none, some}
use Rattle.rules.specs.Sets.{Set, weigh}
use Rattle.rules.specs.Options.{holds}
use Rattle.frame.specs.declared.Report.{Report}
use Rattle.frame.specs.Refusal.{present}
use Rattle.record.specs.Layout.{head_size}
use Rattle.tally.specs.inside.Parts.{row_in}

-- 'view-changes are for w': the view for which the one in a slot is, where one is kept.
unfoldable pub asks : Report → Option ℕ
asks slot = cond (present slot) (some slot.view) none

-- The view for which sender j's view-change is, in the shared part.
abbrev pub change_in : List ℕ → ℕ → Option ℕ
change_in shared j = asks (row_in shared head_size j)

-- 'above the current view and above the vault's own view-change, where it has sent one': above this.
abbrev pub news_from : ℕ → Option ℕ → ℕ
news_from view none = view
news_from view (some own) = max view own

-- 'a kept view-change for w counts for every view up to w' (document 02, wish 3): those who ask for w are the senders for w or later.
abbrev pub askers : (ℕ → Option ℕ) → ℕ → Set
askers change w j = holds (leb w) (change j)

-- They are as many as are needed, of n.
unfoldable pub enough : (ℕ → Option ℕ) → ℕ → ℕ → ℕ → Bool
enough change n need w = leb need (weigh (λ i. 1) (askers change w) n)

-- How many of the first k views ask for w: they are w or later.
abbrev pub asking : List ℕ → ℕ → ℕ → ℕ
asking views k w = weigh (λ i. 1) (λ j. leb w (get_or views j 0)) k

-- As many of the first `count` views as are needed ask for a view above low where so many of n view-changes do.
pub record Gathered (change : ℕ → Option ℕ) (n need low : ℕ) (views : List ℕ) (count : ℕ) : Type 0 where
  pub most : count ≤ n
  pub same : (w : ℕ) → low < w → leb need (asking views count w) ≡ enough change n need w

-- The highest view so far, once w is tried: it is above that, and enough ask for it.
unfoldable pub raised_to : List ℕ → ℕ → ℕ → ℕ → ℕ
raised_to views w need best = cond (ltb best w && leb need (asking views (length views) w)) w best

-- 'Take the highest ..': the highest view above low that passes a test, low where there is none.
pub record Highest (test : ℕ → Bool) (low best : ℕ) : Type 0 where
  pub least : low ≤ best
  pub passes : low < best → test best ≡ true
  pub most : (w : ℕ) → low < w → test w ≡ true → w ≤ best
