-- What the desk may conclude from two plans (document 02, wish 5): a vault that keeps the rules votes once of a kind in a view, so the records of such
-- vaults keep one plan of it. Nothing is said of records that others hand in, nor of runs in which more than f break the rules.
-- Assumes nothing.
use Rattle.std.specs.Prelude.{ℕ, ◌≤◌, ◌<◌, ◌≡◌, true, List, ◌++◌}
use Rattle.std.proofs.Math.Option.{some}
use Rattle.frame.specs.declared.Body.TheVariants.{Plan}
use Rattle.record.specs.Slots.{rows}
use Rattle.record.specs.Layout.{decode_record}
use Rattle.record.specs.Kept.{kept_frame}
use Rattle.sound.specs.declared.Lent.TheVariants.{Sound}
use Rattle.sound.specs.inside.Sound.{lent_is}
use Rattle.runs.specs.Runs.{Rules, Setting, Item, record_at, Run}

-- 'vault records': one that a rule-keeping vault had at some moment of the list, before the calls `later`.
pub record Had (c : Setting) (l : List Item) (rec : List ℕ) : Type 0 where
  pub at : ℕ
  pub keeps : c.keeps at ≡ true
  pub later : List Item
  pub earlier : List Item
  pub moment : l ≡ later ++ earlier
  pub had : record_at c earlier at ≡ rec

-- A sound record keeps in row s a proposal or vote of kind k, for view v and plan p.
abbrev pub KeepsPlan : List ℕ → ℕ → ℕ → ℕ → ℕ → Type 0
KeepsPlan rec k s v p = (lent_is rec ≡ Sound) × (kept_frame (decode_record rec) k s ≡ some (record { kind = k; sender = s; view = v; body = Plan p }))

-- 'every frame going out once': of a rule-keeper, two such records keep no two plans for one view and one kind, proposals too. Proved as `one_plan_fixed`
-- in proofs/Votes.
abbrev pub OnePlanKept : Rules → Type 0
OnePlanKept keeps_rules = (c : Setting) (l : List Item) → Run c keeps_rules l → (a b : List ℕ) → Had c l a → Had c l b
    → (k s v p q : ℕ) → 1 ≤ k → k ≤ 5 → s < rows → c.keeps s ≡ true → KeepsPlan a k s v p → KeepsPlan b k s v q → p ≡ q
