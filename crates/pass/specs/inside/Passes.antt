-- A pass on its way (document 01, 'One pass').
-- Assumes nothing.
use Rattle.std.specs.Prelude.{ℕ, ◌≤◌, ◌≡◌, List, length, drop}
use Rattle.record.specs.Layout.{decode_record}
use Rattle.protocol.specs.Pass.{Step, pass, from_a}
use Rattle.contents.specs.Contents.{contents_in}
use Rattle.contents.specs.inside.Ready.{Ready}
use Rattle.pass.specs.inside.Steps.{Room, Ran}

-- 'in this order': the steps from a number on.
abbrev pub steps_from : ℕ → List Step
steps_from k = drop k from_a

-- A pass on its way: it has left a record and written up to a place, and is at the step of a number, with the current view at hand. Where the
-- steps from there on are run, so is the whole pass.
pub record Going (first : List ℕ) (from at : ℕ) (before : List ℕ) (rec : List ℕ) (k count : ℕ) (there : List ℕ) (view : ℕ) : Type 0 where
  pub here : view ≡ (decode_record rec).view
  pub ready : Ready rec
  pub same : (decode_record rec).set ≡ (decode_record first).set
  pub most : k ≤ 8
  pub size : length there ≡ length before
  pub room : Room (pass (steps_from k) (contents_in rec)) count there
  pub rest : (after : List ℕ) (n : ℕ) (left : List ℕ) → Ran (pass (steps_from k) (contents_in rec)) count there after n left
      → Ran (pass (steps_from from) (contents_in first)) at before after n left
