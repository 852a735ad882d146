-- `tally::vote_share` meets its contract: a vote of the view is there, and is for the plan.
-- Assumes nothing.
use mathlib.Core.Path.{sym, ◌∙◌, ap}
use mathlib.Core.Option.{some}
use borrow.Author.Rules.{rules}
use Rattle.record.specs.Layout.{slot_in}
use Rattle.tally.specs.inside.Votes.{voted}
use Rattle.tally.proofs.Votes.{voted_plan, told_none}
use Rattle.tally.proofs.vote_share.Goals as goal
use Rattle.tally.proofs.vote_share.Goals.{then-is_of_view, else-is_of_view}

pub returns : goal.returns
returns c =
    let a = c.args in
    let told = sym c.is_of_view.ensures in
    let slot = slot_in a.block.now a.at in
    elim c.if-is_of_view.branch [
      | then-is_of_view w ↦
          let is = voted_plan a.v slot (told ∙ w.if-is_of_view.true) ∙ ap some (sym w.plan_at.ensures) in
          rw is (simp (c.from.ensures, w.from-is) (search rules))
      | else-is_of_view w ↦
          let off = told_none (voted a.v slot) (told ∙ w.if-is_of_view.false) in
          simp (off, c.from.ensures, w.from-is, w.if-is_of_view.false)
    ]
