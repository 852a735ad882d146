-- `acts::act_at` meets its contract: by the step's number.
-- Assumes nothing.
use Prim.Native.Nat.{◌+◌, ◌-◌, ◌≤◌}
use mathlib.Core.Path.{◌≡◌, ◌∙◌}
use Rattle.acts.specs.inside.Acts.{act_at}
use Rattle.acts.specs.inside.Lent.{LentRecord}
use Rattle.acts.proofs.Parts.{lent}
use Rattle.acts.proofs.Numbers.{act_votes, numbered}
use native.Mathlib.Omega.{arith}
use Rattle.acts.proofs.act_at.Goals as goal
use Rattle.acts.proofs.act_at.Goals.{Start}

-- The record that the step is lent.
here : (e : Start) → LentRecord e.args.rec.now e.args.set e.args.view
here e = lent e.args.rec.now e.args.set e.args.view e.requires.0 e.requires.1 e.requires.2

pub act_a-requires : goal.act_a-requires
act_a-requires c = here (goal.at.act_a-requires c).Start

pub act_b-requires : goal.act_b-requires
act_b-requires c = here (goal.at.act_b-requires c).Start

pub act_c-requires : goal.act_c-requires
act_c-requires c = here (goal.at.act_c-requires c).Start

pub act_d-requires : goal.act_d-requires
act_d-requires c = here (goal.at.act_d-requires c).Start

pub act_vote-requires : goal.act_vote-requires
act_vote-requires c = (here (goal.at.act_vote-requires c).Start, omega arith, omega arith)

pub act_h-requires : goal.act_h-requires
act_h-requires c = here (goal.at.act_h-requires c).Start

pub returns-in-0 : goal.returns-in-0
unfolding act_at
returns-in-0 c = c.act_a.ensures ∙ numbered _ c.in-0.is

pub returns-in-1 : goal.returns-in-1
unfolding act_at
returns-in-1 c = c.act_b.ensures ∙ numbered _ c.in-1.is

pub returns-in-2 : goal.returns-in-2
unfolding act_at
returns-in-2 c = c.act_c.ensures ∙ numbered _ c.in-2.is

pub returns-in-3 : goal.returns-in-3
unfolding act_at
returns-in-3 c = c.act_d.ensures ∙ numbered _ c.in-3.is

pub returns-in-4-to-6 : goal.returns-in-4-to-6
returns-in-4-to-6 c =
    let low : 1 ≤ c.args.k - 3 = omega arith in
    let high : c.args.k - 3 ≤ 3 = omega arith in
    let is : c.args.k ≡ c.args.k - 3 + 3 = omega arith in
    c.act_vote.ensures ∙ act_votes (c.args.k - 3) _ low high ∙ numbered _ is

pub returns-in_default : goal.returns-in_default
unfolding act_at
returns-in_default c =
    let is : c.args.k ≡ 7 = omega (arith, c.requires.3) in
    c.act_h.ensures ∙ numbered _ is
