-- `pass::write_entries` meets its contract: entries put one after the other lie end to end.
-- Assumes nothing.
use mathlib.Core.Path.{ap}
use native.Mathlib.Omega.{arith}
use Rattle.steps.specs.inside.Steps.{list_of}
use Rattle.pass.proofs.Runs.{size_three, wrote_zero, wrote_two, wrote_three}
use Rattle.pass.proofs.write_entries.Goals as goal

pub put_entry-third-requires : goal.put_entry-third-requires
put_entry-third-requires c =
    let size = size_three c.args.e _ _ _ (ap list_of c.in-Followed.is) in
    omega (arith, size, c.requires, c.put_entry-second.ensures.0)

pub put_entry-requires-in-Followed : goal.put_entry-requires-in-Followed
put_entry-requires-in-Followed c =
    let size = size_three c.args.e _ _ _ (ap list_of c.in-Followed.is) in
    omega (arith, size, c.requires, c.put_entry-second.ensures.0, c.put_entry-third.ensures.0)

pub returns-in-Zero : goal.returns-in-Zero
returns-in-Zero c =
    wrote_zero c.args.e c.args.at c.args.out.now c.requires (ap list_of c.in-Zero.is)

pub returns-in-Led : goal.returns-in-Led
returns-in-Led c =
    wrote_two c.args.e c.args.at c.args.out.now c.requires _ c.put_entry-next.ensures _ c.put_entry-in-Led.ensures
    (ap list_of c.in-Led.is)

pub returns-in-Followed : goal.returns-in-Followed
returns-in-Followed c =
    wrote_three c.args.e c.args.at c.args.out.now c.requires _ c.put_entry-second.ensures _ c.put_entry-third.ensures _
    c.put_entry-in-Followed.ensures (ap list_of c.in-Followed.is)
