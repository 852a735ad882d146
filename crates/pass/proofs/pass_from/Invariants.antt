-- `pass::pass_from` meets its contract: one step after the other, up to the last. The view that is at hand is the record's.
-- Assumes nothing.
use Rattle.pass.specs.inside.Passes.{Going}
use Rattle.pass.proofs.pass_from.Given as goal

abbrev pub invariant-loop-k : goal.invariant-loop-k
invariant-loop-k l = Going l.initial.rec l.from l.at l.initial.out l.rec l.k l.count l.out l.view
