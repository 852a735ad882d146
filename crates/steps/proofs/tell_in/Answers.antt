-- `steps::tell_in` meets its contract: by whether the vault leads the view.
-- Assumes nothing.
use native.Mathlib.Omega.{arith}
use Rattle.steps.proofs.Steps.{does_lead, does_follow}
use Rattle.steps.proofs.tell_in.Goals as goal

pub returns-then-to-set : goal.returns-then-to-set
returns-then-to-set c =
    does_lead (omega arith) c.requires.0 c.args.w c.requires.2.proofs c.requires.2.suggests
    c.timer_millis-millis.ensures
    c.leader_in-to.ensures
    c.put_view.ensures.changes
    c.keep_told.ensures c.if-to-set.true
    c.keep_told-then-to-set.ensures

pub returns : goal.returns
returns c =
    does_follow (omega arith) c.requires.0 c.args.w c.requires.2.proofs c.requires.2.suggests
    c.timer_millis-millis.ensures
    c.leader_in-to.ensures
    c.put_view.ensures.changes c.keep_told.ensures
    c.if-to-set.false
