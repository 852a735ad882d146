-- `vault::timer_refusal` meets its contract: the branches decide the rows 18 and 19.
-- Assumes nothing.
use Rattle.vault.proofs.Timers.{not_current, last_view, may_time_out}
use Rattle.vault.proofs.timer_refusal.Goals as goal

pub returns-then-view-current : goal.returns-then-view-current
returns-then-view-current c = not_current c.args.current c.args.view c.if-view-current.true

pub returns-then-current-eq-LAST : goal.returns-then-current-eq-LAST
returns-then-current-eq-LAST c =
    last_view _ c.args.view c.if-view-current.false c.if-current-eq-LAST.true

pub returns : goal.returns
returns c =
    may_time_out _ c.args.view c.if-view-current.false c.if-current-eq-LAST.false
