-- `entries::host_size` meets its contract: a timer, a decision, or nothing known.
-- Assumes nothing.
use mathlib.Core.Path.{sym}
use Rattle.entry.proofs.Laws.{host_timer, host_decision, host_other}
use Rattle.entry.proofs.host_size.Goals as goal

pub returns-then-told-eq-HOST_TIMER : goal.returns-then-told-eq-HOST_TIMER
returns-then-told-eq-HOST_TIMER c = sym (host_timer _ c.if-told-eq-HOST_TIMER.true)

pub returns-then-told-eq-HOST_DECISION : goal.returns-then-told-eq-HOST_DECISION
returns-then-told-eq-HOST_DECISION c = sym (host_decision _ c.if-told-eq-HOST_DECISION.true)

pub returns : goal.returns
returns c = sym (host_other _ c.if-told-eq-HOST_TIMER.false c.if-told-eq-HOST_DECISION.false)
