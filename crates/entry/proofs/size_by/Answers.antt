-- `entries::size_by` meets its contract: the host's entries, and the frames.
-- Assumes nothing.
use mathlib.Core.Path.{sym, ◌∙◌}
use Rattle.entry.proofs.Laws.{by_host, by_the_frame}
use Rattle.entry.proofs.size_by.Goals as goal

pub returns-then-to-eq-TO_HOST : goal.returns-then-to-eq-TO_HOST
returns-then-to-eq-TO_HOST c = c.host_size.ensures ∙ sym (by_host _ _ c.if-to-eq-TO_HOST.true)

pub returns : goal.returns
returns c = c.frame_size.ensures ∙ sym (by_the_frame _ _ c.if-to-eq-TO_HOST.false)
