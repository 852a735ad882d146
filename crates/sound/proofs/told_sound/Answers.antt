-- `sound::told_sound` meets its contract: the own row, the view, the reports, and the leader of a suggest.
-- Assumes nothing.
use mathlib.Core.Path.{sym}
use Rattle.frame.proofs.Laws.{told}
use Rattle.sound.proofs.Laws.{off, on}
use Rattle.sound.proofs.Forms.{told_above, told_zero, told_bad, told_proof, told_suggest}
use Rattle.sound.proofs.told_sound.Goals as goal

pub returns-then-above : goal.returns-then-above
returns-then-above c =
    sym (told_above _ _ _ _ c.requires.0 c.requires.1.high c.requires.2 (told c.above.ensures c.if-above.true))

pub returns-then-head-eq0 : goal.returns-then-head-eq0
returns-then-head-eq0 c =
    sym (told_zero _ _ _ _ c.requires.0 c.requires.1.high c.requires.2 (told c.above.ensures c.if-above.false) c.if-head-eq0.true)

pub returns-then-not-reports_fit : goal.returns-then-not-reports_fit
returns-then-not-reports_fit c =
    sym (told_bad _ _ _ _ c.requires.0 c.requires.1.high c.requires.2 (told c.above.ensures c.if-above.false) c.if-head-eq0.false
    (off c.reports_fit.ensures c.if-not-reports_fit.true))

pub returns-then-head-ne-SUGGEST : goal.returns-then-head-ne-SUGGEST
returns-then-head-ne-SUGGEST c =
    sym (told_proof _ _ _ _ c.requires.0 c.requires.1.high c.requires.2 (told c.above.ensures c.if-above.false)
    c.if-head-eq0.false (on c.reports_fit.ensures c.if-not-reports_fit.false) c.if-head-ne-SUGGEST.true)

pub returns : goal.returns
returns c =
    sym (told_suggest _ _ _ _ c.requires.0 c.requires.1.high c.requires.2 (told c.above.ensures c.if-above.false)
    c.if-head-eq0.false (on c.reports_fit.ensures c.if-not-reports_fit.false) c.if-head-ne-SUGGEST.false)
