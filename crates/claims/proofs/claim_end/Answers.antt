-- `claims::claim_end` meets its contract.
-- A reporter claims in the views up to its reach, below the end (`end_in`); a vault that has not reported in none (`end_silent`).
-- Assumes nothing.
use mathlib.Core.Path.{sym, ◌∙◌}
use native.Mathlib.Omega.{arith}
use Rattle.claims.proofs.Standing.{end_in, end_silent}
use Rattle.claims.proofs.claim_end.Goals as goal

pub returns-then-reach-end : goal.returns-then-reach-end
returns-then-reach-end c =
    let a = c.args in
    let reports = sym c.reported.ensures ∙ c.if-reported.true in
    rw (end_in a.table.now a.r a.end a.p reports, ← c.reach_of-reach.ensures) (omega arith)

pub returns-then-reported : goal.returns-then-reported
returns-then-reported c =
    let a = c.args in
    let reports = sym c.reported.ensures ∙ c.if-reported.true in
    rw (end_in a.table.now a.r a.end a.p reports, ← c.reach_of-reach.ensures) (omega arith)

pub returns : goal.returns
returns c =
    let a = c.args in
    sym (end_silent a.table.now a.r a.end a.p (sym c.reported.ensures ∙ c.if-reported.false))
