-- `row::reports_in` meets its contract: the three reports stand end to end, those of a suggest first.
-- Assumes nothing.
use mathlib.Core.Path.{sym, ap, ◌∙◌}
use native.Mathlib.Nat.{add-zero}
use native.Mathlib.Omega.{arith}
use Rattle.own.specs.inside.Own.{own_in}
use Rattle.remnant.proofs.Alone.{reports_there}
use Rattle.remnant.proofs.row.reports_in.Goals as goal

pub returns : goal.returns
returns c =
    let a = c.args in
    let k = c.requires.1 in
    let three = reports_there a.own.now (omega arith) k.row a.kind c.requires.0 k.high in
    let first = ap (own_in a.own.now) (sym (add-zero _)) ∙ three 0 (omega arith) in
    let highest = c.slot_in-highest.ensures ∙ first in
    let previous = c.slot_in-previous.ensures ∙ three 1 (omega arith) in
    let lock = c.slot_in-lock.ensures ∙ three 2 (omega arith) in
    λ i. record { highest = highest i; previous = previous i; lock = lock i }
