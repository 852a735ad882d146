-- `safe::allow_share` meets its contract.
-- No lock or a lower one allows every plan (`allows_every`), one at view u its own (`allows_one`), a higher one none.
-- Assumes nothing.
use mathlib.Core.Path.{◌≡◌, refl, sym, ◌∙◌}
use mathlib.Core.Bool.{true}
use Rattle.claims.proofs.Rows.{silent}
use Rattle.claims.specs.inside.Rows.{for_all, for_one, for_none}
use Rattle.claims.specs.Table.{reporter}
use Rattle.rules.specs.Rules.{allows}
use Rattle.safe.proofs.Locks.{allows_every, allows_one, allows_none}
use Rattle.safe.proofs.allow_share.Goals as goal
use Rattle.safe.proofs.allow_share.Goals.{After-lock_of-above}

-- The vault has reported.
reports : (c : After-lock_of-above) → reporter c.args.table.now c.args.r ≡ true
reports c = sym c.reported.ensures ∙ c.if-reported.true

pub returns-then-above-u : goal.returns-then-above-u
returns-then-above-u c =
    let a = c.args in
    for_all refl refl (λ p. allows_every a.table.now a.r (reports (goal.at.returns-then-above-u c).After-lock_of-above) _ c.lock_of-above.ensures a.u p c.if-above-u.true)

pub returns-then-above-u-2 : goal.returns-then-above-u-2
returns-then-above-u-2 c =
    let a = c.args in
    for_one refl refl (λ p. allows_one a.table.now a.r (reports (goal.at.returns-then-above-u-2 c).After-lock_of-above) _ c.lock_of-above.ensures a.u p c.if-above-u.false c.if-above-u-2.true)

pub returns-then-reported : goal.returns-then-reported
returns-then-reported c =
    let a = c.args in
    for_none refl refl (λ p. allows_none a.table.now a.r (reports (goal.at.returns-then-reported c).After-lock_of-above) _ c.lock_of-above.ensures a.u p c.if-above-u.false c.if-above-u-2.false)

pub returns : goal.returns
returns c =
    let a = c.args in
    for_none refl refl (λ p. silent a.table.now a.r (allows p a.u) (sym c.reported.ensures ∙ c.if-reported.false))
