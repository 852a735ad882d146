-- `safe::unlocked_share` meets its contract.
-- A vault counts where it has reported and has no lock.
-- Assumes nothing.
use Prim.Native.Nat.{◌+◌, ◌*◌}
use mathlib.Core.Path.{sym, ◌∙◌}
use mathlib.Core.Logic.{inl, inr}
use lib.Dec.{eqb}
use lib.ListN.{get_or}
use Rattle.rules.proofs.Bools.{which}
use Rattle.claims.specs.Table.{column, reports_in_table, vote_above}
use Rattle.rules.specs.Rules.{unlocked}
use Rattle.safe.proofs.unlocked_share.Goals as goal
use Rattle.safe.proofs.unlocked_share.Goals.{then-reported, else-reported}

pub returns : goal.returns
unfolding reports_in_table unlocked vote_above
returns c =
    let reports = sym c.reported.ensures in
    elim c.if-reported.branch [
      | then-reported w ↦ elim (which (eqb (get_or c.args.table.now (column * 5 + c.args.r) 0) 0)) [
        | inl e ↦ simp (c.from.ensures, w.from-is, w.lock_of.ensures, reports ∙ w.if-reported.true, e)
        | inr e ↦ simp (c.from.ensures, w.from-is, w.lock_of.ensures, reports ∙ w.if-reported.true, e)
      ]
      | else-reported w ↦ simp (c.from.ensures, w.from-is, w.if-reported.false, reports ∙ w.if-reported.false)
    ]
