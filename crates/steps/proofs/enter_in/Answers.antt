-- `steps::enter_in` meets its contract: with the own reports as they are before the view is entered.
-- Assumes nothing.
use Prim.Native.Nat.{◌<◌}
use mathlib.Core.Path.{sym, subst}
use Rattle.settings.specs.declared.Settings.{Settings}
use Rattle.steps.proofs.enter_in.Goals as goal

pub tell_in-entries-requires : goal.tell_in-entries-requires
tell_in-entries-requires c =
    let set = c.settings_in-set.ensures in
    let some = subst (λ (x : Settings). 0 < x.n) (sym set) c.requires in
    (set, some, record { proofs = c.reports_of-proof.ensures; suggests = c.reports_of-suggest.ensures })
