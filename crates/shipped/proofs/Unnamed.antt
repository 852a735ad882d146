-- Who keeps the rules is not named by records of such vaults: whoever is named has two plans for one view and one kind in two of them (`named_iff` of
-- crate equivocation), and of a rule-keeper such records keep one (`one_plan_by` of crate runs).
-- Assumes nothing.
use Prim.Native.Nat.{ℕ, ◌<◌}
use mathlib.Core.Path.{◌≡◌}
use native.Mathlib.Omega.{arith}
use lib.ListN.{length}
use Rattle.runs.specs.Runs.{Rules}
use Rattle.runs.proofs.Demand.{Follows}
use Rattle.runs.proofs.Votes.{one_plan_by}
use Rattle.equivocation.specs.Call.{handed_in}
use Rattle.equivocation.proofs.Lists.{handed_length}
use Rattle.equivocation.proofs.Sentences.{accepted_sound, named_iff}
use Rattle.shipped.specs.Contracts.{Contract}
use Rattle.shipped.specs.Exports.{ExportContract}
use Rattle.shipped.specs.Unnamed.{KeepersUnnamed}
use Rattle.shipped.proofs.Demand.{contract_fixed}
use Rattle.shipped.proofs.Exports.{export_fixed}

-- Of all calls that leave no more than the paper lets them.
unnamed_by : {keeps_rules : Rules} → Follows keeps_rules → KeepersUnnamed keeps_rules
unnamed_by law c l run records lengths out left count s e had keeps at =
    let t = (named_iff records lengths out left count s e).0 at in
    let (li, lj) = t.records in
    let (low, high) = t.vote in
    let long : length (handed_in lengths records) ≡ length lengths = handed_length lengths records in
    let sound : (i : ℕ) → i < length (handed_in lengths records) → _ = λ i less. accepted_sound records lengths out left count i e less in
    t.plans
    (one_plan_by law c l run _ _ (had t.i (omega arith)) (had t.j (omega arith)) t.kind s t.view t.p t.q (omega arith) high t.row keeps
    (sound t.i li, t.here) (sound t.j lj, t.there))

-- Of the calls of crate vault.
pub keepers_unnamed : KeepersUnnamed Contract
keepers_unnamed = unnamed_by contract_fixed

-- Of the exports.
pub keepers_unnamed_by_exports : KeepersUnnamed ExportContract
keepers_unnamed_by_exports = unnamed_by export_fixed
