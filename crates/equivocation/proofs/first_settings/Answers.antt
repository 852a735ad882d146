-- `equivocation::first_settings` meets its contract: record 0 lies first.
-- Assumes nothing.
use mathlib.Core.Path.{ap, ◌∙◌}
use mathlib.Core.List.{List}
use Prim.Native.Nat.{ℕ}
use Rattle.record.specs.Layout.{decode_record}
use Rattle.equivocation.proofs.Laws.{first_lent}
use Rattle.equivocation.proofs.first_settings.Goals as goal

pub returns : goal.returns
returns c = c.settings_of.ensures ∙ ap (λ (s : List ℕ). (decode_record s).set) (first_lent c.args.records.now)
