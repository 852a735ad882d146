-- `equivocation::slot_in` meets its contract: a slot of the record that is lent where it lies.
-- Assumes nothing.
use mathlib.Core.Path.{ap, ◌∙◌}
use mathlib.Core.List.{List}
use Prim.Native.Nat.{ℕ}
use Rattle.record.specs.Layout.{decode_record}
use Rattle.equivocation.proofs.Laws.{record_lent}
use Rattle.equivocation.proofs.slot_in.Goals as goal

pub returns : goal.returns
returns c =
    let a = c.args in
    c.slot_of.ensures ∙ ap (λ (s : List ℕ). (decode_record s).slots a.slot) (record_lent a.records.now a.i)
