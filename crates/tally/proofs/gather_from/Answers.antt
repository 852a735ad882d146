-- `tally::gather_from` meets its contract: a sender that reports in the view fills its row, and any other leaves the table.
-- Assumes nothing.
use Prim.Native.Nat.{ℕ, ◌+◌}
use mathlib.Core.Path.{refl, sym, ◌∙◌, ap, subst}
use mathlib.Core.List.{List}
use Rattle.tally.specs.inside.Parts.{block_place}
use Rattle.tally.specs.inside.Reports.{reports_by, Filled}
use Rattle.tally.proofs.Reports.{filled_skip, filled_more, untold, told_there}
use Rattle.tally.proofs.gather_from.Goals as goal

pub returns-then-is_of_view : goal.returns-then-is_of_view
returns-then-is_of_view c =
    let a = c.args in
    let there = told_there a.block.now a.kind a.v a.i c.block_place-at.result c.block_place-from.result c.is_of_view.result
    (c.block_place-at.ensures.0 ∙ ap block_place c.frame_slot.ensures.0)
    (c.block_place-from.ensures.0 ∙ ap block_place c.report_slot.ensures.0) c.is_of_view.ensures c.if-is_of_view.true in
    subst (λ (t : List ℕ). Filled (reports_by a.block.now a.kind a.v) (a.i + 1) t) (sym c.put_report.ensures)
    (filled_more (reports_by a.block.now a.kind a.v) a.i a.table.now c.requires.4 c.requires.1 _ _ _ there)

pub returns-else-is_of_view : goal.returns-else-is_of_view
returns-else-is_of_view c =
    let a = c.args in
    let off = untold a.block.now a.kind a.v a.i c.block_place-at.result _ c.is_of_view.result
    (c.block_place-at.ensures.0 ∙ ap block_place c.frame_slot.ensures.0) refl c.is_of_view.ensures c.if-is_of_view.false in
    filled_skip (reports_by a.block.now a.kind a.v) a.i a.table.now c.requires.4 c.requires.1 off
