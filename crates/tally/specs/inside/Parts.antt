-- The two parts of a record's bytes that steps are lent, and where slots stand in them.
-- Assumes nothing.
use Rattle.std.specs.Prelude.{ℕ, ◌+◌, ◌-◌, ◌*◌, List, take, drop}
use Rattle.frame.specs.declared.Report.{Report}
use Rattle.record.specs.Slots.{rows}
use Rattle.record.specs.Layout.{slot_size, shared_size, part_place, slot_in}
use Rattle.record.specs.inside.Layout.{block_size}

-- The settings, the current view, and the row of view-changes.
abbrev pub shared_part : List ℕ → List ℕ
shared_part s = take shared_size (drop 0 s)

-- The starting plan, and all other slots.
abbrev pub block_part : List ℕ → List ℕ
block_part s = take block_size (drop shared_size s)

-- Where slot i of a record stands in the block.
abbrev pub block_place : ℕ → ℕ
block_place i = part_place (i - rows)

-- The slots that stand end to end from a place on.
abbrev pub row_in : List ℕ → ℕ → ℕ → Report
row_in part from j = slot_in part (from + slot_size * j)
