-- Slots and records with something changed, as the code changes them.
-- Assumes nothing.
use Rattle.std.specs.Prelude.{ℕ, ◌≤◌, ◌<◌, cond, eqb}
use Rattle.frame.specs.declared.Report.{Report}
use Rattle.settings.specs.declared.Settings.{Settings}
use Rattle.record.specs.Slots.{rows, kinds, empty_slot, Record}

-- ---- where

-- 'For each sender and kind': a kind, and a sender that a record has a row for.
pub record RowPlace (kind sender : ℕ) : Type 0 where
  pub low : 1 ≤ kind
  pub high : kind ≤ kinds
  pub row : sender < rows

-- ---- what

-- Slots of which one has another content.
unfoldable pub slot_put : (ℕ → Report) → ℕ → Report → ℕ → Report
slot_put slots at slot i = cond (eqb at i) slot (slots i)

-- The record with another content in one slot.
abbrev pub with_slot : Record → ℕ → Report → Record
with_slot r at slot = record { set = r.set; view = r.view; plan = r.plan; slots = slot_put r.slots at slot }

-- The record at another current view.
abbrev pub with_view : Record → ℕ → Record
with_view r view = record { set = r.set; view = view; plan = r.plan; slots = r.slots }

-- 'it enters view 0 with .. no kept frames and no reports'
unfoldable pub fresh_slots : Settings → ℕ → Record
fresh_slots set plan = record { set = set; view = 0; plan = plan; slots = λ i. empty_slot }
