-- Records whose numbers have their widths, and bytes that hold a record.
-- Assumes nothing.
use Rattle.std.specs.Prelude.{ℕ, ◌^◌, ◌≤◌, ◌<◌, ◌≡◌, List, length}
use Rattle.frame.specs.declared.Report.{Report}
use Rattle.settings.specs.declared.Settings.{Settings}
use Rattle.record.specs.Slots.{slot_count, empty_slot, Record}
use Rattle.record.specs.Layout.{decode_record}
use Rattle.record.specs.Size.{record_size}

-- ---- sizes

-- A practice's block: a head, and the other 835 slots.
abbrev pub block_size : ℕ
block_size = 10863

-- ---- widths

-- A slot whose numbers have their widths.
pub record Small (x : Report) : Type 0 where
  pub mark : x.mark < 256
  pub view : x.view < 256 ^ 4
  pub plan : x.plan < 256 ^ 8

-- Settings of one byte each.
pub record Narrow (s : Settings) : Type 0 where
  pub n : s.n < 256
  pub f : s.f < 256
  pub id : s.id < 256
  pub class : s.class < 256

-- A record whose parts fit: each number is one that its bytes can spell, and there is nothing beyond the last slot.
pub record FitsBytes (r : Record) : Type 0 where
  pub set : Narrow r.set
  pub view : r.view < 256 ^ 4
  pub plan : r.plan < 256 ^ 8
  pub slots : (i : ℕ) → Small (r.slots i)
  pub beyond : (i : ℕ) → slot_count ≤ i → r.slots i ≡ empty_slot

-- Bytes of a record's length that hold this record. Since a record has one spelling, no byte is left open.
pub record HoldsRecord (s : List ℕ) (r : Record) : Type 0 where
  pub size : length s ≡ record_size
  pub is : decode_record s ≡ r
