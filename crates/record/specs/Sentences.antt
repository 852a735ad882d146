-- The layout is one to one: 'each layout can spell a blank record, and every content that accepted calls reach from a blank record', and no string of a
-- record's length is left over.
-- Assumes nothing.
use Rattle.std.specs.Prelude.{ℕ, ◌≡◌, List, length}
use Rattle.wire.specs.Fields.{Bytes}
use Rattle.record.specs.Layout.{encode_record, decode_record}
use Rattle.record.specs.Size.{record_size}

-- Proved as `layout_is_one_to_one` in proofs/Theorems.
pub record LayoutIsOneToOne : Type 0 where
  -- Bytes of a record's length spell a record, and are the bytes of that record.
  pub written_back : (s : List ℕ) → Bytes s → length s ≡ record_size → encode_record (decode_record s) ≡ s
  -- Bytes that spell the same record are the same.
  pub once : (s t : List ℕ) → Bytes s → Bytes t → length s ≡ record_size → length t ≡ record_size → decode_record s ≡ decode_record t → s ≡ t
