-- What a lent record is, in document 01's words ('What a vault keeps'). The calls test it on the slots (`lent_is`): whoever believes this need
-- not believe that test.
-- Assumes nothing.
use Rattle.std.specs.Prelude.{ℕ, ◌≡◌, ◌↔◌, List, length, get_or}
use Rattle.wire.specs.Fields.{Bytes}
use Rattle.record.specs.Slots as slots
use Rattle.record.specs.Slots.{slot_of}
use Rattle.record.specs.Layout.{decode_record}
use Rattle.record.specs.Size.{record_size}
use Rattle.sound.specs.declared.Lent.TheVariants as lent
use Rattle.sound.specs.inside.Sound.{lent_is}
use Rattle.protocol.specs.Sound.{Sound}
use Rattle.contents.specs.Contents.{contents, slots_at, contents_in}

-- 'whose bytes spell no record' is not so: the slots hold the record's contents, and nothing besides.
pub record Clean (r : slots.Record) : Type 0 where
  pub filled : (i : ℕ) → slot_of r i ≡ slots_at (contents r) i

-- Bytes that spell a record, the contents of which are sound.
pub record IsSound (s : List ℕ) : Type 0 where
  pub size : length s ≡ record_size
  pub clean : Clean (decode_record s)
  pub sound : Sound (contents_in s)

-- Proved as `lent_is_said` in proofs/Lent. Bytes that are neither blank nor sound are unsound.
pub record LentIsSaid : Type 0 where
  -- 'A lent record of the wrong length .. is unsound and not blank. Otherwise it is blank when its n is 0': n is the first byte.
  pub blank : (s : List ℕ) → ((length s ≡ record_size) × (get_or s 0 0 ≡ 0)) ↔ (lent_is s ≡ lent.Blank)
  -- 'It is sound when its settings pass 5 to 8, every kept frame passes 9 to 15 for its row ..'
  pub sound : (s : List ℕ) → Bytes s → IsSound s ↔ (lent_is s ≡ lent.Sound)
