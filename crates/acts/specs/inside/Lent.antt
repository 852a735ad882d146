-- The record that a step is lent, as bytes, with its settings and its current view at hand, as the caller has read them.
-- Assumes nothing.
use Rattle.std.specs.Prelude.{ℕ, ◌≤◌, ◌<◌, ◌≡◌, List, length}
use Rattle.settings.specs.declared.Settings.{Settings}
use Rattle.settings.specs.inside.Allowed.{Allowed}
use Rattle.record.specs.Slots as slots
use Rattle.record.specs.Slots.{rows, slot_count, slot_of}
use Rattle.record.specs.Layout.{shared_size, part_place, slot_in, decode_record}
use Rattle.record.specs.Size.{record_size}
use Rattle.record.specs.inside.Layout.{block_size}
use Rattle.protocol.specs.Sound.{Sound}
use Rattle.contents.specs.Contents.{contents, contents_in}
use Rattle.tally.specs.inside.Parts.{shared_part, block_part, block_place}

-- A sound record whose slots stand in the two parts of some bytes that spell it.
pub record Reads (s : List ℕ) (r : slots.Record) : Type 0 where
  pub allows : Allowed r.set
  pub sound : Sound (contents r)
  pub shared : (i : ℕ) → i < rows → slot_of r i ≡ slot_in (shared_part s) (part_place i)
  pub block : (i : ℕ) → rows ≤ i → i < slot_count → slot_of r i ≡ slot_in (block_part s) (block_place i)
  pub size : length s ≡ record_size
  pub shared_length : length (shared_part s) ≡ shared_size
  pub block_length : length (block_part s) ≡ block_size
  pub spelt : contents r ≡ contents_in s

-- The bytes, with the settings and the view that they spell.
abbrev pub LentRecord : List ℕ → Settings → ℕ → Type 0
LentRecord s set view = Reads s (record { set = set; view = view; plan = (decode_record s).plan; slots = (decode_record s).slots })
