-- The record that ready bytes spell, seen through the two parts that steps are lent: its slots are those of the shared part, and then
-- those of the block. The settings and the current view are at hand, as the caller has read them.
-- Assumes nothing.
use Prim.Native.Nat.{ℕ, ◌+◌, ◌≤◌, ◌<◌}
use mathlib.Core.Path.{◌≡◌, sym, ◌∙◌, ap, subst}
use mathlib.Core.List.{List}
use native.Mathlib.Omega.{arith}
use lib.ListN.{length, drop, length-take, length-drop}
use Rattle.settings.specs.declared.Settings.{Settings}
use Rattle.settings.specs.inside.Allowed.{Allowed}
use Rattle.record.specs.Slots.{rows, slot_count, slot_of}
use Rattle.record.specs.Layout.{shared_size, part_place, slot_in, decode_record}
use Rattle.record.specs.inside.Layout.{block_size}
use Rattle.record.proofs.Laws.{place_shared, place_block, slot_there, slot_part}
use Rattle.protocol.specs.Sound.{Sound}
use Rattle.contents.specs.Contents.{contents, contents_in}
use Rattle.contents.specs.inside.Ready.{Ready}
use Rattle.contents.proofs.Ready.{ready_allowed}
use Rattle.tally.specs.inside.Parts.{shared_part, block_part, block_place}
use Rattle.acts.specs.inside.Lent.{LentRecord}

-- ---- the slots of a record

module _ (s : List ℕ) (i : ℕ) where
  -- A slot of the first 64 stands in the shared part.
  shared_slot : i < rows → slot_of (decode_record s) i ≡ slot_in (shared_part s) (part_place i)
  shared_slot low =
      let first : part_place i ≡ 0 + part_place i = omega arith in
      slot_there s i (omega arith) ∙ ap (slot_in s) (place_shared i low ∙ first) ∙ sym (slot_part 0 shared_size s (part_place i) (omega arith))

  -- Every other slot stands in the block.
  block_slot : rows ≤ i → i < slot_count → slot_of (decode_record s) i ≡ slot_in (block_part s) (block_place i)
  block_slot least low =
      slot_there s i low ∙ ap (slot_in s) (place_block i least) ∙ sym (slot_part shared_size block_size s (block_place i) (omega arith))

module _ (s : List ℕ) (ready : Ready s) where
  -- The shared part of a record's bytes has its size.
  shared_length : length (shared_part s) ≡ shared_size
  shared_length = length-take shared_size s ∙ omega (arith, ready.size)

  -- The block has its size.
  block_length : length (block_part s) ≡ block_size
  block_length = length-take block_size (drop shared_size s) ∙ omega (arith, length-drop shared_size s, ready.size)

-- Ready bytes are lent so: the slots can be read in the two parts, and the record is sound.
pub lent : (s : List ℕ) (set : Settings) (view : ℕ) → Ready s → set ≡ (decode_record s).set → view ≡ (decode_record s).view → LentRecord s set view
unfolding decode_record
lent s set view ready is_set is_view = record {
  allows = subst Allowed (sym is_set) (ready_allowed ready);
  sound = subst Sound (sym same) ready.sound;
  shared = λ i low. shared_slot s i low;
  block = λ i least low. block_slot s i least low;
  size = ready.size;
  shared_length = shared_length s ready;
  block_length = block_length s ready;
  spelt = same;
}
  where
    same : contents (record { set = set; view = view; plan = (decode_record s).plan; slots = (decode_record s).slots }) ≡ contents_in s
    same = λ i. contents (record { set = is_set i; view = is_view i; plan = (decode_record s).plan; slots = (decode_record s).slots })
