-- What a remnant brings back (document 02, wish 6). Proved as `remnant_back` in proofs/Remnant.
-- Assumes nothing.
use Rattle.std.specs.Prelude.{ℕ, ◌≤◌, ◌≡◌, List, length}
use Rattle.wire.specs.Fields.{Bytes}
use Rattle.wire.specs.Placed.{placed}
use Rattle.record.specs.Slots as slots
use Rattle.record.specs.Layout.{decode_record}
use Rattle.sound.specs.declared.Lent.TheVariants as lent
use Rattle.sound.specs.inside.Sound.{lent_is}
use Rattle.protocol.specs.Alone.{alone, restarted}
use Rattle.contents.specs.Contents.{contents_in, slotted}
use Rattle.contents.specs.Left.{wrote}
use Rattle.contents.specs.Spelling.{LeavesSpelled}
use Rattle.own.specs.Size.{remnant_size}
use Rattle.own.specs.Part.{remnant_of}
use Rattle.contents.specs.Remnant.{remnant_left, restart_left}

pub record RemnantBack : Type 0 where
  -- 'a remnant of fixed length'.
  pub size : (r : slots.Record) → length (remnant_of r) ≡ remnant_size
  -- 'Write a remnant': that of a sound record is written, where there is space.
  pub written : (rec out : List ℕ) → lent_is rec ≡ lent.Sound → remnant_size ≤ length out
      → remnant_left rec out ≡ wrote remnant_size rec (placed out 0 (remnant_of (decode_record rec)))
  -- 'A restart makes a record with that row and no others, and a timer entry': from such a remnant it does, given space and a blank record.
  pub back : (rec blank out : List ℕ) → Bytes rec → lent_is rec ≡ lent.Sound → lent_is blank ≡ lent.Blank → 256 ≤ length out
      → LeavesSpelled (restarted (contents_in rec)) out (restart_left blank (remnant_of (decode_record rec)) out)
  -- 'any number of times': the remnant of what it leaves is the same.
  pub same : (rec : List ℕ) → Bytes rec → lent_is rec ≡ lent.Sound → remnant_of (slotted (alone (contents_in rec))) ≡ remnant_of (decode_record rec)
