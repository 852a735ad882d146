-- What one call leaves, at any lent record, in a run or not.
-- Assumes nothing.
use Rattle.std.specs.Prelude.{ℕ, ◌≤◌, ◌≡◌, List, length, take, drop}
use Rattle.wire.specs.Fields.{Bytes}
use Rattle.entry.specs.Layout.{layout}
use Rattle.entry.specs.Valid.{AllValid}
use Rattle.entry.specs.Reading.{entries_of}
use Rattle.record.specs.Layout.{decode_record}
use Rattle.sound.specs.declared.Lent.TheVariants.{Sound}
use Rattle.sound.specs.inside.Sound.{lent_is}
use Rattle.protocol.specs.ReadsBack.{ReadBy}
use Rattle.contents.specs.Left.{Left, wrote, gave}
use Rattle.own.specs.Size.{remnant_size}
use Rattle.contents.specs.Remnant.{remnant_left, restart_left}
use Rattle.runs.specs.Runs.{ByteCall, InWidth}
use Rattle.runs.specs.Fixed.{leaves}

-- After an accepted call: a sound record, that refusal 3 never meets; written bytes that are entries end to end and nothing besides; and the rest of the
-- output as it was.
pub record Kept (out : List ℕ) (count : ℕ) (rec' out' : List ℕ) : Type 0 where
  pub sound : lent_is rec' ≡ Sound
  pub valid : AllValid (entries_of (take count out'))
  pub entries : layout (entries_of (take count out')) ≡ take count out'
  pub few : count ≤ 256
  pub size : length out' ≡ length out
  pub beyond : drop count out' ≡ drop count out

-- 'Each gives its number, zero bytes written, record and output unchanged', where the call is refused.
abbrev pub LeavesWell : List ℕ → List ℕ → Left → Type 0
LeavesWell rec out (wrote count rec' out') = Kept out count rec' out'
LeavesWell rec out (gave number rec' out') = (rec' ≡ rec) × (out' ≡ out)

-- Proved as `call_leaves_well` in proofs/Left.
abbrev pub AlwaysLeavesWell : Type 0
AlwaysLeavesWell = (rec out : List ℕ) (a : ByteCall) → Bytes rec → InWidth a → LeavesWell rec out (leaves rec a out)

-- The same of a restart (document 02, wish 6), whatever record and bytes it is lent. Proved as `restart_leaves_well` in proofs/Left.
abbrev pub RestartLeavesWell : Type 0
RestartLeavesWell = (rec remnant out : List ℕ) → Bytes remnant → LeavesWell rec out (restart_left rec remnant out)

-- After a remnant is written: the record as it was, and sound; a remnant's length of bytes written; and the rest of the output as it was.
pub record Copied (rec out : List ℕ) (count : ℕ) (rec' out' : List ℕ) : Type 0 where
  pub sound : lent_is rec ≡ Sound
  pub same : rec' ≡ rec
  pub whole : count ≡ remnant_size
  pub size : length out' ≡ length out
  pub beyond : drop count out' ≡ drop count out

abbrev pub CopiesWell : List ℕ → List ℕ → Left → Type 0
CopiesWell rec out (wrote count rec' out') = Copied rec out count rec' out'
CopiesWell rec out (gave number rec' out') = (rec' ≡ rec) × (out' ≡ out)

-- Proved as `write_leaves_well` in proofs/Left.
abbrev pub WriteLeavesWell : Type 0
WriteLeavesWell = (rec out : List ℕ) → CopiesWell rec out (remnant_left rec out)

-- 'wrote in an entry for all or for this vault': each other vault that a written frame is for reads it as that frame. n and the own number, which is
-- the link, are those of the record left.
abbrev pub ReadsBack : Left → Type 0
ReadsBack (wrote count rec' out') = ReadBy (decode_record rec').set (entries_of (take count out'))
ReadsBack (gave number rec' out') = Unit {0}

-- Proved as `call_reads_back` in proofs/Left.
abbrev pub AlwaysReadsBack : Type 0
AlwaysReadsBack = (rec out : List ℕ) (a : ByteCall) → Bytes rec → InWidth a → ReadsBack (leaves rec a out)
