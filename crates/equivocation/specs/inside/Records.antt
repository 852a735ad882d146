-- Records of one size end to end, and the search for two slots that differ, as the code goes through them.
-- Assumes nothing.
use Rattle.std.specs.Prelude.{ℕ, ◌+◌, ◌*◌, ◌≤◌, ◌≡◌, Bool, not, ◌&&◌, cond, List, [], ◌∷◌, eqb, length, get_or, take, drop}
use Rattle.rules.specs.Sets.{Set}
use Rattle.rules.specs.inside.Bools.{any_below}
use Rattle.frame.specs.declared.Report.{Report}
use Rattle.frame.specs.Refusal.{present}
use Rattle.settings.specs.declared.Settings.{Settings}
use Rattle.record.specs.Slots.{Record, frame_slot}
use Rattle.record.specs.Layout.{decode_record}
use Rattle.record.specs.Size.{record_size}
use Rattle.wire.specs.Placed.{placed}
use Rattle.sound.specs.inside.Sound.{lent_is}
use Rattle.contents.specs.Which.{is_sound}
use Rattle.equivocation.specs.Call.{unlike}

-- ---- the records

-- The bytes of record i.
unfoldable pub record_in : List ℕ → ℕ → List ℕ
record_in s i = take record_size (drop (record_size * i) s)

-- Record i.
abbrev pub read_in : List ℕ → ℕ → Record
read_in s i = decode_record (record_in s i)

-- So many records lie there.
abbrev pub Holds : List ℕ → ℕ → Type 0
Holds s count = record_size * count ≤ length s

-- Length i is a record's.
abbrev pub size_fits : List ℕ → ℕ → Bool
size_fits lengths i = eqb (get_or lengths i 0) record_size

-- The record is sound, and has the n and f of the settings.
unfoldable pub fits : Settings → List ℕ → Bool
fits set b = is_sound (lent_is b) && not (unlike set (decode_record b).set)

-- Record i does, with the settings of record 0.
abbrev pub fits_at : List ℕ → ℕ → Bool
fits_at s i = fits (read_in s 0).set (record_in s i)

-- ---- two slots

-- Kept frames of one view and with different plans, by their slots.
unfoldable pub slots_differ : Report → Report → Bool
slots_differ x y = present x && (present y && (eqb x.view y.view && not (eqb x.plan y.plan)))

-- A slot of records i and j.
abbrev pub clash : List ℕ → ℕ → ℕ → ℕ → Bool
clash s slot i j = slots_differ ((read_in s i).slots slot) ((read_in s j).slots slot)

-- A slot of record i differs from that of an earlier one.
abbrev pub clashes_before : List ℕ → ℕ → ℕ → Bool
clashes_before s slot i = any_below (clash s slot i) i

-- One of the first `count` records does.
unfoldable pub clashing : List ℕ → ℕ → ℕ → Bool
clashing s count slot = any_below (clashes_before s slot) count

-- A vault's slot of the next vote after so many does: 0 is for vote-1, which has kind 2.
abbrev pub vote_clashes : List ℕ → ℕ → ℕ → ℕ → Bool
vote_clashes s count sender vote = clashing s count (frame_slot (2 + vote) sender)

-- One of vote-1 to vote-4 does.
unfoldable pub twice_in : List ℕ → ℕ → Set
twice_in s count sender = any_below (vote_clashes s count sender) 4

-- ---- the output

-- A vault's number, if it is to be named.
abbrev pub whom : Bool → ℕ → List ℕ
whom twice sender = cond twice (sender ∷ []) []

-- These bytes were put at a place, behind them is the next place, and the rest of the output stays.
pub record Put (out : List ℕ) (at : ℕ) (bytes out' : List ℕ) (next : ℕ) : Type 0 where
  pub count : next ≡ at + length bytes
  pub left : out' ≡ placed out at bytes
