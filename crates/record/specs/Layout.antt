-- The record's bytes. The layout is this program's choice: a shared part (settings, current view, the row of view-changes), then one
-- practice's block (starting plan, all other slots). Each part has a head of 8 bytes, then its slots of 13 bytes end to end. Every
-- string of 11,703 bytes spells one record. So it can spell a blank record and every content, and 'spells no record' is: another length.
-- Assumes nothing.
use Rattle.std.specs.Prelude.{ℕ, zero, suc, ◌+◌, ◌-◌, ◌*◌, cond, List, [], ◌∷◌, ◌++◌, ltb, get_or}
use Rattle.wire.specs.Digits.{number_at, digits}
use Rattle.frame.specs.declared.Report.{Report}
use Rattle.record.specs.Slots.{rows, slot_count, empty_slot, Record}

-- ---- sizes

-- The head of a part: n, f, id, class (1 each) and the current view (4) in the shared part; the starting plan (8) in the block.
abbrev pub head_size : ℕ
head_size = 8

-- 'a mark (1 present, 0 absent), a view (4 bytes) and a plan (8)': a slot.
abbrev pub slot_size : ℕ
slot_size = 13

-- The shared part: a head, and the 64 slots of the view-changes.
abbrev pub shared_size : ℕ
shared_size = 840

-- ---- places

-- Where the current view stands in the shared part's head, behind n, f, id and class.
abbrev pub view_place : ℕ
view_place = 4

-- Where the bytes of slot i of a part stand.
abbrev pub part_place : ℕ → ℕ
part_place i = head_size + slot_size * i

-- Where the bytes of slot i of a record stand: the first 64 slots are the shared part's, the others the block's.
unfoldable pub place : ℕ → ℕ
place i = cond (ltb i rows) (part_place i) (shared_size + part_place (i - rows))

-- ---- slots

-- 'a mark (1 present, 0 absent), a view (4 bytes) and a plan (8)': the slot whose bytes stand at a place.
abbrev pub slot_in : List ℕ → ℕ → Report
slot_in s at = record { mark = get_or s at 0; view = number_at 4 s (at + 1); plan = number_at 8 s (at + 5) }

-- The bytes of a slot.
abbrev pub slot_bytes : Report → List ℕ
slot_bytes x = x.mark ∷ (digits 4 x.view ++ digits 8 x.plan)

-- The bytes of the slots from a number on, end to end.
unfoldable pub spelled_slots : (ℕ → Report) → ℕ → ℕ → List ℕ
spelled_slots slots from zero = []
spelled_slots slots from (suc k) = spelled_slots slots from k ++ slot_bytes (slots (from + k))

-- ---- the record

-- 'n, f, id, class', the current view, and the row of view-changes.
unfoldable pub shared_of : Record → List ℕ
shared_of r =
    (r.set.n ∷ r.set.f ∷ r.set.id ∷ r.set.class ∷ digits 4 r.view) ++ spelled_slots r.slots 0 rows

-- The starting plan, the other kinds' rows and reports, the previous votes and the decision.
unfoldable pub block_of : Record → List ℕ
block_of r = digits 8 r.plan ++ spelled_slots r.slots rows (slot_count - rows)

-- The bytes of a record.
unfoldable pub encode_record : Record → List ℕ
encode_record r = shared_of r ++ block_of r

-- The record that bytes spell.
unfoldable pub decode_record : List ℕ → Record
decode_record s =
    record {
      set = record { n = get_or s 0 0; f = get_or s 1 0; id = get_or s 2 0; class = get_or s 3 0 };
      view = number_at 4 s view_place;
      plan = number_at 8 s shared_size;
      slots = λ i. cond (ltb i slot_count) (slot_in s (place i)) empty_slot;
    }
