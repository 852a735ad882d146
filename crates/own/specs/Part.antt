-- A vault's own part of its record: what it says of itself. Just that is changed by the steps of a pass (document 01, 'One pass'), and just that outlives
-- a power cut, as the remnant's bytes (document 02, wish 6). What the vault heard is every other slot.
-- Assumes nothing.
use Rattle.std.specs.Prelude.{ℕ, zero, suc, ◌+◌, ◌-◌, ◌*◌, ◌/◌, ◌%◌, cond, List, ◌∷◌, ◌++◌, ltb, eqb, get_or}
use Rattle.wire.specs.Digits.{number_at, digits}
use Rattle.frame.specs.declared.Report.{Report}
use Rattle.record.specs.Slots.{Record, kinds, first_previous, frame_slot, report_slot, empty_slot, slot_of}
use Rattle.record.specs.Layout.{slot_size, slot_in, spelled_slots}

-- 'the vault's own row, previous votes, decision': how many slots that is, 8 frames, 6 reports, 2 previous votes and the decision.
abbrev pub remnant_slots : ℕ
remnant_slots = 17

-- 'settings, starting plan, current view': what stands before the slots.
abbrev pub remnant_head : ℕ
remnant_head = 16

-- Which slot of a record the remnant's slot t is: the own frames of kinds 1 to 8; the three reports of the own suggest, then of the own proof; the
-- previous vote-1 and vote-2; the decision.
unfoldable pub own_slot : ℕ → ℕ → ℕ
own_slot id t =
    cond (ltb t kinds) (frame_slot (suc t) id)
    (cond (ltb t 14) (report_slot (7 + (t - kinds) / 3) ((t - kinds) % 3) id) (first_previous + (t - 14)))

-- Where its bytes stand in the remnant.
abbrev pub remnant_place : ℕ → ℕ
remnant_place t = remnant_head + slot_size * t

-- 'settings, starting plan, current view, the vault's own row, previous votes, decision': n, f, id, class (1 each), the current view (4), the starting
-- plan (8), and the 17 slots as the record spells them.
unfoldable pub remnant_of : Record → List ℕ
remnant_of r =
    (r.set.n ∷ r.set.f ∷ r.set.id ∷ r.set.class ∷ digits 4 r.view)
    ++ (digits 8 r.plan ++ spelled_slots (λ t. slot_of r (own_slot r.set.id t)) 0 remnant_slots)

-- The first own slots of vault id, each at its place in the record, over what was heard.
unfoldable pub put_over : ℕ → (ℕ → Report) → (ℕ → Report) → ℕ → ℕ → Report
put_over id own heard zero = heard
put_over id own heard (suc t) = λ i. cond (eqb (own_slot id t) i) (own t) (put_over id own heard t i)

-- The record that an own part makes with what was heard.
unfoldable pub over : (ℕ → Report) → List ℕ → Record
over heard s =
    record {
      set = record { n = get_or s 0 0; f = get_or s 1 0; id = get_or s 2 0; class = get_or s 3 0 };
      view = number_at 4 s 4;
      plan = number_at 8 s 8;
      slots = put_over (get_or s 2 0) (λ t. slot_in s (remnant_place t)) heard remnant_slots;
    }

-- 'A restart makes a record with that row and no others': nothing was heard.
abbrev pub restored : List ℕ → Record
restored s = over (λ i. empty_slot) s
