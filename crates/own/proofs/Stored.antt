-- Laws of an own part that is read off a record and put back. Read, its bytes are the remnant of the record, since each of its parts is copied as it stands;
-- put back, they make the record that they say with what was heard.
-- Assumes nothing.
use Prim.Native.Nat.{ℕ, ◌+◌, ◌-◌, ◌*◌, ◌≤◌, ◌<◌}
use mathlib.Core.Path.{◌≡◌, refl, sym, ap, subst, ◌∙◌}
use mathlib.Core.List.{List, [], ◌∷◌, ◌++◌, append_assoc, append-nil}
use native.Mathlib.Numerals.{add-one}
use native.Mathlib.Nat.{zero-add}
use native.Mathlib.Omega.{arith}
use lib.ListN.{length, get_or, take, drop, length-append, length-drop, drop_of_length-le}
use borrow.Rule.Slice.PartMut.{put_mid}
use lib.Seq.{take-add, drop-drop, drop-cons, length-take-le}
use Rattle.wire.specs.Fields.{Bytes}
use Rattle.wire.specs.Digits.{number_at, digits}
use Rattle.wire.specs.Placed.{placed}
use Rattle.wire.proofs.Laws.{length_digits, number_digits, digits_number}
use Rattle.wire.proofs.Output.{placed_none, placed_more}
use Rattle.frame.specs.declared.Report.{Report}
use Rattle.settings.specs.declared.Settings.{Settings}
use Rattle.record.specs.Slots.{Record, rows, slot_count, slot_of}
use Rattle.record.specs.Layout.{place, head_size, shared_size, slot_size, slot_in, slot_bytes, spelled_slots, decode_record}
use Rattle.record.specs.Size.{record_size}
use Rattle.record.specs.inside.Slots.{with_slot, with_view}
use Rattle.record.specs.inside.Layout.{FitsBytes, HoldsRecord}
use Rattle.record.proofs.Laws.{slot_there, holds_there, small_in, fits_decoded}
use Rattle.record.proofs.Put.{held_as}
use Rattle.record.proofs.Theorems.{length_slots, read_slots}
use Rattle.own.specs.Size.{remnant_size}
use Rattle.own.specs.Part.{remnant_slots, remnant_head, own_slot, remnant_place, remnant_of, put_over, over}
use Rattle.own.specs.inside.Own.{head_bytes, own_bytes, own_in, settings_in, view_in, plan_in, heard_in, OwnOf, Fitting, stored_to}
use Rattle.own.proofs.Slots.{over_more, over_none}

-- ---- bytes copied

-- Bytes written over a part of as many are put there.
pub part_copied : (src dst : List ℕ) (from to n : ℕ) (part : List ℕ) → from + n ≤ length src → part ≡ take (from + n - from) (drop from src)
    → put_mid to (to + n - to) dst part ≡ placed dst to (take n (drop from src))
unfolding placed
part_copied src dst from to n part room same =
    let few : from + n - from ≡ n = omega arith in
    let has : n ≤ length (drop from src) = rw length-drop (omega arith) in
    let long : length (take n (drop from src)) ≡ n = length-take-le n (drop from src) has in
    let rest : to + (to + n - to) ≡ to + length (take n (drop from src)) = omega arith in
    let copied : part ≡ take n (drop from src) = same ∙ ap (λ (m : ℕ). take m (drop from src)) few in
    (λ i. take to dst ++ (copied i ++ drop (to + n - to) (drop to dst)))
    ∙ ap (λ (l : List ℕ). take to dst ++ (take n (drop from src) ++ l)) (drop-drop (to + n - to) to dst ∙ ap (λ (m : ℕ). drop m dst) rest)

module _ (s : List ℕ) (bytes : Bytes s) where
  -- The thirteen bytes of a slot are those that spell what is read there.
  pub slot_written : (at : ℕ) → at + slot_size ≤ length s → take slot_size (drop at s) ≡ slot_bytes (slot_in s at)
  slot_written at h =
      let v : digits 4 (number_at 4 s (at + 1)) ≡ take 4 (drop (at + 1) s) = digits_number 4 s (at + 1) bytes (omega arith) in
      let p : digits 8 (number_at 8 s (at + 5)) ≡ take 8 (drop (at + 5) s) = digits_number 8 s (at + 5) bytes (omega arith) in
      let five : at + 1 + 4 ≡ at + 5 = omega arith in
      let two : take 12 (drop (at + 1) s) ≡ take 4 (drop (at + 1) s) ++ take 8 (drop (at + 5) s) =
      take-add 4 8 (drop (at + 1) s) ∙ ap (λ (l : List ℕ). take 4 (drop (at + 1) s) ++ take 8 l) (drop-drop 4 (at + 1) s ∙ ap (λ (n : ℕ). drop n s) five) in
      let one : drop at s ≡ get_or s at 0 ∷ drop (at + 1) s = drop-cons s at 0 (omega arith) ∙ ap (λ (n : ℕ). get_or s at 0 ∷ drop n s) (sym (add-one at)) in
      ap (take slot_size) one ∙ ap (λ (l : List ℕ). get_or s at 0 ∷ l) two ∙ sym (λ i. get_or s at 0 ∷ (v i ++ p i))

  -- So are those of a record's two heads.
  module _ (size : length s ≡ record_size) where
    first_head : take head_size (drop 0 s) ≡ get_or s 0 0 ∷ get_or s 1 0 ∷ get_or s 2 0 ∷ get_or s 3 0 ∷ digits 4 (number_at 4 s 4)
    first_head =
        let a = drop-cons s 0 0 (omega (arith, size)) in
        let b = drop-cons s 1 0 (omega (arith, size)) in
        let c = drop-cons s 2 0 (omega (arith, size)) in
        let d = drop-cons s 3 0 (omega (arith, size)) in
        let view = digits_number 4 s 4 bytes (omega (arith, size)) in
        ap (take head_size) a ∙ (λ i. get_or s 0 0 ∷ take 7 (b i)) ∙ (λ i. get_or s 0 0 ∷ get_or s 1 0 ∷ take 6 (c i))
        ∙ (λ i. get_or s 0 0 ∷ get_or s 1 0 ∷ get_or s 2 0 ∷ take 5 (d i)) ∙ sym (λ i. get_or s 0 0 ∷ get_or s 1 0 ∷ get_or s 2 0 ∷ get_or s 3 0 ∷ view i)

    second_head : take head_size (drop shared_size s) ≡ digits 8 (number_at 8 s shared_size)
    second_head = sym (digits_number 8 s shared_size bytes (omega (arith, size)))

    -- Both copied, one behind the other, are the head of the own part.
    pub head_loaded : (o : List ℕ) → remnant_size ≤ length o
        → placed (placed o 0 (take head_size (drop 0 s))) head_size (take head_size (drop shared_size s)) ≡ placed o 0 (head_bytes (decode_record s))
    unfolding head_bytes decode_record
    head_loaded o room =
        let first : List ℕ = get_or s 0 0 ∷ get_or s 1 0 ∷ get_or s 2 0 ∷ get_or s 3 0 ∷ digits 4 (number_at 4 s 4) in
        let plan : List ℕ = digits 8 (number_at 8 s shared_size) in
        let eight : 0 + length first ≡ head_size = zero-add (length first) ∙ simp length_digits in
        (λ i. placed (placed o 0 (first_head i)) head_size (second_head i))
        ∙ ap (λ (n : ℕ). placed (placed o 0 first) n plan) (sym eight)
        ∙ placed_more o 0 first plan (omega arith)

-- ---- slots put one behind the other

-- The head's length.
head_long : (r : Record) → length (head_bytes r) ≡ remnant_head
unfolding head_bytes
head_long r = simp (length-append, length_digits)

module _ (o : List ℕ) (r : Record) (id : ℕ) where
  -- No slot was put yet.
  pub slots_none : o ≡ placed o remnant_head (own_bytes r id 0)
  unfolding own_bytes spelled_slots
  slots_none = sym (placed_none o remnant_head)

  -- One slot more.
  slots_more : (t : ℕ) → remnant_size ≤ length o
      → placed (placed o remnant_head (own_bytes r id t)) (remnant_place t) (slot_bytes (slot_of r (own_slot id t))) ≡ placed o remnant_head (own_bytes r id (t + 1))
  unfolding own_bytes spelled_slots
  slots_more t room =
      let own : ℕ → Report = λ k. slot_of r (own_slot id k) in
      let so : List ℕ = spelled_slots own 0 t in
      rw add-one
      (ap (λ (n : ℕ). placed (placed o remnant_head so) (remnant_head + n) (slot_bytes (own t))) (sym (length_slots own 0 t))
      ∙ placed_more o remnant_head so (slot_bytes (own t)) (omega arith)
      ∙ ap (λ (k : ℕ). placed o remnant_head (so ++ slot_bytes (own k))) (sym (zero-add t)))

-- A slot of the record copied behind those that are there.
pub slots_copied : (o rec : List ℕ) (id : ℕ) (was left : List ℕ) (t : ℕ) {at own from : ℕ} → Bytes rec → length rec ≡ record_size → remnant_size ≤ length o
    → was ≡ placed o remnant_head (own_bytes (decode_record rec) id t) → own ≡ own_slot id t → own < slot_count → (from ≡ place own) × (from + slot_size ≤ record_size)
    → at ≡ remnant_place t → left ≡ placed was at (take slot_size (drop from rec)) → left ≡ placed o remnant_head (own_bytes (decode_record rec) id (t + 1))
slots_copied o rec id was left t {own = own} {from} bytes size room before eo low (ef, fits) ea put =
    let there : take slot_size (drop from rec) ≡ slot_bytes (slot_of (decode_record rec) (own_slot id t)) =
    slot_written rec bytes from (omega (arith, fits, size)) ∙ ap slot_bytes
    (ap (slot_in rec) ef ∙ sym (slot_there rec own low) ∙ ap (slot_of (decode_record rec)) eo) in
    put ∙ (λ i. placed (before i) (ea i) (there i)) ∙ slots_more o (decode_record rec) id t room

-- Head and slots together are the remnant.
pub whole_put : (o : List ℕ) (r : Record) → placed (placed o 0 (head_bytes r)) remnant_head (own_bytes r r.set.id remnant_slots) ≡ placed o 0 (remnant_of r)
unfolding head_bytes own_bytes remnant_of
whole_put o r =
    let head : List ℕ = r.set.n ∷ r.set.f ∷ r.set.id ∷ r.set.class ∷ digits 4 r.view in
    let plan : List ℕ = digits 8 r.plan in
    let slots : List ℕ = spelled_slots (λ k. slot_of r (own_slot r.set.id k)) 0 remnant_slots in
    ap (λ (n : ℕ). placed (placed o 0 (head ++ plan)) n slots) (sym (zero-add (length (head ++ plan)) ∙ head_long r))
    ∙ placed_more o 0 (head ++ plan) slots (omega arith)
    ∙ ap (placed o 0) (append_assoc head plan slots)

-- ---- a remnant read back

-- 'a remnant of fixed length'.
pub remnant_length : (r : Record) → length (remnant_of r) ≡ remnant_size
unfolding remnant_of
remnant_length r =
    let own : ℕ → Report = λ t. slot_of r (own_slot r.set.id t) in
    simp (length-append, length_digits, length_slots own 0 remnant_slots)

module _ (r : Record) (z : FitsBytes r) where
  -- The slots that it spells.
  abbrev own : ℕ → Report
  own t = slot_of r (own_slot r.set.id t)

  -- What stands before the current view.
  abbrev four : List ℕ
  four = r.set.n ∷ r.set.f ∷ r.set.id ∷ r.set.class ∷ []

  -- What stands before the slots.
  abbrev head : List ℕ
  head = (four ++ digits 4 r.view) ++ digits 8 r.plan

  -- The current view is read back.
  pub view_read : view_in (remnant_of r) ≡ r.view
  unfolding remnant_of
  view_read = number_digits 4 r.view four (digits 8 r.plan ++ spelled_slots own 0 remnant_slots) z.view

  -- The starting plan is read back.
  pub plan_read : plan_in (remnant_of r) ≡ r.plan
  unfolding remnant_of digits
  plan_read = number_digits 8 r.plan (four ++ digits 4 r.view) (spelled_slots own 0 remnant_slots) z.plan

  -- Each slot is read where it was spelt.
  place_is : (t : ℕ) → remnant_place t ≡ length head + slot_size * t
  unfolding digits
  place_is t = refl

  -- So it is read back.
  pub slot_read : (t : ℕ) → t < remnant_slots → own_in (remnant_of r) t ≡ own t
  unfolding remnant_of
  slot_read t low =
      let slots : List ℕ = spelled_slots own 0 remnant_slots in
      let whole : head ++ (slots ++ []) ≡ remnant_of r =
      ap (λ (l : List ℕ). head ++ l) (append-nil slots) ∙ append_assoc (four ++ digits 4 r.view) (digits 8 r.plan) slots in
      (λ i. slot_in (sym whole i) (place_is t i))
      ∙ read_slots own 0 remnant_slots t head [] (λ i. z.slots (own_slot r.set.id i)) low ∙ ap own (omega arith)

-- The settings are read back.
set_read : (r : Record) → settings_in (remnant_of r) ≡ r.set
unfolding remnant_of
set_read r = refl

-- Bytes put over as many are all of them.
all_put : (o bs : List ℕ) → length bs ≡ length o → placed o 0 bs ≡ bs
unfolding placed
all_put o bs same = ap (λ (l : List ℕ). bs ++ l) (drop_of_length-le o {i = 0 + length bs} (omega arith)) ∙ append-nil bs

-- What is read off a record is its own part.
pub own_read : (rec o : List ℕ) {bytes : List ℕ} → Bytes rec → (decode_record rec).set.id < rows → length o ≡ remnant_size
    → bytes ≡ placed o 0 (remnant_of (decode_record rec)) → OwnOf rec bytes
unfolding over
own_read rec o {bytes} b row size e =
    let r = decode_record rec in
    let z = fits_decoded rec b in
    let all : bytes ≡ remnant_of r = e ∙ all_put o (remnant_of r) (remnant_length r ∙ sym size) in
    let set = set_read r in
    let there : put_over (settings_in (remnant_of r)).id (own_in (remnant_of r)) (heard_in rec) remnant_slots ≡ heard_in rec =
    (λ i. put_over (set i).id (own_in (remnant_of r)) (heard_in rec) remnant_slots)
    ∙ over_none r.set.id row (heard_in rec) (own_in (remnant_of r)) remnant_slots (λ t low. slot_read r z t low) in
    let view = view_read r z in
    let plan = plan_read r z in
    record { is = ap (over (heard_in rec)) all ∙ (λ i. record { set = set i; view = view i; plan = plan i; slots = there i }) }

-- ---- put back

-- A slot of the own part copied to its place is that slot put into the record.
pub slot_stored : (s rec : List ℕ) (id t : ℕ) {left : List ℕ} {own to from : ℕ} → Bytes s → length s ≡ remnant_size → length rec ≡ record_size → own ≡ own_slot id t
    → own < slot_count → to ≡ place own → (from ≡ remnant_place t) × (from + slot_size ≤ remnant_size) → left ≡ placed rec to (take slot_size (drop from s))
    → HoldsRecord left (with_slot (decode_record rec) (own_slot id t) (own_in s t))
slot_stored s rec id t {left} {own} {to} {from} bytes long size eo low et (ef, fits) put =
    let there : take slot_size (drop from s) ≡ slot_bytes (slot_in s from) = slot_written s bytes from (omega (arith, fits, long)) in
    let is : left ≡ placed rec (place own) (slot_bytes (slot_in s from)) = put ∙ (λ i. placed rec (et i) (there i)) in
    held_as (subst (λ (l : List ℕ). HoldsRecord l (with_slot (decode_record rec) own (slot_in s from))) (sym is)
    (holds_there rec own (slot_in s from) size low (small_in s from bytes)))
    (λ i. with_slot (decode_record rec) (eo i) (slot_in s (ef i)))

module _ (rec : List ℕ) (id : ℕ) (s : List ℕ) (f : Fitting rec id s) {view : ℕ} (ev : view ≡ view_in s) {viewed : List ℕ}
    (put : HoldsRecord viewed (with_view (decode_record rec) view)) where
  -- The view is put back, and no slot yet.
  pub stored_none : HoldsRecord viewed (stored_to (decode_record viewed) id s 0)
  unfolding stored_to put_over
  stored_none =
      let v = ap (λ (x : Record). x.view) put.is ∙ ev in
      let r = decode_record viewed in
      record { size = put.size; is = λ i. record { set = r.set; view = v i; plan = r.plan; slots = r.slots } }

  -- All are put back.
  pub stored_all : {left : List ℕ} (t : ℕ) → t ≡ remnant_slots → HoldsRecord left (stored_to (decode_record viewed) id s t) → HoldsRecord left
      (over (heard_in rec) s)
  unfolding stored_to over
  stored_all {left} t all held =
      let set = sym f.set in
      let plan = sym f.plan in
      let own : id ≡ get_or s 2 0 = f.own ∙ ap (λ (x : Settings). x.id) set in
      let e = put.is in
      held_as held (ap (stored_to (decode_record viewed) id s) all ∙ (λ i. stored_to (e i) id s remnant_slots)
      ∙ (λ i. record { set = set i; view = view_in s; plan = plan i; slots = put_over (own i) (own_in s) (heard_in rec) remnant_slots }))

-- One slot more.
pub stored_next : (r : Record) (id : ℕ) (s : List ℕ) {was left : List ℕ} (t : ℕ) → HoldsRecord was (stored_to r id s t)
    → HoldsRecord left (with_slot (decode_record was) (own_slot id t) (own_in s t)) → HoldsRecord left (stored_to r id s (t + 1))
unfolding stored_to
stored_next r id s t before held =
    let e = before.is in
    let more = over_more id (own_in s) r.slots t in
    rw add-one (held_as held ((λ i. with_slot (e i) (own_slot id t) (own_in s t))
    ∙ (λ i. record { set = r.set; view = view_in s; plan = r.plan; slots = sym more i })))
