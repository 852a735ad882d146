-- The layout is a bijection between records whose parts fit and strings of 11,703 bytes ('each layout can spell a blank record,
-- and every content that accepted calls reach from a blank record', 01, The weight of each public call): what is written is read
-- back (`decode_encode`), what is read is written as it stood (`encode_decode`), so each content has one spelling (`one_spelling`,
-- `holds_same`). Both go part by part: a head, then the slots end to end, by induction on their count.
-- Assumes nothing.
use Prim.Native.Nat.{ℕ, zero, suc, ◌+◌, ◌-◌, ◌*◌, ◌≤◌, ◌<◌}
use mathlib.Core.Path.{◌≡◌, refl, ap, sym, ◌∙◌}
use mathlib.Core.Logic.{⊎_elim}
use mathlib.Core.Bool.{Bool, true, false}
use mathlib.Core.List.{List, [], ◌∷◌, ◌++◌, append_assoc, append-nil}
use native.Mathlib.Nat.{mul-suc, le_of_suc-le-suc, not-suc-le-zero, eq-or-lt_of_le}
use native.Mathlib.Numerals.{add-one}
use native.Mathlib.Omega.{arith}
use lib.Dec.{ltb}
use borrow.Author.Tests.{ltb-true, ltb-false}
use lib.ListN.{length, get_or, take, drop, length-append, length-drop, take-append-drop}
use lib.Seq.{take_all, take-add, drop-drop, drop-cons}
use Rattle.wire.specs.Digits.{number_at, digits}
use Rattle.wire.specs.Fields.{Bytes}
use Rattle.wire.proofs.Laws.{length_digits, number_digits, digits_number, bytes_append, bytes_digits}
use Rattle.frame.specs.declared.Report.{Report}
use Rattle.record.specs.Slots.{rows, slot_count, Record}
use Rattle.record.specs.Layout.{head_size, slot_size, shared_size, view_place, place, slot_in, slot_bytes, spelled_slots, shared_of, block_of}
use Rattle.record.specs.Layout.{encode_record, decode_record}
use Rattle.record.specs.inside.Layout.{block_size, Small, FitsBytes, HoldsRecord}
use Rattle.record.specs.Size.{record_size}
use Rattle.record.specs.Sentences.{LayoutIsOneToOne}
use Rattle.record.proofs.Laws.{place_shared, place_block, slot_there, slot_beyond, slot_spelt, length_slot}

-- ---- lengths

-- k slots end to end have 13 k bytes
pub length_slots : (slots : ℕ → Report) (from k : ℕ) → length (spelled_slots slots from k) ≡ slot_size * k
unfolding spelled_slots
length_slots slots from zero = refl
length_slots slots from (suc k) = rw (length-append, length_slots slots from k, length_slot (slots (from + k)), mul-suc)

-- the shared part has its size
pub length_shared : (r : Record) → length (shared_of r) ≡ shared_size
unfolding shared_of
length_shared r = simp (length-append, length_digits, length_slots r.slots 0 rows)

-- the block has its size
pub length_block : (r : Record) → length (block_of r) ≡ block_size
unfolding block_of
length_block r = simp (length-append, length_digits, length_slots r.slots rows (slot_count - rows))

-- what is written has a record's length
pub encode_size : (r : Record) → length (encode_record r) ≡ record_size
unfolding encode_record
encode_size r = length-append (shared_of r) (block_of r) ∙ (λ i. length_shared r i + length_block r i)

-- ---- what is written is bytes

-- a slot's bytes, where its numbers have their widths
pub bytes_slot : (x : Report) → Small x → Bytes (slot_bytes x)
bytes_slot x z zero = z.mark
bytes_slot x z (suc i) = bytes_append (digits 4 x.view) (digits 8 x.plan) (bytes_digits 4 x.view) (bytes_digits 8 x.plan) i

-- those of slots end to end
bytes_slots : (slots : ℕ → Report) (from k : ℕ) → ((i : ℕ) → Small (slots i)) → Bytes (spelled_slots slots from k)
unfolding spelled_slots
bytes_slots slots from zero z i = omega arith
bytes_slots slots from (suc k) z i =
    bytes_append (spelled_slots slots from k) (slot_bytes (slots (from + k))) (bytes_slots slots from k z) (bytes_slot (slots (from + k)) (z (from + k))) i

-- and those of the whole record: each element that is written is below 256
pub encode_bytes : (r : Record) → FitsBytes r → Bytes (encode_record r)
unfolding encode_record shared_of block_of
encode_bytes r z = bytes_append (shared_of r) (block_of r) shared block
  where
    head : Bytes (r.set.n ∷ r.set.f ∷ r.set.id ∷ r.set.class ∷ digits 4 r.view)
    head zero = z.set.n
    head (suc zero) = z.set.f
    head (suc (suc zero)) = z.set.id
    head (suc (suc (suc zero))) = z.set.class
    head (suc (suc (suc (suc i)))) = bytes_digits 4 r.view i

    shared : Bytes (shared_of r)
    shared =
        bytes_append (r.set.n ∷ r.set.f ∷ r.set.id ∷ r.set.class ∷ digits 4 r.view) (spelled_slots r.slots 0 rows) head
        (bytes_slots r.slots 0 rows z.slots)

    block : Bytes (block_of r)
    block =
        bytes_append (digits 8 r.plan) (spelled_slots r.slots rows (slot_count - rows)) (bytes_digits 8 r.plan)
        (bytes_slots r.slots rows (slot_count - rows) z.slots)

-- ---- written, then read

-- slots spelt behind some bytes are read back
pub read_slots : (slots : ℕ → Report) (from k j : ℕ) (p t : List ℕ) → ((i : ℕ) → Small (slots i)) → j < k
    → slot_in (p ++ (spelled_slots slots from k ++ t)) (length p + slot_size * j) ≡ slots (from + j)
unfolding spelled_slots
read_slots slots from zero j p t z h = absurd (not-suc-le-zero h)
read_slots slots from (suc k) j p t z h =
    ap (λ (l : List ℕ). slot_in (p ++ l) (length p + slot_size * j)) (append_assoc (spelled_slots slots from k) (slot_bytes (slots (from + k))) t)
    ∙ ⊎_elim (λ (e : j ≡ k). last e) (λ (b : j < k). read_slots slots from k j p (slot_bytes (slots (from + k)) ++ t) z b)
    (eq-or-lt_of_le (le_of_suc-le-suc h))
  where
    last : j ≡ k → slot_in (p ++ (spelled_slots slots from k ++ (slot_bytes (slots (from + k)) ++ t))) (length p + slot_size * j) ≡ slots (from + j)
    last e =
        let q : List ℕ = p ++ spelled_slots slots from k in
        let l : length q ≡ length p + slot_size * k = length-append p (spelled_slots slots from k) ∙ ap (λ (n : ℕ). length p + n) (length_slots slots from k) in
        let a = append_assoc p (spelled_slots slots from k) (slot_bytes (slots (from + k)) ++ t) in
        ap (λ (n : ℕ). slot_in (p ++ (spelled_slots slots from k ++ (slot_bytes (slots (from + k)) ++ t))) (length p + slot_size * n)) e
        ∙ (λ i. slot_in (sym a i) (sym l i))
        ∙ slot_spelt (slots (from + k)) q t (z (from + k))
        ∙ ap (λ (n : ℕ). slots (from + n)) (sym e)

module _ (r : Record) (z : FitsBytes r) where
  -- the current view is read back
  view_read : number_at 4 (encode_record r) view_place ≡ r.view
  unfolding encode_record shared_of
  view_read =
      let four : List ℕ = r.set.n ∷ r.set.f ∷ r.set.id ∷ r.set.class ∷ [] in
      rw (append_assoc (digits 4 r.view))
      (number_digits 4 r.view four (spelled_slots r.slots 0 rows ++ block_of r) z.view)

  -- the starting plan is read back
  plan_read : number_at 8 (encode_record r) shared_size ≡ r.plan
  unfolding encode_record block_of
  plan_read =
      ap (number_at 8 (shared_of r ++ block_of r)) (sym (length_shared r))
      ∙ number_digits 8 r.plan (shared_of r) (spelled_slots r.slots rows (slot_count - rows)) z.plan

  -- a slot of the shared part is read back
  shared_read : (i : ℕ) → i < rows → slot_in (encode_record r) (place i) ≡ r.slots i
  unfolding encode_record shared_of digits
  shared_read i h =
      let head : List ℕ = r.set.n ∷ r.set.f ∷ r.set.id ∷ r.set.class ∷ digits 4 r.view in
      let a = append_assoc head (spelled_slots r.slots 0 rows) (block_of r) in
      (λ k. slot_in (a k) (place_shared i h k)) ∙ read_slots r.slots 0 rows i head (block_of r) z.slots h ∙ ap r.slots (omega arith)

  -- a slot of the block is read back
  block_read : (i : ℕ) → rows ≤ i → i < slot_count → slot_in (encode_record r) (place i) ≡ r.slots i
  unfolding encode_record block_of
  block_read i low high =
      let head : List ℕ = shared_of r ++ digits 8 r.plan in
      let j : ℕ = i - rows in
      let a : shared_of r ++ block_of r ≡ head ++ (spelled_slots r.slots rows (slot_count - rows) ++ []) =
      sym (ap (λ (l : List ℕ). head ++ l) (append-nil (spelled_slots r.slots rows (slot_count - rows)))
      ∙ append_assoc (shared_of r) (digits 8 r.plan) (spelled_slots r.slots rows (slot_count - rows))) in
      let l : length head ≡ shared_size + head_size = length-append (shared_of r) (digits 8 r.plan) ∙ (λ k. length_shared r k + length_digits 8 r.plan k) in
      let at : place i ≡ length head + slot_size * j = place_block i low ∙ omega arith in
      let from : rows + j ≡ i = omega arith in
      (λ k. slot_in (a k) (at k)) ∙ read_slots r.slots rows (slot_count - rows) j head [] z.slots (omega arith) ∙ ap r.slots from

  -- so every slot is, and beyond the last both are empty
  slot_read : (i : ℕ) → (decode_record (encode_record r)).slots i ≡ r.slots i
  slot_read i = go (ltb i slot_count) refl (ltb i rows) refl
    where
      go : (t : Bool) → ltb i slot_count ≡ t → (u : Bool) → ltb i rows ≡ u → (decode_record (encode_record r)).slots i ≡ r.slots i
      go true e true g = slot_there (encode_record r) i (ltb-true i slot_count e) ∙ shared_read i (ltb-true i rows g)
      go true e false g =
          slot_there (encode_record r) i (ltb-true i slot_count e) ∙ block_read i (ltb-false i rows g) (ltb-true i slot_count e)
      go false e u g =
          let h : slot_count ≤ i = ltb-false i slot_count e in
          slot_beyond (encode_record r) i h ∙ sym (z.beyond i h)

  -- the settings are read back
  set_read : (decode_record (encode_record r)).set ≡ r.set
  unfolding decode_record encode_record shared_of
  set_read = refl

  -- a record that is written is read back
  pub decode_encode : decode_record (encode_record r) ≡ r
  unfolding decode_record
  decode_encode =
      let set = set_read in
      let view = view_read in
      let plan = plan_read in
      let slots = slot_read in
      λ k. record { set = set k; view = view k; plan = plan k; slots = λ i. slots i k }

-- ---- read, then written

-- a slot that is read is written as its thirteen bytes stood
slot_written : (s : List ℕ) (at : ℕ) → Bytes s → at + slot_size ≤ length s → slot_bytes (slot_in s at) ≡ take slot_size (drop at s)
slot_written s at b h =
    let v : digits 4 (number_at 4 s (at + 1)) ≡ take 4 (drop (at + 1) s) = digits_number 4 s (at + 1) b (omega arith) in
    let p : digits 8 (number_at 8 s (at + 5)) ≡ take 8 (drop (at + 5) s) = digits_number 8 s (at + 5) b (omega arith) in
    let five : at + 1 + 4 ≡ at + 5 = omega arith in
    let two : take 4 (drop (at + 1) s) ++ take 8 (drop (at + 5) s) ≡ take 12 (drop (at + 1) s) =
    sym (take-add 4 8 (drop (at + 1) s) ∙ ap (λ (l : List ℕ). take 4 (drop (at + 1) s) ++ take 8 l) (drop-drop 4 (at + 1) s ∙ ap (λ (n : ℕ). drop n s) five)) in
    let one : drop at s ≡ get_or s at 0 ∷ drop (at + 1) s = drop-cons s at 0 (omega arith) ∙ ap (λ (n : ℕ). get_or s at 0 ∷ drop n s) (sym (add-one at)) in
    (λ i. get_or s at 0 ∷ (v i ++ p i)) ∙ ap (λ (l : List ℕ). get_or s at 0 ∷ l) two ∙ sym (ap (take slot_size) one)

-- slots read one behind the other are written as they stood
slots_written : (s : List ℕ) (slots : ℕ → Report) (from base k : ℕ) → Bytes s → base + slot_size * k ≤ length s
    → ((j : ℕ) → j < k → slots (from + j) ≡ slot_in s (base + slot_size * j))
    → spelled_slots slots from k ≡ take (slot_size * k) (drop base s)
unfolding spelled_slots
slots_written s slots from base zero b h es = refl
slots_written s slots from base (suc k) b h es =
    let room : base + (slot_size * k + slot_size) ≤ length s = rw mul-suc at h in
    let front = slots_written s slots from base k b (omega arith) (λ (j : ℕ) (c : j < k). es j (omega arith)) in
    let last = ap slot_bytes (es k (omega arith)) ∙ slot_written s (base + slot_size * k) b (omega arith) in
    (λ i. front i ++ last i)
    ∙ sym (ap (λ (n : ℕ). take n (drop base s)) (mul-suc slot_size k)
    ∙ take-add (slot_size * k) slot_size (drop base s)
    ∙ ap (λ (l : List ℕ). take (slot_size * k) (drop base s) ++ take slot_size l) (drop-drop (slot_size * k) base s))

module _ (s : List ℕ) (b : Bytes s) (l : length s ≡ record_size) where
  -- the shared part's head is written as it stood
  head_written : get_or s 0 0 ∷ get_or s 1 0 ∷ get_or s 2 0 ∷ get_or s 3 0 ∷ digits 4 (number_at 4 s view_place) ≡ take head_size s
  head_written =
      let four : s ≡ get_or s 0 0 ∷ get_or s 1 0 ∷ get_or s 2 0 ∷ get_or s 3 0 ∷ drop 4 s =
      drop-cons s 0 0 (omega arith)
      ∙ ap (λ (x : List ℕ). get_or s 0 0 ∷ x)
      (drop-cons s 1 0 (omega arith)
      ∙ ap (λ (x : List ℕ). get_or s 1 0 ∷ x) (drop-cons s 2 0 (omega arith) ∙ ap (λ (x : List ℕ). get_or s 2 0 ∷ x) (drop-cons s 3 0 (omega arith)))) in
      ap (λ (x : List ℕ). get_or s 0 0 ∷ get_or s 1 0 ∷ get_or s 2 0 ∷ get_or s 3 0 ∷ x) (digits_number 4 s view_place b (omega arith))
      ∙ sym (ap (take head_size) four)

  -- so is the shared part
  shared_written : shared_of (decode_record s) ≡ take shared_size s
  unfolding shared_of decode_record
  shared_written =
      let slots = slots_written s (decode_record s).slots 0 head_size rows b (omega arith) at in
      let head = head_written in
      (λ i. head i ++ slots i) ∙ sym (take-add head_size (slot_size * rows) s)
    where
      at : (j : ℕ) → j < rows → (decode_record s).slots (0 + j) ≡ slot_in s (head_size + slot_size * j)
      at j h =
          let e : 0 + j ≡ j = omega arith in
          ap (decode_record s).slots e ∙ slot_there s j (omega arith) ∙ ap (slot_in s) (place_shared j h)

  -- and the block
  block_written : block_of (decode_record s) ≡ drop shared_size s
  unfolding block_of decode_record
  block_written =
      let slots = slots_written s (decode_record s).slots rows (shared_size + head_size) (slot_count - rows) b (omega arith) at in
      let head = digits_number 8 s shared_size b (omega arith) in
      let rest : length (drop (shared_size + head_size) s) ≤ slot_size * (slot_count - rows) = rw length-drop (omega arith) in
      (λ i. head i ++ slots i)
      ∙ ap (λ (x : List ℕ). take head_size (drop shared_size s) ++ x)
      (take_all (slot_size * (slot_count - rows)) (drop (shared_size + head_size) s) rest ∙ sym (drop-drop head_size shared_size s))
      ∙ take-append-drop head_size (drop shared_size s)
    where
      at : (j : ℕ) → j < slot_count - rows → (decode_record s).slots (rows + j) ≡ slot_in s (shared_size + head_size + slot_size * j)
      at j h =
          let e : shared_size + (head_size + slot_size * (rows + j - rows)) ≡ shared_size + head_size + slot_size * j = omega arith in
          slot_there s (rows + j) (omega arith) ∙ ap (slot_in s) (place_block (rows + j) (omega arith) ∙ e)

  -- bytes of a record's length that are read are written as they stood
  pub encode_decode : encode_record (decode_record s) ≡ s
  unfolding encode_record
  encode_decode =
      let a = shared_written in
      let c = block_written in
      (λ i. a i ++ c i) ∙ take-append-drop shared_size s

-- ---- one spelling

-- 'each layout can spell .. every content': bytes that spell the same content are the same bytes
pub one_spelling : (s t : List ℕ) → Bytes s → Bytes t → length s ≡ record_size → length t ≡ record_size → decode_record s ≡ decode_record t → s ≡ t
one_spelling s t b c l m e = sym (encode_decode s b l) ∙ ap encode_record e ∙ encode_decode t c m

-- The layout is one to one.
pub layout_is_one_to_one : LayoutIsOneToOne
layout_is_one_to_one = record { written_back = encode_decode; once = one_spelling }

-- bytes that hold the same record are the same bytes, so a contract that says `HoldsRecord` fixes every byte
pub holds_same : {s t : List ℕ} {r : Record} → Bytes s → Bytes t → HoldsRecord s r → HoldsRecord t r → s ≡ t
holds_same {s} {t} b c g h = one_spelling s t b c g.size h.size (g.is ∙ sym h.is)
