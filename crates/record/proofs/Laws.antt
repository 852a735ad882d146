-- Laws of the layout: where a slot's bytes stand (`slot_there`, `place_shared`, `place_block`, `place_fits`), in a lent part too
-- (`slot_part`); thirteen bytes put at a slot's place are the record with that slot (`put_there`), for every other slot and the heads
-- are made of bytes that stay; and what bytes spell has its widths (`small_slots`, `fits_decoded`).
-- Assumes nothing.
use Prim.Native.Nat.{ℕ, suc, ◌+◌, ◌-◌, ◌^◌, ◌≤◌, ◌<◌}
use mathlib.Core.Path.{◌≡◌, refl, ap, sym, ◌∙◌}
use mathlib.Core.Logic.{◌≢◌}
use mathlib.Core.Bool.{Bool, true, false, cond}
use mathlib.Core.List.{List, [], ◌∷◌, ◌++◌, append_assoc}
use native.Mathlib.Nat.{add_assoc}
use native.Mathlib.Omega.{arith}
use lib.Dec.{ltb, eqb}
use borrow.Author.Tests.{ltb-true, ltb-false, lt-ltb, le-ltb, eqb-true, eqb-false}
use lib.ListN.{length, get_or, take, drop, set, length-append}
use lib.Seq.{sets, length-sets, length-take-le, get_or-append_seam}
use Rattle.wire.specs.Digits.{number_at, digits}
use Rattle.wire.specs.Fields.{Bytes}
use Rattle.wire.specs.Placed.{placed}
use Rattle.wire.proofs.Laws.{number_digits, length_digits, number_below}
use Rattle.wire.proofs.Output.{length_placed, placed_sets, placed_more, placed_next}
use Rattle.frame.specs.declared.Report.{Report}
use Rattle.settings.specs.declared.Settings.{Settings}
use Rattle.record.specs.Slots.{rows, slot_count, empty_slot}
use Rattle.record.specs.inside.Slots.{slot_put, with_slot, with_view, fresh_slots}
use Rattle.record.specs.Layout.{head_size, slot_size, shared_size, view_place, part_place, place, slot_in, slot_bytes, decode_record}
use Rattle.record.specs.Size.{record_size}
use Rattle.record.specs.inside.Layout.{Small, FitsBytes, HoldsRecord}
use Rattle.record.proofs.Bytes.{sets_other, placed_other, number_same, number_put, number_zero, byte_part, number_part}

-- ---- places

-- a slot of a view-change stands in the shared part
pub place_shared : (i : ℕ) → i < rows → place i ≡ part_place i
unfolding place
place_shared i h = rw (lt-ltb i rows h)

-- every other slot stands in the block
pub place_block : (i : ℕ) → rows ≤ i → place i ≡ shared_size + part_place (i - rows)
unfolding place
place_block i h = rw (le-ltb i rows h)

-- either way, as one sum
pub place_cases : (i : ℕ) (P : ℕ → Type 0) → (i < rows → P (part_place i)) → (rows ≤ i → P (head_size + part_place i)) → P (place i)
place_cases i P low high = go (ltb i rows) refl
  where
    go : (t : Bool) → ltb i rows ≡ t → P (place i)
    go true e = let h : i < rows = ltb-true i rows e in rw (place_shared i h) (low h)
    go false e =
        let h : rows ≤ i = ltb-false i rows e in
        let q : place i ≡ head_size + part_place i = place_block i h ∙ omega arith in
        rw q (high h)

-- each slot ends within the record, so its bytes can be read and put
pub place_fits : (i : ℕ) → i < slot_count → place i + slot_size ≤ record_size
place_fits i h = place_cases i (λ p. p + slot_size ≤ record_size) (λ (g : i < rows). omega arith) (λ (g : rows ≤ i). omega arith)

-- a byte of one slot is before or behind every other slot
pub place_apart : (i j : ℕ) → i ≢ j → (k : ℕ) → place j ≤ k → k < place j + slot_size → place i ≤ k → place i + slot_size ≤ k
place_apart i j ne k =
    place_cases i (λ p. place j ≤ k → k < place j + slot_size → p ≤ k → p + slot_size ≤ k)
    (λ (g : i < rows). place_cases j (λ q. q ≤ k → k < q + slot_size → part_place i ≤ k → part_place i + slot_size ≤ k)
    (λ (h : j < rows) (a : part_place j ≤ k) (b : k < part_place j + slot_size) (c : part_place i ≤ k). omega (arith, ne))
    (λ (h : rows ≤ j) (a : head_size + part_place j ≤ k) (b : k < head_size + part_place j + slot_size) (c : part_place i ≤ k). omega arith))
    (λ (g : rows ≤ i). place_cases j (λ q. q ≤ k → k < q + slot_size → head_size + part_place i ≤ k → head_size + part_place i + slot_size ≤ k)
    (λ (h : j < rows) (a : part_place j ≤ k) (b : k < part_place j + slot_size) (c : head_size + part_place i ≤ k). omega arith)
    (λ (h : rows ≤ j) (a : head_size + part_place j ≤ k) (b : k < head_size + part_place j + slot_size) (c : head_size + part_place i ≤ k). omega (arith, ne)))

-- a byte of a head is before or behind every slot
pub head_apart : (i k : ℕ) → k < head_size → place i ≤ k → place i + slot_size ≤ k
head_apart i k b =
    place_cases i (λ p. p ≤ k → p + slot_size ≤ k)
    (λ (g : i < rows) (a : part_place i ≤ k). omega arith) (λ (g : rows ≤ i) (a : head_size + part_place i ≤ k). omega arith)

-- the same of a byte of the block's head, so a slot that is put leaves the starting plan
pub block_apart : (i k : ℕ) → shared_size ≤ k → k < shared_size + head_size → place i ≤ k → place i + slot_size ≤ k
block_apart i k b c =
    place_cases i (λ p. p ≤ k → p + slot_size ≤ k)
    (λ (g : i < rows) (a : part_place i ≤ k). omega arith) (λ (g : rows ≤ i) (a : head_size + part_place i ≤ k). omega arith)

-- the block's head is before or behind every slot
pub place_behind : (i k : ℕ) → place i ≤ k → k < place i + slot_size → shared_size ≤ k → shared_size + head_size ≤ k
place_behind i k =
    place_cases i (λ p. p ≤ k → k < p + slot_size → shared_size ≤ k → shared_size + head_size ≤ k)
    (λ (g : i < rows) (a : part_place i ≤ k) (b : k < part_place i + slot_size) (c : shared_size ≤ k). omega arith)
    (λ (g : rows ≤ i) (a : head_size + part_place i ≤ k) (b : k < head_size + part_place i + slot_size) (c : shared_size ≤ k). omega arith)

-- ---- slots

-- a slot below the count is read at its place
pub slot_there : (s : List ℕ) (i : ℕ) → i < slot_count → (decode_record s).slots i ≡ slot_in s (place i)
unfolding decode_record
slot_there s i h = rw (lt-ltb i slot_count h)

-- beyond it there is nothing
pub slot_beyond : (s : List ℕ) (i : ℕ) → slot_count ≤ i → (decode_record s).slots i ≡ empty_slot
unfolding decode_record
slot_beyond s i h = rw (le-ltb i slot_count h)

-- a slot is made of its bytes
pub slot_bytes_same : (s t : List ℕ) (at : ℕ) → ((k : ℕ) → at ≤ k → k < at + slot_size → get_or s k 0 ≡ get_or t k 0) → slot_in s at ≡ slot_in t at
slot_bytes_same s t at h =
    let m = h at (omega arith) (omega arith) in
    let v = number_same 4 s t (at + 1) (λ (j : ℕ) (b : j < 4). h (at + 1 + j) (omega arith) (omega arith)) in
    let p = number_same 8 s t (at + 5) (λ (j : ℕ) (b : j < 8). h (at + 5 + j) (omega arith) (omega arith)) in
    λ i. record { mark = m i; view = v i; plan = p i }

-- a slot in a lent part `&s[a..a + k]` is the slot of the whole, the part's start further on
pub slot_part : (a k : ℕ) (s : List ℕ) (at : ℕ) → at + slot_size ≤ k → slot_in (take k (drop a s)) at ≡ slot_in s (a + at)
slot_part a k s at h =
    let m = byte_part a k s at (omega arith) in
    let v = number_part 4 a k s (at + 1) (omega arith) ∙ ap (number_at 4 s) (sym (add_assoc a at 1)) in
    let p = number_part 8 a k s (at + 5) (omega arith) ∙ ap (number_at 8 s) (sym (add_assoc a at 5)) in
    λ i. record { mark = m i; view = v i; plan = p i }

-- a slot that has been spelt is read back
pub slot_spelt : (x : Report) (p t : List ℕ) → Small x → slot_in (p ++ (slot_bytes x ++ t)) (length p) ≡ x
slot_spelt x p t z =
    let a : List ℕ = digits 4 x.view in
    let b : List ℕ = digits 8 x.plan in
    let whole : List ℕ = p ++ (x.mark ∷ ((a ++ b) ++ t)) in
    let m : get_or whole (length p) 0 ≡ x.mark = get_or-append_seam p x.mark ((a ++ b) ++ t) 0 in
    let e₁ : (p ++ (x.mark ∷ [])) ++ (a ++ (b ++ t)) ≡ whole =
    append_assoc p (x.mark ∷ []) (a ++ (b ++ t)) ∙ ap (λ (l : List ℕ). p ++ (x.mark ∷ l)) (sym (append_assoc a b t)) in
    let v : number_at 4 whole (length p + 1) ≡ x.view =
    (λ i. number_at 4 (sym e₁ i) (sym (length-append p (x.mark ∷ [])) i)) ∙ number_digits 4 x.view (p ++ (x.mark ∷ [])) (b ++ t) z.view in
    let e₂ : (p ++ (x.mark ∷ a)) ++ (b ++ t) ≡ whole =
    append_assoc p (x.mark ∷ a) (b ++ t) ∙ ap (λ (l : List ℕ). p ++ (x.mark ∷ l)) (sym (append_assoc a b t)) in
    let l₂ : length (p ++ (x.mark ∷ a)) ≡ length p + 5 = length-append p (x.mark ∷ a) ∙ ap (λ (n : ℕ). length p + suc n) (length_digits 4 x.view) in
    let q : number_at 8 whole (length p + 5) ≡ x.plan =
    (λ i. number_at 8 (sym e₂ i) (sym l₂ i)) ∙ number_digits 8 x.plan (p ++ (x.mark ∷ a)) t z.plan in
    λ i. record { mark = m i; view = v i; plan = q i }

-- a slot has thirteen bytes
pub length_slot : (x : Report) → length (slot_bytes x) ≡ slot_size
length_slot x = ap suc (length-append (digits 4 x.view) (digits 8 x.plan) ∙ (λ i. length_digits 4 x.view i + length_digits 8 x.plan i))

-- ---- a slot put at its place

-- the slot put at a place of some bytes is read there
pub slot_put_at : (s : List ℕ) (at : ℕ) (x : Report) → at + slot_size ≤ length s → Small x → slot_in (placed s at (slot_bytes x)) at ≡ x
unfolding placed
slot_put_at s at x room z =
    let t : List ℕ = drop (at + length (slot_bytes x)) s in
    ap (slot_in (take at s ++ (slot_bytes x ++ t))) (sym (length-take-le at s (omega arith))) ∙ slot_spelt x (take at s) t z

-- one byte stored and two numbers put behind it
pub slot_stores : (s : List ℕ) (at : ℕ) (x : Report) → at < length s
    → placed (placed (set s at x.mark) (at + 1) (digits 4 x.view)) (at + 5) (digits 8 x.plan) ≡ placed s at (slot_bytes x)
slot_stores s at x h =
    let a : List ℕ = x.mark ∷ digits 4 x.view in
    let b : List ℕ = digits 8 x.plan in
    ap (λ (l : List ℕ). placed l (at + 5) b) (placed_next s at x.mark (digits 4 x.view) h)
    ∙ ap (λ (n : ℕ). placed (placed s at a) (at + suc n) b) (sym (length_digits 4 x.view))
    ∙ placed_more s at a b (omega arith)

-- a slot that is put leaves the length
pub put_size : (s : List ℕ) (at : ℕ) (x : Report) → at + slot_size ≤ length s → length (placed s at (slot_bytes x)) ≡ length s
put_size s at x room = length_placed s at (slot_bytes x) (rw (length_slot x) room)

-- a byte outside the slot stays
pub put_byte : (s : List ℕ) (at : ℕ) (x : Report) (k : ℕ) → at + slot_size ≤ length s → (at ≤ k → at + slot_size ≤ k)
    → get_or (placed s at (slot_bytes x)) k 0 ≡ get_or s k 0
put_byte s at x k room h = placed_other s at (slot_bytes x) k (rw (length_slot x) room) (rw (length_slot x) h)

module _ (s : List ℕ) (i : ℕ) (x : Report) (l : length s ≡ record_size) (h : i < slot_count) where
  -- the slot's bytes lie within the record
  room : place i + slot_size ≤ length s
  room = rw l (place_fits i h)

  -- with them put, it has still a record's length
  pub size_there : length (placed s (place i) (slot_bytes x)) ≡ record_size
  size_there = put_size s (place i) x room ∙ l

  -- a byte outside the slot stays
  byte : (k : ℕ) → (place i ≤ k → place i + slot_size ≤ k) → get_or (placed s (place i) (slot_bytes x)) k 0 ≡ get_or s k 0
  byte k g = put_byte s (place i) x k room g

  -- each slot reads as before, and slot i as x
  slots : Small x → (j : ℕ)
      → (decode_record (placed s (place i) (slot_bytes x))).slots j ≡ slot_put (decode_record s).slots i x j
  unfolding slot_put
  slots z j = go (eqb i j) refl
    where
      other : (t : Bool) → ltb j slot_count ≡ t → i ≢ j
          → (decode_record (placed s (place i) (slot_bytes x))).slots j ≡ (decode_record s).slots j
      other true e ne =
          let k : j < slot_count = ltb-true j slot_count e in
          slot_there (placed s (place i) (slot_bytes x)) j k
          ∙ slot_bytes_same (placed s (place i) (slot_bytes x)) s (place j) (λ n a b. byte n (place_apart i j ne n a b))
          ∙ sym (slot_there s j k)
      other false e ne =
          let k : slot_count ≤ j = ltb-false j slot_count e in
          slot_beyond (placed s (place i) (slot_bytes x)) j k ∙ sym (slot_beyond s j k)

      go : (t : Bool) → eqb i j ≡ t
          → (decode_record (placed s (place i) (slot_bytes x))).slots j ≡ cond t x ((decode_record s).slots j)
      go true e =
          let same : i ≡ j = eqb-true i j e in
          ap (decode_record (placed s (place i) (slot_bytes x))).slots (sym same)
          ∙ slot_there (placed s (place i) (slot_bytes x)) i h ∙ slot_put_at s (place i) x room z
      go false e = other (ltb j slot_count) refl (eqb-false i j e)

  -- settings and current view stay, as the head is outside every slot
  head : (k : ℕ) → k < head_size → get_or (placed s (place i) (slot_bytes x)) k 0 ≡ get_or s k 0
  head k b = byte k (head_apart i k b)

  -- thirteen bytes put at a slot's place are the record with that slot
  pub put_there : Small x → decode_record (placed s (place i) (slot_bytes x)) ≡ with_slot (decode_record s) i x
  unfolding decode_record
  put_there z =
      let n = head 0 (omega arith) in
      let f = head 1 (omega arith) in
      let id = head 2 (omega arith) in
      let class = head 3 (omega arith) in
      let o : List ℕ = placed s (place i) (slot_bytes x) in
      let view = number_same 4 o s view_place (λ (j : ℕ) (b : j < 4). head (view_place + j) (omega arith)) in
      let plan = number_same 8 o s shared_size (λ (j : ℕ) (b : j < 8).
      byte (shared_size + j) (block_apart i (shared_size + j) (omega arith) (omega arith))) in
      let all = slots z in
      λ k. record {
        set = record { n = n k; f = f k; id = id k; class = class k };
        view = view k;
        plan = plan k;
        slots = λ j. all j k;
      }

  -- the bytes then hold the record with that slot
  pub holds_there : Small x → HoldsRecord (placed s (place i) (slot_bytes x)) (with_slot (decode_record s) i x)
  holds_there z = record { size = size_there; is = put_there z }

-- ---- another current view

-- a slot stands behind the shared part's head
pub place_low : (i : ℕ) → head_size ≤ place i
place_low i = place_cases i (λ p. head_size ≤ p) (λ (g : i < rows). omega arith) (λ (g : rows ≤ i). omega arith)

module _ (s : List ℕ) (v : ℕ) (l : length s ≡ record_size) where
  -- the view's four bytes lie within the record
  view_room : view_place + length (digits 4 v) ≤ length s
  view_room = rw (length_digits, l) (omega arith)

  -- a byte outside them stays
  view_byte : (k : ℕ) → (view_place ≤ k → head_size ≤ k) → get_or (placed s view_place (digits 4 v)) k 0 ≡ get_or s k 0
  view_byte k h = placed_other s view_place (digits 4 v) k view_room (rw length_digits h)

  -- every slot stays, as it stands behind the head
  view_slot : (i : ℕ) → slot_in (placed s view_place (digits 4 v)) (place i) ≡ slot_in s (place i)
  view_slot i =
      slot_bytes_same (placed s view_place (digits 4 v)) s (place i)
      (λ (k : ℕ) (a : place i ≤ k) (b : k < place i + slot_size). view_byte k (λ (g : view_place ≤ k). omega (arith, place_low i)))

  -- four bytes put in the head are the record at that view
  pub put_view : v < 256 ^ 4 → decode_record (placed s view_place (digits 4 v)) ≡ with_view (decode_record s) v
  unfolding decode_record
  put_view z =
      let n = view_byte 0 (λ (g : view_place ≤ 0). omega arith) in
      let f = view_byte 1 (λ (g : view_place ≤ 1). omega arith) in
      let id = view_byte 2 (λ (g : view_place ≤ 2). omega arith) in
      let class = view_byte 3 (λ (g : view_place ≤ 3). omega arith) in
      let view = number_put 4 s view_place v (omega arith) z in
      let plan = number_same 8 (placed s view_place (digits 4 v)) s shared_size (λ (j : ℕ) (b : j < 8).
      view_byte (shared_size + j) (λ (g : view_place ≤ shared_size + j). omega arith)) in
      λ k. record {
        set = record { n = n k; f = f k; id = id k; class = class k };
        view = view k;
        plan = plan k;
        slots = λ i. cond (ltb i slot_count) (view_slot i k) empty_slot;
      }

  -- the bytes then hold the record at that view
  pub holds_view : v < 256 ^ 4 → HoldsRecord (placed s view_place (digits 4 v)) (with_view (decode_record s) v)
  holds_view z = record { size = length_placed s view_place (digits 4 v) view_room ∙ l; is = put_view z }

-- ---- a fresh record

-- settings stored in some bytes
abbrev pub setting_bytes : List ℕ → Settings → List ℕ
setting_bytes z set = sets z 0 (set.n ∷ set.f ∷ set.id ∷ set.class ∷ [])

-- settings and a starting plan in bytes that are all 0
module _ (z : List ℕ) (set : Settings) (plan : ℕ) (l : length z ≡ record_size) (zeros : (k : ℕ) → get_or z k 0 ≡ 0) where
  -- the starting plan's eight bytes lie within the record
  plan_room : shared_size + length (digits 8 plan) ≤ length (setting_bytes z set)
  plan_room = rw (length_digits, length-sets z 0 (set.n ∷ set.f ∷ set.id ∷ set.class ∷ []), l) (omega arith)

  -- a byte outside them is as it was before the plan was put
  fresh_byte : (k : ℕ) → (shared_size ≤ k → shared_size + head_size ≤ k)
      → get_or (placed (setting_bytes z set) shared_size (digits 8 plan)) k 0 ≡ get_or (setting_bytes z set) k 0
  fresh_byte k h = placed_other (setting_bytes z set) shared_size (digits 8 plan) k plan_room (rw length_digits h)

  -- behind the settings, all but the plan is 0
  fresh_zero : (k : ℕ) → 4 ≤ k → (shared_size ≤ k → shared_size + head_size ≤ k)
      → get_or (placed (setting_bytes z set) shared_size (digits 8 plan)) k 0 ≡ 0
  fresh_zero k a h =
      fresh_byte k h ∙ sets_other (set.n ∷ set.f ∷ set.id ∷ set.class ∷ []) z 0 k (λ (g : 0 ≤ k). omega arith) ∙ zeros k

  -- the first four bytes are the settings
  fresh_set : (k : ℕ) → k < 4
      → get_or (placed (setting_bytes z set) shared_size (digits 8 plan)) k 0 ≡ get_or (set.n ∷ set.f ∷ set.id ∷ set.class ∷ drop 4 z) k 0
  unfolding placed
  fresh_set k h =
      fresh_byte k (λ (g : shared_size ≤ k). omega arith)
      ∙ ap (λ (x : List ℕ). get_or x k 0) (placed_sets z 0 (set.n ∷ set.f ∷ set.id ∷ set.class ∷ []) (omega arith))

  -- every slot is empty
  fresh_slot : (i : ℕ) → cond (ltb i slot_count) (slot_in (placed (setting_bytes z set) shared_size (digits 8 plan)) (place i)) empty_slot ≡ empty_slot
  fresh_slot i = go (ltb i slot_count)
    where
      at : (k : ℕ) → place i ≤ k → k < place i + slot_size → get_or (placed (setting_bytes z set) shared_size (digits 8 plan)) k 0 ≡ 0
      at k a b = fresh_zero k (omega (arith, place_low i)) (place_behind i k a b)

      go : (t : Bool) → cond t (slot_in (placed (setting_bytes z set) shared_size (digits 8 plan)) (place i)) empty_slot ≡ empty_slot
      go true =
          let o : List ℕ = placed (setting_bytes z set) shared_size (digits 8 plan) in
          let m = at (place i) (omega arith) (omega arith) in
          let v = number_zero 4 o (place i + 1) (λ (j : ℕ) (b : j < 4). at (place i + 1 + j) (omega arith) (omega arith)) in
          let p = number_zero 8 o (place i + 5) (λ (j : ℕ) (b : j < 8). at (place i + 5 + j) (omega arith) (omega arith)) in
          λ k. record { mark = m k; view = v k; plan = p k }
      go false = refl

  -- settings and plan put into zeros are the record that start begins with
  pub put_fresh : plan < 256 ^ 8 → decode_record (placed (setting_bytes z set) shared_size (digits 8 plan)) ≡ fresh_slots set plan
  unfolding decode_record fresh_slots
  put_fresh small =
      let n = fresh_set 0 (omega arith) in
      let f = fresh_set 1 (omega arith) in
      let id = fresh_set 2 (omega arith) in
      let class = fresh_set 3 (omega arith) in
      let o : List ℕ = placed (setting_bytes z set) shared_size (digits 8 plan) in
      let view = number_zero 4 o view_place (λ (j : ℕ) (b : j < 4).
      fresh_zero (view_place + j) (omega arith) (λ (g : shared_size ≤ view_place + j). omega arith)) in
      let room : shared_size + head_size ≤ length (setting_bytes z set) = rw (length_digits) at plan_room in
      let last = number_put 8 (setting_bytes z set) shared_size plan room small in
      λ k. record {
        set = record { n = n k; f = f k; id = id k; class = class k };
        view = view k;
        plan = last k;
        slots = λ i. fresh_slot i k;
      }

  -- the bytes then hold that record
  pub holds_fresh : plan < 256 ^ 8 → HoldsRecord (placed (setting_bytes z set) shared_size (digits 8 plan)) (fresh_slots set plan)
  holds_fresh small = record {
    size = length_placed (setting_bytes z set) shared_size (digits 8 plan) plan_room
        ∙ length-sets z 0 (set.n ∷ set.f ∷ set.id ∷ set.class ∷ []) ∙ l;
    is = put_fresh small;
  }

-- ---- widths

-- a slot that is read from bytes has its widths
pub small_in : (s : List ℕ) (at : ℕ) → Bytes s → Small (slot_in s at)
small_in s at b = record { mark = b at; view = number_below 4 s (at + 1) b; plan = number_below 8 s (at + 5) b }

-- what bytes spell has its widths
pub small_slots : (s : List ℕ) → Bytes s → (i : ℕ) → Small ((decode_record s).slots i)
unfolding decode_record
small_slots s b i = go (ltb i slot_count)
  where
    go : (t : Bool) → Small (cond t (slot_in s (place i)) empty_slot)
    go true = small_in s (place i) b
    go false = record { mark = omega arith; view = omega arith; plan = omega arith }

-- a record that is read from bytes has its widths, and nothing beyond the last slot
pub fits_decoded : (s : List ℕ) → Bytes s → FitsBytes (decode_record s)
unfolding decode_record
fits_decoded s b = record {
  set = record { n = b 0; f = b 1; id = b 2; class = b 3 };
  view = number_below 4 s view_place b;
  plan = number_below 8 s shared_size b;
  slots = small_slots s b;
  beyond = slot_beyond s;
}
