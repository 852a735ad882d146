-- Where the slots of a kind stand, and slots that are absent as bytes that are 0.
-- Assumes nothing.
use Prim.Native.Nat.{ℕ, ◌+◌, ◌*◌, ◌-◌, ◌≤◌, ◌<◌}
use mathlib.Core.Path.{◌≡◌, refl, ap, sym, ◌∙◌}
use mathlib.Core.Bool.{Bool, true, false, ◌&&◌}
use mathlib.Core.List.{List}
use native.Mathlib.Omega.{arith}
use borrow.Author.Tests.{ltb-true, ltb-false}
use lib.Dec.{eqb, ltb}
use lib.ListN.{length, get_or, take, drop, length-drop}
use lib.Seq.{length-take-le}
use Rattle.frame.specs.Refusal.{absent}
use Rattle.record.specs.Slots.{rows, slot_count, frame_slot, report_slot, slot_of}
use Rattle.record.specs.inside.Slots.{RowPlace}
use Rattle.record.specs.Layout.{slot_size, place, slot_in, decode_record}
use Rattle.record.specs.Size.{record_size}
use Rattle.record.proofs.Bytes.{byte_part}
use Rattle.record.proofs.Laws.{place_shared, place_block, slot_there}
use Rattle.sound.specs.inside.Sound.{all}
use Rattle.sound.specs.inside.Bulk.{group_size, zero_in, zero_from, absent_from, Run}
use Rattle.sound.proofs.All.{all_same, all_split, all_pieces, number_zero}

-- ---- places

-- slots of one part lie end to end
place_on : (from i : ℕ) → (from < rows → from + i < rows) → place (from + i) ≡ place from + slot_size * i
place_on from i h = go (ltb from rows) refl
  where
    go : (t : Bool) → ltb from rows ≡ t → place (from + i) ≡ place from + slot_size * i
    go true e =
        let a : from < rows = ltb-true from rows e in
        rw (place_shared from a, place_shared (from + i) (h a)) (omega arith)
    go false e =
        let a : rows ≤ from = ltb-false from rows e in
        rw (place_block from a, place_block (from + i) (omega arith)) (omega arith)

-- the slots of a kind's rows, and of one group of its reports
pub place_frame : (kind sender : ℕ) → sender < rows → place (frame_slot kind 0) + slot_size * sender ≡ place (frame_slot kind sender)
place_frame kind sender h =
    let e : frame_slot kind 0 + sender ≡ frame_slot kind sender = omega arith in
    sym (place_on (frame_slot kind 0) sender (λ (g : frame_slot kind 0 < rows). omega arith)) ∙ ap place e

-- report `which` of a sender stands `which` groups and `sender` slots behind the kind's first
pub place_report : (kind which sender : ℕ) → place (report_slot kind 0 0) + slot_size * (which * rows + sender) ≡ place (report_slot kind which sender)
place_report kind which sender =
    let e : report_slot kind 0 0 + (which * rows + sender) ≡ report_slot kind which sender = omega arith in
    sym (place_on (report_slot kind 0 0) (which * rows + sender) (λ (g : report_slot kind 0 0 < rows). omega arith)) ∙ ap place e

-- what stands at the place of a kept frame, and of its reports
pub frame_there : (s : List ℕ) (kind sender : ℕ) {at : ℕ} → RowPlace kind sender → at ≡ place (frame_slot kind sender)
    → slot_in s at ≡ slot_of (decode_record s) (frame_slot kind sender)
frame_there s kind sender h e =
    let row = h.row in
    ap (slot_in s) e ∙ sym (slot_there s (frame_slot kind sender) (omega arith))

-- the same of report `which`, as `reports_absent` and `reports_fit` compute its place
pub report_there : (s : List ℕ) (kind which sender : ℕ) {at : ℕ} → RowPlace kind sender → which < 3
    → at ≡ place (report_slot kind 0 sender) + which * group_size → slot_in s at ≡ slot_of (decode_record s) (report_slot kind which sender)
report_there s kind which sender h w e =
    let row = h.row in
    let high = h.high in
    let from = place_report kind 0 sender in
    let p : place (report_slot kind 0 sender) + which * group_size ≡ place (report_slot kind 0 0) + slot_size * (which * rows + sender) =
    omega (arith, from) in
    ap (slot_in s) (e ∙ p ∙ place_report kind which sender) ∙ sym (slot_there s (report_slot kind which sender) (omega arith))

-- ---- absent slots

-- thirteen bytes that are 0
slot_absent : (s : List ℕ) (at : ℕ) → absent (slot_in s at) ≡ all (zero_from s at) slot_size
unfolding all
slot_absent s at =
    let f = zero_from s at in
    let g : ℕ → Bool = λ i. f (1 + i) in
    let view = number_zero 4 s (at + 1) ∙ all_same (λ j. eqb (get_or s (at + 1 + j) 0) 0) g 4 (λ j k. byte (near j)) in
    let plan = number_zero 8 s (at + 5) ∙ all_same (λ j. eqb (get_or s (at + 5 + j) 0) 0) (λ i. g (4 + i)) 8 (λ j k. byte (far j)) in
    (λ i. eqb (get_or s (first i) 0) 0 && (view i && plan i))
    ∙ sym (all_split f 1 12 ∙ ap (λ (b : Bool). all f 1 && b) (all_split g 4 8))
  where
    first : at ≡ at + 0
    first = omega arith

    near : (j : ℕ) → at + 1 + j ≡ at + (1 + j)
    near j = omega arith

    far : (j : ℕ) → at + 5 + j ≡ at + (1 + (4 + j))
    far j = omega arith

    byte : {a b : ℕ} → a ≡ b → eqb (get_or s a 0) 0 ≡ eqb (get_or s b 0) 0
    byte e = ap (λ (x : ℕ). eqb (get_or s x 0) 0) e

-- slots end to end are absent just where their bytes are 0
pub run_absent : (s : List ℕ) (from count : ℕ) → Run from count
    → all (zero_from s (place from)) (slot_size * count) ≡ all (absent_from (slot_of (decode_record s)) from) count
run_absent s from count run =
    let whole = run.whole in
    let part = run.part in
    sym (all_same (absent_from (slot_of (decode_record s)) from) (λ i. all (λ j. zero_from s (place from) (slot_size * i + j)) slot_size) count
    (λ i (k : i < count). one i (omega arith) (λ (g : from < rows). omega (arith, part g)))
    ∙ all_pieces (zero_from s (place from)) slot_size count)
  where
    one : (i : ℕ) → from + i < slot_count → (from < rows → from + i < rows)
        → absent (slot_of (decode_record s) (from + i)) ≡ all (λ j. zero_from s (place from) (slot_size * i + j)) slot_size
    one i below part =
        ap absent (slot_there s (from + i) below ∙ ap (slot_in s) (place_on from i part))
        ∙ slot_absent s (place from + slot_size * i)
        ∙ all_same (zero_from s (place from + slot_size * i)) (λ j. zero_from s (place from) (slot_size * i + j)) slot_size
        (λ j k. ap (λ (x : ℕ). eqb (get_or s x 0) 0) (on i j))
      where
        on : (i j : ℕ) → place from + slot_size * i + j ≡ place from + (slot_size * i + j)
        on i j = omega arith

-- a run's bytes stand in the record
pub run_fits : (from count : ℕ) → Run from count → place from + slot_size * count ≤ record_size
run_fits from count run = go (ltb from rows) refl
  where
    go : (t : Bool) → ltb from rows ≡ t → place from + slot_size * count ≤ record_size
    go true e =
        let a : from < rows = ltb-true from rows e in
        let h = run.part a in
        rw (place_shared from a) (omega arith)
    go false e =
        let a : rows ≤ from = ltb-false from rows e in
        let h = run.whole in
        rw (place_block from a) (omega arith)

-- the bytes of a part, as they stand in the whole
pub zero_part : (s : List ℕ) (from count : ℕ) → from + count ≤ length s
    → all (zero_in (take (from + count - from) (drop from s))) (length (take (from + count - from) (drop from s))) ≡ all (zero_from s from) count
zero_part s from count h =
    let e : from + count - from ≡ count = omega arith in
    rw (e, length-take-le count (drop from s) (rw length-drop (omega arith)))
    (all_same (zero_in (take count (drop from s))) (zero_from s from) count (λ i k. ap (λ (x : ℕ). eqb x 0) (byte_part from count s i k)))
