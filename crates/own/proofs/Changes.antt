-- An own part with a slot or the view changed is the record so changed, whatever was heard: a slot put into the part is the slot put into the record.
-- Assumes nothing.
use Prim.Native.Nat.{ℕ, ◌+◌, ◌^◌, ◌≤◌, ◌<◌}
use mathlib.Core.Path.{◌≡◌, ◌∙◌}
use mathlib.Core.Logic.{◌≢◌}
use mathlib.Core.List.{List}
use native.Mathlib.Omega.{arith}
use native.Mathlib.Decide.{ℕ_discrete}
use lib.ListN.{length, get_or}
use Rattle.wire.specs.Digits.{digits}
use Rattle.wire.specs.Placed.{placed}
use Rattle.wire.proofs.Laws.{length_digits}
use Rattle.wire.proofs.Output.{length_placed}
use Rattle.frame.specs.declared.Report.{Report}
use Rattle.record.specs.Slots.{rows, slot_of}
use Rattle.record.specs.inside.Slots.{with_slot, with_view}
use Rattle.record.specs.Layout.{slot_size, slot_in, slot_bytes}
use Rattle.record.specs.inside.Layout.{Small}
use Rattle.record.proofs.Bytes.{placed_other, number_same, number_put}
use Rattle.record.proofs.Laws.{slot_bytes_same, slot_put_at, put_size, put_byte}
use Rattle.own.specs.Size.{remnant_size}
use Rattle.own.specs.Part.{remnant_slots, remnant_place, own_slot, put_over, over}
use Rattle.own.specs.inside.Own.{Changes}
use Rattle.own.proofs.Slots.{over_same, over_put, over_own}

-- ---- the part's bytes

module _ (s : List ℕ) (size : length s ≡ remnant_size) where
  module _ (t : ℕ) (low : t < remnant_slots) (x : Report) where
    abbrev put : List ℕ
    put = placed s (remnant_place t) (slot_bytes x)

    room : remnant_place t + slot_size ≤ length s
    room = omega (arith, size, low)

    -- A byte of the head stays.
    head_byte : (k : ℕ) → k < 16 → get_or put k 0 ≡ get_or s k 0
    head_byte k h = put_byte s (remnant_place t) x k room (λ (g : remnant_place t ≤ k). omega arith)

    -- So does every other slot.
    slot_else : (u : ℕ) → t ≢ u → slot_in put (remnant_place u) ≡ slot_in s (remnant_place u)
    slot_else u ne = slot_bytes_same put s (remnant_place u)
        (λ (k : ℕ) (a : remnant_place u ≤ k) (b : k < remnant_place u + slot_size). put_byte s (remnant_place t) x k room
        (λ (g : remnant_place t ≤ k). apart k a b g (ℕ_discrete t u)))
      where
        apart : (k : ℕ) → remnant_place u ≤ k → k < remnant_place u + slot_size → remnant_place t ≤ k → Dec (t ≡ u) → remnant_place t + slot_size ≤ k
        apart k a b g (yes e) = absurd (ne e)
        apart k a b g (no f) = omega (arith, a, b, g, f)

    -- A slot put into the part is the slot put into the record.
    pub slot_changes : Small x → Changes (λ r. with_slot r (own_slot r.set.id t) x) s put
    unfolding over
    slot_changes small = record { size = put_size s (remnant_place t) x room ∙ size; is = λ row heard. there row heard }
      where
        there : get_or s 2 0 < rows → (heard : ℕ → Report) → over heard put ≡ with_slot (over heard s) (own_slot (get_or s 2 0) t) x
        there row heard =
            let n = head_byte 0 (omega arith) in
            let f = head_byte 1 (omega arith) in
            let id = head_byte 2 (omega arith) in
            let class = head_byte 3 (omega arith) in
            let view = number_same 4 put s 4 (λ (j : ℕ) (b : j < 4). head_byte (4 + j) (omega arith)) in
            let plan = number_same 8 put s 8 (λ (j : ℕ) (b : j < 8). head_byte (8 + j) (omega arith)) in
            let over17 = (λ i. put_over (id i) (λ u. slot_in put (remnant_place u)) heard remnant_slots)
            ∙ over_put (get_or s 2 0) row heard (λ u. slot_in s (remnant_place u)) (λ u. slot_in put (remnant_place u)) t x remnant_slots low
            (slot_put_at s (remnant_place t) x room small) (λ (u : ℕ) (l : u < remnant_slots) (ne : t ≢ u). slot_else u ne) in
            λ i. record { set = record { n = n i; f = f i; id = id i; class = class i }; view = view i; plan = plan i; slots = over17 i }

  -- Another view.
  module _ (w : ℕ) where
    abbrev viewed : List ℕ
    viewed = placed s 4 (digits 4 w)

    view_room : 4 + length (digits 4 w) ≤ length s
    view_room = rw (length_digits, size) (omega arith)

    view_byte : (k : ℕ) → (4 ≤ k → 8 ≤ k) → get_or viewed k 0 ≡ get_or s k 0
    view_byte k h = placed_other s 4 (digits 4 w) k view_room (rw length_digits h)

    view_slot : (u : ℕ) → slot_in viewed (remnant_place u) ≡ slot_in s (remnant_place u)
    view_slot u = slot_bytes_same viewed s (remnant_place u)
        (λ (k : ℕ) (a : remnant_place u ≤ k) (b : k < remnant_place u + slot_size). view_byte k (λ (g : 4 ≤ k). omega arith))

    pub view_changes : w < 256 ^ 4 → Changes (λ r. with_view r w) s viewed
    unfolding over
    view_changes small = record { size = length_placed s 4 (digits 4 w) view_room ∙ size; is = λ row heard. there row heard }
      where
        there : get_or s 2 0 < rows → (heard : ℕ → Report) → over heard viewed ≡ with_view (over heard s) w
        there row heard =
            let n = view_byte 0 (λ (g : 4 ≤ 0). omega arith) in
            let f = view_byte 1 (λ (g : 4 ≤ 1). omega arith) in
            let id = view_byte 2 (λ (g : 4 ≤ 2). omega arith) in
            let class = view_byte 3 (λ (g : 4 ≤ 3). omega arith) in
            let view = number_put 4 s 4 w (omega arith) small in
            let plan = number_same 8 viewed s 8 (λ (j : ℕ) (b : j < 8). view_byte (8 + j) (λ (g : 4 ≤ 8 + j). omega arith)) in
            let over17 = (λ i. put_over (id i) (λ u. slot_in viewed (remnant_place u)) heard remnant_slots)
            ∙ over_same (get_or s 2 0) row heard (λ u. slot_in s (remnant_place u)) (λ u. slot_in viewed (remnant_place u)) remnant_slots
            (λ u l. view_slot u) in
            λ i. record { set = record { n = n i; f = f i; id = id i; class = class i }; view = view i; plan = plan i; slots = over17 i }

  -- What an own slot of the record holds.
  pub slot_over : get_or s 2 0 < rows → (heard : ℕ → Report) (t : ℕ) → t < remnant_slots → slot_of (over heard s) (own_slot (get_or s 2 0) t) ≡ slot_in s
      (remnant_place t)
  unfolding over
  slot_over row heard t low = over_own (get_or s 2 0) row heard (λ u. slot_in s (remnant_place u)) remnant_slots t low
