-- A record is clean place by place: each slot holds what its kind and sender, its vote or its decision says, and nothing besides
-- (document 01, 'For each sender and kind it keeps one frame'; 'Absent means all 13 bytes zero'). To keep a frame fills its own
-- places, and leaves the others.
-- Assumes nothing.
use Prim.Native.Nat.{ℕ, suc, ◌≤◌, ◌<◌}
use mathlib.Core.Path.{◌≡◌, refl, sym, ◌∙◌, ap, subst}
use mathlib.Core.Bool.{Bool, true, cond}
use mathlib.Core.Option.{some}
use native.Mathlib.Omega.{arith}
use native.Mathlib.Decide.{dec_lt}
use lib.Dec.{ltb}
use borrow.Author.Tests.{lt-ltb, le-ltb}
use Rattle.frame.specs.declared.Report.{Report}
use Rattle.frame.specs.declared.Frame.{Frame}
use Rattle.frame.specs.Valid.{fits}
use Rattle.frame.proofs.Laws.{inside}
use Rattle.record.specs.Slots as slots
use Rattle.record.specs.Slots.{rows, kinds, slot_count, frame_slot, report_slot, previous_slot, decision_slot, empty_slot, slot_of}
use Rattle.record.specs.Kept.{kept_in, kept_frame, head_slot}
use Rattle.record.specs.inside.Kept.{keep_frame}
use Rattle.protocol.specs.Record.{when, reported, spelt}
use Rattle.protocol.specs.Pass.{has_previous}
use Rattle.contents.specs.Contents.{kept_of, previous_of, contents, head_of, report_of_frame, slot_at}
use Rattle.contents.specs.Lent.{Clean}
use Rattle.contents.proofs.Kept.{Puts, puts_keep, kept_put, head_stays, told_stays, kept_stays, far_stays, by_place, previous_bounds}
use Rattle.contents.proofs.Places.{slot_head, slot_told, slot_previous, slot_decision, everywhere}

-- Each slot holds what is read off it.
pub record Filled (s : ℕ → Report) : Type 0 where
  pub head : (k j : ℕ) → 1 ≤ k → k ≤ kinds → j < rows → s (frame_slot k j) ≡ head_of (kept_in s k j)
  pub told : (k w j : ℕ) → 7 ≤ k → k ≤ kinds → w < 3 → j < rows → s (report_slot k w j) ≡ report_of_frame w (kept_in s k j)
  pub previous : (k : ℕ) → has_previous k ≡ true → s (previous_slot (suc k)) ≡ spelt (reported (s (previous_slot (suc k))))
  pub decision : s decision_slot ≡ spelt (reported (s decision_slot))

-- ---- what the contents say at a place

module _ (r : slots.Record) where
  -- A kept frame is the one that its slots hold.
  pub kept_at : (k j : ℕ) → 1 ≤ k → k ≤ kinds → j < rows → (contents r).kept k j ≡ kept_frame r k j
  unfolding contents kept_of
  kept_at k j low high row = rw (inside 1 kinds k low high, lt-ltb j rows row)

  -- A previous vote is the one that its slot reports.
  pub previous_at : (k : ℕ) → has_previous k ≡ true → (contents r).previous k ≡ reported (slot_of r (previous_slot (suc k)))
  unfolding contents previous_of
  previous_at k has = ap (λ (b : Bool). when b (reported (slot_of r (previous_slot (suc k))))) has

  -- So is the decision.
  pub decision_at : (contents r).decision ≡ reported (slot_of r decision_slot)
  unfolding contents
  decision_at = refl

-- ---- place by place

module _ (r : slots.Record) where
  -- A record whose places are filled, with nothing beyond them, is clean.
  pub clean_of : ((i : ℕ) → slot_count ≤ i → slot_of r i ≡ empty_slot) → Filled (slot_of r) → Clean r
  clean_of beyond h = record { filled = λ i. go i (dec_lt i slot_count) }
    where
      there : (i : ℕ) → i < slot_count → slot_of r i ≡ slot_at (contents r) i
      there = everywhere (λ (i : ℕ). slot_of r i ≡ slot_at (contents r) i)
          (λ k j low high row. h.head k j low high row ∙ ap head_of (sym (kept_at r k j low high row)) ∙ sym (slot_head (contents r) k j low high row))
          (λ k w j low high lw row. h.told k w j low high lw row ∙ ap (report_of_frame w) (sym (kept_at r k j (omega arith) high row))
          ∙ sym (slot_told (contents r) k w j low high lw row))
          (λ k has. h.previous k has ∙ ap spelt (sym (previous_at r k has)) ∙ sym (slot_previous (contents r) k has))
          (h.decision ∙ ap spelt (sym (decision_at r)) ∙ sym (slot_decision (contents r)))

      go : (i : ℕ) → Dec (i < slot_count) → slot_of r i ≡ cond (ltb i slot_count) (slot_at (contents r) i) empty_slot
      go i (yes low) = there i low ∙ ap (λ (b : Bool). cond b (slot_at (contents r) i) empty_slot) (sym (lt-ltb i slot_count low))
      go i (no far) = beyond i (omega arith) ∙ ap (λ (b : Bool). cond b (slot_at (contents r) i) empty_slot) (sym (le-ltb i slot_count (omega arith)))

  -- Beyond its slots a clean record holds nothing.
  pub beyond_of : Clean r → (i : ℕ) → slot_count ≤ i → slot_of r i ≡ empty_slot
  beyond_of h i far = h.filled i ∙ ap (λ (b : Bool). cond b (slot_at (contents r) i) empty_slot) (le-ltb i slot_count far)

  -- A slot of a clean record is what its contents put there.
  pub filled_at : Clean r → (i : ℕ) → i < slot_count → slot_of r i ≡ slot_at (contents r) i
  filled_at h i low = h.filled i ∙ ap (λ (b : Bool). cond b (slot_at (contents r) i) empty_slot) (lt-ltb i slot_count low)

  -- So every place of a clean record is filled.
  pub filled_of : Clean r → Filled (slot_of r)
  filled_of h = record {
    head = λ k j low high row. filled_at h (frame_slot k j) (omega arith) ∙ slot_head (contents r) k j low high row ∙ ap head_of (kept_at r k j low high row);
    told = λ k w j low high lw row. filled_at h (report_slot k w j) (omega arith) ∙ slot_told (contents r) k w j low high lw row
        ∙ ap (report_of_frame w) (kept_at r k j (omega arith) high row);
    previous = λ k has. let (low, high) = previous_bounds k has in filled_at h (previous_slot (suc k)) (omega arith) ∙ slot_previous (contents r) k has
        ∙ ap spelt (previous_at r k has);
    decision = filled_at h decision_slot (omega arith) ∙ slot_decision (contents r) ∙ ap spelt (decision_at r);
  }

-- ---- a frame is kept

-- A slot that holds a vote, or nothing, holds it after a change that leaves the slot.
pub as_was : {x y : Report} → y ≡ x → x ≡ spelt (reported x) → y ≡ spelt (reported y)
as_was e h = e ∙ h ∙ ap (λ (z : Report). spelt (reported z)) (sym e)

module _ (r : slots.Record) (f : Frame) (h : Clean r) (row : f.sender < rows) (fit : fits f.kind f.body ≡ true) where
  -- The slots, once the frame is kept.
  abbrev s : ℕ → Report
  s = slot_of (keep_frame r f.sender f)

  -- Beyond the last slot there is still nothing.
  beyond_keep : (i : ℕ) → slot_count ≤ i → s i ≡ empty_slot
  beyond_keep i far = far_stays r f row fit i (omega arith) ∙ beyond_of r h i far

  -- Every place is still filled: the frame's own by the frame, the others as they were.
  filled_keep : Filled s
  filled_keep = record {
    head = λ k j low high below. by_place r f row fit k j
        (λ e ek ej. subst (λ (k : ℕ). s (frame_slot k j) ≡ head_of (kept_in s k j)) ek
        (subst (λ (j : ℕ). s (frame_slot f.kind j) ≡ head_of (kept_in s f.kind j)) ej
        (puts.head ∙ ap head_of (sym there))))
        (λ e ne.
        head_stays r f row fit k j low high below ne ∙ was.head k j low high below
        ∙ ap head_of (sym (kept_stays r f row fit k j low high below ne)));
    told = λ k w j low high lw below. by_place r f row fit k j
        (λ e ek ej. subst (λ (k : ℕ). s (report_slot k w j) ≡ report_of_frame w (kept_in s k j)) ek
        (subst (λ (j : ℕ). s (report_slot f.kind w j) ≡ report_of_frame w (kept_in s f.kind j)) ej
        (puts.told w lw (omega arith) ∙ ap (report_of_frame w) (sym there))))
        (λ e ne.
        told_stays r f row fit k j (omega arith) high below ne w lw low ∙ was.told k w j low high lw below
        ∙ ap (report_of_frame w) (sym (kept_stays r f row fit k j (omega arith) high below ne)));
    previous = λ k has. let (low, high) = previous_bounds k has in as_was (far_stays r f row fit (previous_slot (suc k)) (omega arith)) (was.previous k has);
    decision = as_was (far_stays r f row fit decision_slot (omega arith)) was.decision;
  }
    where
      was : Filled (slot_of r)
      was = filled_of r h

      puts : Puts f.kind f.sender (head_slot f) f.body (slot_of r) s
      puts = puts_keep r f row fit

      there : kept_in s f.kind f.sender ≡ some f
      there = kept_put r f row fit

-- A clean record stays clean when a frame is put into its row.
pub clean_keep : (r : slots.Record) (f : Frame) {j : ℕ} → f.sender ≡ j → Clean r → j < rows → fits f.kind f.body ≡ true → Clean (keep_frame r j f)
clean_keep r f is h row fit =
    subst (λ (j : ℕ). Clean (keep_frame r j f)) is (clean_of (keep_frame r f.sender f) (beyond_keep r f h (rw is row) fit) (filled_keep r f h (rw is row) fit))
