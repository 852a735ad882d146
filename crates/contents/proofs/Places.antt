-- The 899 places of a record, each named once: by kind and sender, by kind, report and sender, by vote, and the decision
-- (document 01, 'What a vault keeps'). Place numbers are sums of multiples of 64 and 192, so each is found again by division.
-- Assumes nothing.
use Prim.Native.Nat.{ℕ, suc, ◌+◌, ◌-◌, ◌/◌, ◌%◌, ◌≤◌, ◌<◌}
use mathlib.Core.Path.{◌≡◌, refl, ◌∙◌, ap, subst}
use mathlib.Core.Bool.{true}
use native.Mathlib.Omega.{arith}
use native.Mathlib.Decide.{dec_lt}
use borrow.Author.Tests.{lt-ltb, le-ltb}
use Rattle.record.specs.Slots.{rows, kinds, reports_of_kind, first_report, first_previous, slot_count, frame_slot, report_slot, previous_slot, decision_slot}
use Rattle.protocol.specs.Record.{Record, spelt}
use Rattle.protocol.specs.Pass.{has_previous}
use Rattle.contents.specs.Contents.{head_of, report_of_frame, slot_at}
use Rattle.contents.proofs.Kept.{previous_bounds}

-- ---- what contents put there

module _ (c : Record) where
  -- At the place of a kind and a sender stands the frame's head.
  pub slot_head : (k j : ℕ) → 1 ≤ k → k ≤ kinds → j < rows → slot_at c (frame_slot k j) ≡ head_of (c.kept k j)
  unfolding slot_at
  slot_head k j low high row =
      let kind : suc ((frame_slot k j / rows + 5) % kinds) ≡ k = omega arith in
      let sender : frame_slot k j % rows ≡ j = omega arith in
      let there : slot_at c (frame_slot k j) ≡ head_of (c.kept (suc ((frame_slot k j / rows + 5) % kinds)) (frame_slot k j % rows)) =
      rw (lt-ltb (frame_slot k j) first_report (omega arith)) refl in
      there ∙ (λ i. head_of (c.kept (kind i) (sender i)))

  -- At the place of one of its reports stands that report.
  pub slot_told : (k w j : ℕ) → 7 ≤ k → k ≤ kinds → w < 3 → j < rows → slot_at c (report_slot k w j) ≡ report_of_frame w (c.kept k j)
  unfolding slot_at
  slot_told k w j low high lw row =
      let kind : 7 + (report_slot k w j - first_report) / reports_of_kind ≡ k = omega arith in
      let report : (report_slot k w j - first_report) / rows % 3 ≡ w = omega arith in
      let sender : report_slot k w j % rows ≡ j = omega arith in
      rw (le-ltb (report_slot k w j) first_report (omega arith), lt-ltb (report_slot k w j) first_previous (omega arith), kind, report, sender)

  -- At the place of a previous vote stands that vote, spelt.
  pub slot_previous : (k : ℕ) → has_previous k ≡ true → slot_at c (previous_slot (suc k)) ≡ spelt (c.previous k)
  unfolding slot_at
  slot_previous k has =
      let (low, high) = previous_bounds k has in
      let vote : suc (previous_slot (suc k) - first_previous) ≡ k = omega arith in
      let there : slot_at c (previous_slot (suc k)) ≡ spelt (c.previous (suc (previous_slot (suc k) - first_previous))) =
      rw (
        le-ltb (previous_slot (suc k)) first_report (omega arith),
        le-ltb (previous_slot (suc k)) first_previous (omega arith),
        lt-ltb (previous_slot (suc k)) decision_slot (omega arith),
      ) refl in
      there ∙ ap (λ (v : ℕ). spelt (c.previous v)) vote

  -- At the last place stands the decision, spelt.
  pub slot_decision : slot_at c decision_slot ≡ spelt c.decision
  unfolding slot_at
  slot_decision = refl

-- ---- there are no others

-- What holds at the places of kinds and senders, of their reports, of previous votes and of the decision, holds everywhere.
pub everywhere : (P : ℕ → Type 0) → ((k j : ℕ) → 1 ≤ k → k ≤ kinds → j < rows → P (frame_slot k j))
    → ((k w j : ℕ) → 7 ≤ k → k ≤ kinds → w < 3 → j < rows → P (report_slot k w j)) → ((k : ℕ) → has_previous k ≡ true → P (previous_slot (suc k)))
    → P decision_slot → (i : ℕ) → i < slot_count → P i
everywhere P head told previous decision i low = go (dec_lt i first_report) (dec_lt i first_previous) (dec_lt i (first_previous + 1)) (dec_lt i decision_slot)
  where
    go : Dec (i < first_report) → Dec (i < first_previous) → Dec (i < first_previous + 1) → Dec (i < decision_slot) → P i
    go (yes a) b c d =
        let is : frame_slot (suc ((i / rows + 5) % kinds)) (i % rows) ≡ i = omega arith in
        subst P is (head (suc ((i / rows + 5) % kinds)) (i % rows) (omega arith) (omega arith) (omega arith))
    go (no a) (yes b) c d =
        let kind = 7 + (i - first_report) / reports_of_kind in
        let which = (i - first_report) / rows % 3 in
        let is : report_slot kind which (i % rows) ≡ i = omega arith in
        subst P is (told kind which (i % rows) (omega arith) (omega arith) (omega arith) (omega arith))
    go (no a) (no b) (yes c) d = let is : first_previous ≡ i = omega arith in subst P is (previous 1 refl)
    go (no a) (no b) (no c) (yes d) = let is : first_previous + 1 ≡ i = omega arith in subst P is (previous 2 refl)
    go (no a) (no b) (no c) (no d) = let is : decision_slot ≡ i = omega arith in subst P is decision
