-- Contents that fill slots are read back from them, and a clean record is the one that its contents fill (document 01, 'What a
-- vault keeps'). Each of the slots stands at one place, and beyond them there is nothing.
-- Assumes nothing.
use Prim.Native.Nat.{ℕ, suc, ◌≤◌, ◌<◌}
use mathlib.Core.Path.{◌≡◌, refl, sym, ◌∙◌, ap, subst}
use mathlib.Core.Logic.{◌⊎◌, inl, inr}
use mathlib.Core.Bool.{Bool, true, false, cond, ◌&&◌}
use mathlib.Core.Option.{Option, none, some}
use native.Mathlib.Omega.{arith}
use lib.Dec.{ltb}
use borrow.Author.Tests.{lt-ltb, le-ltb, ltb-true}
use Rattle.rules.proofs.Bools.{which, both_split, both_join}
use Rattle.rules.specs.Rules.{Vote}
use Rattle.frame.specs.declared.Report.{Report}
use Rattle.frame.specs.declared.Frame.{Frame}
use Rattle.frame.specs.Format.{within}
use Rattle.frame.proofs.Laws.{inside, bounds}
use Rattle.record.specs.Slots as slots
use Rattle.record.specs.Slots.{rows, kinds, slot_count, frame_slot, report_slot, previous_slot, decision_slot, empty_slot, slot_of}
use Rattle.record.specs.Kept.{kept_in, kept_frame}
use Rattle.record.proofs.Forms.{kept_nothing, fits_kind}
use Rattle.protocol.specs.Record.{Record, when, reported, spelt}
use Rattle.protocol.specs.Pass.{has_previous}
use Rattle.protocol.specs.Sound.{Sound}
use Rattle.protocol.proofs.Sound.{size_below}
use Rattle.contents.specs.Contents.{kept_of, previous_of, contents, head_of, report_of_frame, slot_at, slotted}
use Rattle.contents.specs.Lent.{Clean}
use Rattle.contents.proofs.Kept.{kept_is, guarded_none, previous_bounds}
use Rattle.contents.proofs.Places.{slot_head, slot_told, slot_previous, slot_decision}
use Rattle.contents.proofs.Clean.{clean_of}

-- ---- a clean record is the one that its contents fill

-- To read a clean record's contents and to fill slots with them gives the record.
pub slotted_contents : (r : slots.Record) → Clean r → slotted (contents r) ≡ r
unfolding contents slotted
slotted_contents r h = sym (λ i. record { set = r.set; view = r.view; plan = r.plan; slots = λ at. h.filled at i })

-- ---- contents are read back

-- Each slot that contents fill holds what `slot_at` says.
pub slot_slotted : (c : Record) (i : ℕ) → i < slot_count → slot_of (slotted c) i ≡ slot_at c i
unfolding slotted
slot_slotted c i low = ap (λ (b : Bool). cond b (slot_at c i) empty_slot) (lt-ltb i slot_count low)

-- Beyond the last slot they fill none.
pub slot_beyond : (c : Record) (i : ℕ) → slot_count ≤ i → slot_of (slotted c) i ≡ empty_slot
unfolding slotted
slot_beyond c i far = ap (λ (b : Bool). cond b (slot_at c i) empty_slot) (le-ltb i slot_count far)

-- 'its own previous vote-1 and vote-2': it has no others.
abbrev pub Placed : Record → Type 0
Placed c = (k : ℕ) → has_previous k ≡ false → c.previous k ≡ none

-- A vote that is spelt as a report reads as that vote.
reported_spelt : (o : Option Vote) → reported (spelt o) ≡ o
reported_spelt none = refl
reported_spelt (some x) = refl

-- Where the test passes, `when` leaves all.
guarded_true : {A : Type 0} {b : Bool} (o : Option A) → b ≡ true → when b o ≡ o
guarded_true o e = ap (λ (b : Bool). when b o) e

module _ (c : Record) (sound : Sound c) where
  -- The slots that the contents fill.
  abbrev s : ℕ → Report
  s = slot_of (slotted c)

  -- A frame's own slot is filled with its head.
  head_slotted : (k j : ℕ) → 1 ≤ k → k ≤ kinds → j < rows → s (frame_slot k j) ≡ head_of (c.kept k j)
  head_slotted k j low high row = slot_slotted c (frame_slot k j) (omega arith) ∙ slot_head c k j low high row

  -- A report's slot is filled with the report.
  told_slotted : (k w j : ℕ) → 7 ≤ k → k ≤ kinds → w < 3 → j < rows → s (report_slot k w j) ≡ report_of_frame w (c.kept k j)
  told_slotted k w j low high lw row = slot_slotted c (report_slot k w j) (omega arith) ∙ slot_told c k w j low high lw row

  -- A previous vote's slot is filled with that vote.
  previous_slotted : (k : ℕ) → has_previous k ≡ true → s (previous_slot (suc k)) ≡ spelt (c.previous k)
  previous_slotted k has = let (low, high) = previous_bounds k has in slot_slotted c (previous_slot (suc k)) (omega arith) ∙ slot_previous c k has

  -- The last slot is filled with the decision.
  decision_slotted : s decision_slot ≡ spelt c.decision
  decision_slotted = slot_slotted c decision_slot (omega arith) ∙ slot_decision c

  -- Kind and sender of a kept frame are those of its place.
  kept_back : (k j : ℕ) → 1 ≤ k → k ≤ kinds → j < rows → kept_in s k j ≡ c.kept k j
  kept_back k j low high row = go (c.kept k j) refl
    where
      go : (o : Option Frame) → c.kept k j ≡ o → kept_in s k j ≡ o
      go none e = kept_nothing s k j (λ m.
          let z : ◌≡◌ {A = ℕ} 0 1 = sym (ap (λ (x : Report). x.mark) (head_slotted k j low high row ∙ ap head_of e)) ∙ m in
          omega arith)
      go (some x) e =
          let is = sound.kept k j x e in
          subst (λ (k : ℕ). kept_in s k j ≡ some x) is.kind (subst (λ (j : ℕ). kept_in s x.kind j ≡ some x) is.sender (kept_is s x is.valid.shape
          (rw (is.kind, is.sender) (head_slotted k j low high row ∙ ap head_of e))
          (λ w lw seven. rw (is.kind, is.sender) (told_slotted k w j (rw is.kind at seven) high lw row ∙ ap (report_of_frame w) e))))

  -- Every kept frame is read back, also where there are no slots: a sound record keeps none there.
  kept_slotted : (k j : ℕ) → kept_of (slotted c) k j ≡ c.kept k j
  unfolding kept_of
  kept_slotted k j = go (c.kept k j) refl
    where
      there : within 1 kinds k ≡ true → ltb j rows ≡ true → kept_frame (slotted c) k j ≡ c.kept k j
      there gk gj = let (low, high) = bounds 1 kinds k gk in kept_back k j low high (ltb-true j rows gj)

      go : (o : Option Frame) → c.kept k j ≡ o → when (within 1 kinds k && ltb j rows) (kept_frame (slotted c) k j) ≡ o
      go none e = guarded_none (within 1 kinds k && ltb j rows) (λ g. let (gk, gj) = both_split (within 1 kinds k) (ltb j rows) g in there gk gj ∙ e)
      go (some x) e =
          let is = sound.kept k j x e in
          let (low, high) = fits_kind x.kind x.body is.valid.shape in
          let gk : within 1 kinds k ≡ true = rw (← is.kind) (inside 1 kinds x.kind low high) in
          let gj : ltb j rows ≡ true = lt-ltb j rows (omega (arith, is.row, size_below c.set sound.settings)) in
          guarded_true (kept_frame (slotted c) k j) (both_join (within 1 kinds k) (ltb j rows) gk gj) ∙ there gk gj ∙ e

  -- The previous votes are read back.
  previous_back : Placed c → (k : ℕ) → previous_of (slotted c) k ≡ c.previous k
  unfolding previous_of
  previous_back two k = go (which (has_previous k))
    where
      go : (has_previous k ≡ true) ⊎ (has_previous k ≡ false) → when (has_previous k) (reported (s (previous_slot (suc k)))) ≡ c.previous k
      go (inl has) = guarded_true (reported (s (previous_slot (suc k)))) has ∙ ap reported (previous_slotted k has) ∙ reported_spelt (c.previous k)
      go (inr other) = ap (λ (b : Bool). when b (reported (s (previous_slot (suc k))))) other ∙ sym (two k other)

  -- Sound contents are read back whole, if they have no previous votes but vote-1's and vote-2's.
  pub contents_slotted : Placed c → contents (slotted c) ≡ c
  unfolding contents slotted
  contents_slotted two =
      let decision = ap reported decision_slotted ∙ reported_spelt c.decision in
      λ i. record {
        set = c.set;
        start = c.start;
        view = c.view;
        kept = λ k j. kept_slotted k j i;
        previous = λ k. previous_back two k i;
        decision = decision i;
      }

  -- A record that contents fill is clean.
  pub clean_slotted : Clean (slotted c)
  clean_slotted = clean_of (slotted c) (slot_beyond c) (record {
    head = λ k j low high row. head_slotted k j low high row ∙ ap head_of (sym (kept_back k j low high row));
    told = λ k w j low high lw row. told_slotted k w j low high lw row ∙ ap (report_of_frame w) (sym (kept_back k j (omega arith) high row));
    previous = λ k has. votes (c.previous k) (previous_slotted k has);
    decision = votes c.decision decision_slotted;
  })
    where
      votes : {x : Report} (o : Option Vote) → x ≡ spelt o → x ≡ spelt (reported x)
      votes o e = e ∙ ap spelt (sym (reported_spelt o)) ∙ ap (λ (y : Report). spelt (reported y)) (sym e)
