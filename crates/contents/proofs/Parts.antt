-- The contents of a record with another view, another previous vote or a decision, and of a fresh one (document 01, 'its own
-- previous vote-1 and vote-2, and the decision'; 'it enters view 0 with .. no kept frames and no reports').
-- The two previous votes and the decision have slots beyond those of kinds and senders, one each.
-- Assumes nothing.
use Prim.Native.Nat.{ℕ, suc, ◌≤◌, ◌<◌}
use mathlib.Core.Path.{◌≡◌, refl, sym, ◌∙◌, ap}
use mathlib.Core.Logic.{◌⊎◌, inl, inr}
use mathlib.Core.Bool.{Bool, true, false, cond, ◌&&◌}
use mathlib.Core.Option.{none, some}
use native.Mathlib.Omega.{arith}
use native.Mathlib.Decide.{ℕ_discrete}
use lib.Dec.{ltb, eqb}
use borrow.Author.Tests.{eqb-true, eqb-false, ltb-true}
use Rattle.rules.proofs.Bools.{which, both_split}
use Rattle.frame.specs.declared.Report.{Report}
use Rattle.frame.specs.Format.{within}
use Rattle.frame.proofs.Laws.{bounds}
use Rattle.record.specs.Slots as slots
use Rattle.settings.specs.declared.Settings.{Settings}
use Rattle.record.specs.Slots.{rows, kinds, first_previous, slot_count, frame_slot, report_slot, previous_slot, decision_slot, empty_slot, slot_of}
use Rattle.record.specs.inside.Slots.{with_slot, with_view, fresh_slots}
use Rattle.record.proofs.Slots.{slot_same, slot_other}
use Rattle.record.specs.Kept.{kept_in}
use Rattle.record.proofs.Forms.{kept_nothing}
use Rattle.protocol.specs.Record.{changed, when, reported, spelt}
use Rattle.protocol.specs.Tables.{put}
use Rattle.protocol.specs.Pass.{has_previous}
use Rattle.protocol.specs.Calls as protocol
use Rattle.contents.specs.Contents.{kept_of, previous_of, contents, head_of, report_of_frame}
use Rattle.contents.specs.Lent.{Clean}
use Rattle.contents.proofs.Kept.{kept_same, guarded, guarded_none, previous_bounds}
use Rattle.contents.proofs.Clean.{Filled, as_was, clean_of, beyond_of, filled_of}

-- ---- the view

module _ (r : slots.Record) (w : ℕ) where
  -- The view put in is the contents' view, and the rest stays.
  pub contents_view : contents (with_view r w) ≡ changed (contents r) w (contents r).kept (contents r).previous (contents r).decision
  unfolding contents kept_of previous_of
  contents_view = refl

  -- The record stays clean: no slot changes.
  pub clean_view : Clean r → Clean (with_view r w)
  clean_view h = clean_of (with_view r w) (beyond_of r h) (filled_of r h)

-- ---- a slot beyond those of kinds and senders

module _ (r : slots.Record) (at : ℕ) (x : Report) (far : first_previous ≤ at) where
  -- Such a slot is no frame's own slot, so those stay.
  frame_stays : (k j : ℕ) → 1 ≤ k → k ≤ kinds → j < rows → slot_of (with_slot r at x) (frame_slot k j) ≡ slot_of r (frame_slot k j)
  frame_stays k j low high row = slot_other r at x (frame_slot k j) (λ (e : frame_slot k j ≡ at). omega arith)

  -- Nor is it a report's.
  report_stays : (k w j : ℕ) → k ≤ kinds → w < 3 → j < rows → slot_of (with_slot r at x) (report_slot k w j) ≡ slot_of r (report_slot k w j)
  report_stays k w j high lw row = slot_other r at x (report_slot k w j) (λ (e : report_slot k w j ≡ at). omega arith)

  -- So the frames that slots hold stay.
  frame_kept : (k j : ℕ) → 1 ≤ k → k ≤ kinds → j < rows → kept_in (slot_of (with_slot r at x)) k j ≡ kept_in (slot_of r) k j
  frame_kept k j low high row =
      kept_same (slot_of (with_slot r at x)) (slot_of r) k j (frame_stays k j low high row) (λ w lw seven. report_stays k w j high lw row) low high

  -- And the kept frames, by contents.
  kept_beside : (k j : ℕ) → kept_of (with_slot r at x) k j ≡ kept_of r k j
  unfolding kept_of
  kept_beside k j = guarded (within 1 kinds k && ltb j rows) (λ g.
      let (gk, gj) = both_split (within 1 kinds k) (ltb j rows) g in
      let (low, high) = bounds 1 kinds k gk in
      frame_kept k j low high (ltb-true j rows gj))

  -- A vote put there is the vote that is read there.
  pub clean_beside : Clean r → at < slot_count → x ≡ spelt (reported x) → Clean (with_slot r at x)
  clean_beside h low vote = clean_of (with_slot r at x) far' (record {
    head = λ k j low high row. frame_stays k j low high row ∙ was.head k j low high row ∙ ap head_of (sym (frame_kept k j low high row));
    told = λ k w j low high lw row. report_stays k w j high lw row ∙ was.told k w j low high lw row
        ∙ ap (report_of_frame w) (sym (frame_kept k j (omega arith) high row));
    previous = λ k has. votes (previous_slot (suc k)) (was.previous k has);
    decision = votes decision_slot was.decision;
  })
    where
      was : Filled (slot_of r)
      was = filled_of r h

      far' : (i : ℕ) → slot_count ≤ i → slot_of (with_slot r at x) i ≡ empty_slot
      far' i over = slot_other r at x i (λ (e : i ≡ at). omega arith) ∙ beyond_of r h i over

      votes : (i : ℕ) → slot_of r i ≡ spelt (reported (slot_of r i)) → slot_of (with_slot r at x) i ≡ spelt (reported (slot_of (with_slot r at x) i))
      votes i old = go (ℕ_discrete i at)
        where
          go : Dec (i ≡ at) → slot_of (with_slot r at x) i ≡ spelt (reported (slot_of (with_slot r at x) i))
          go (yes e) = rw e (as_was (slot_same r at x) vote)
          go (no ne) = as_was (slot_other r at x i ne) old

-- ---- a previous vote

module _ (r : slots.Record) (k : ℕ) (x : Report) (has : has_previous k ≡ true) where
  -- The previous votes, with that of vote-k put in.
  previous_put : (j : ℕ) → previous_of (with_slot r (previous_slot (suc k)) x) j ≡ put k (reported x) (previous_of r) j
  unfolding previous_of
  previous_put j = go (which (eqb k j))
    where
      go : (eqb k j ≡ true) ⊎ (eqb k j ≡ false) → previous_of (with_slot r (previous_slot (suc k)) x) j ≡ put k (reported x) (previous_of r) j
      go (inl e) =
          let (low, high) = previous_bounds k has in
          let there = ap reported (slot_same r (previous_slot (suc k)) x) in
          let was : when (has_previous k) (reported (slot_of (with_slot r (previous_slot (suc k)) x) (previous_slot (suc k)))) ≡ reported x =
          ap (λ (b : Bool). when b (reported (slot_of (with_slot r (previous_slot (suc k)) x) (previous_slot (suc k))))) has ∙ there in
          ap (λ (j : ℕ). previous_of (with_slot r (previous_slot (suc k)) x) j) (sym (eqb-true k j e)) ∙ was
          ∙ ap (λ (b : Bool). cond b (reported x) (previous_of r j)) (sym e)
      go (inr e) =
          guarded (has_previous j) (λ g.
          let (low, high) = previous_bounds k has in
          let (l, h) = previous_bounds j g in
          ap reported (slot_other r (previous_slot (suc k)) x (previous_slot (suc j))
          (λ (s : previous_slot (suc j) ≡ previous_slot (suc k)). eqb-false k j e (omega arith))))
          ∙ ap (λ (b : Bool). cond b (reported x) (previous_of r j)) (sym e)

  -- A previous vote put in is the contents' previous vote, and the rest stays.
  pub contents_previous : contents (with_slot r (previous_slot (suc k)) x)
      ≡ changed (contents r) (contents r).view (contents r).kept (put k (reported x) (contents r).previous) (contents r).decision
  unfolding contents
  contents_previous =
      let (low, high) = previous_bounds k has in
      let kept = kept_beside r (previous_slot (suc k)) x (omega arith) in
      let decision = ap reported (slot_other r (previous_slot (suc k)) x decision_slot (λ (e : decision_slot ≡ previous_slot (suc k)). omega arith)) in
      λ i. record {
        set = r.set;
        start = r.plan;
        view = r.view;
        kept = λ k j. kept k j i;
        previous = λ j. previous_put j i;
        decision = decision i;
      }

-- ---- the decision

module _ (r : slots.Record) (v p : ℕ) where
  -- The record with a decision put in.
  abbrev pub decided : slots.Record
  decided = with_slot r decision_slot (record { mark = 1; view = v; plan = p })

  -- The previous votes stay.
  previous_decide : (k : ℕ) → previous_of decided k ≡ previous_of r k
  unfolding previous_of
  previous_decide k = guarded (has_previous k) (λ g.
      let (low, high) = previous_bounds k g in
      ap reported (slot_other r decision_slot (record { mark = 1; view = v; plan = p }) (previous_slot (suc k))
      (λ (e : previous_slot (suc k) ≡ decision_slot). omega arith)))

  -- A decision put in is the contents' decision, and the rest stays.
  pub contents_decide : contents decided ≡ changed (contents r) (contents r).view (contents r).kept (contents r).previous
      (some (record { view = v; plan = p }))
  unfolding contents
  contents_decide =
      let kept = kept_beside r decision_slot (record { mark = 1; view = v; plan = p }) (omega arith) in
      let decision = ap reported (slot_same r decision_slot (record { mark = 1; view = v; plan = p })) in
      λ i. record {
        set = r.set;
        start = r.plan;
        view = r.view;
        kept = λ k j. kept k j i;
        previous = λ k. previous_decide k i;
        decision = decision i;
      }

  -- The record stays clean: a decision is a vote.
  pub clean_decide : Clean r → Clean decided
  clean_decide h = clean_beside r decision_slot (record { mark = 1; view = v; plan = p }) (omega arith) h (omega arith) refl

-- ---- a fresh record

module _ (set : Settings) (plan : ℕ) where
  -- All slots are empty.
  slot_fresh : (i : ℕ) → slot_of (fresh_slots set plan) i ≡ empty_slot
  unfolding fresh_slots
  slot_fresh i = refl

  -- So no frame is kept.
  kept_fresh : (k j : ℕ) → kept_in (slot_of (fresh_slots set plan)) k j ≡ none
  kept_fresh k j = kept_nothing (slot_of (fresh_slots set plan)) k j (λ e.
      let z : ◌≡◌ {A = ℕ} 0 1 = sym (ap (λ (x : Report). x.mark) (slot_fresh (frame_slot k j))) ∙ e in
      omega arith)

  -- The record of a start holds what a start has by contents.
  pub contents_fresh : contents (fresh_slots set plan) ≡ protocol.fresh set plan
  unfolding contents kept_of previous_of fresh_slots
  contents_fresh = λ i. record {
    set = set;
    start = plan;
    view = 0;
    kept = λ k j. guarded_none (within 1 kinds k && ltb j rows) (λ g. kept_fresh k j) i;
    previous = λ k. guarded_none (has_previous k) (λ g. ap reported (slot_fresh (previous_slot (suc k)))) i;
    decision = ap reported (slot_fresh decision_slot) i;
  }

  -- And is clean.
  pub clean_fresh : Clean (fresh_slots set plan)
  clean_fresh = clean_of (fresh_slots set plan) (λ i far. slot_fresh i) (record {
    head = λ k j low high row. slot_fresh (frame_slot k j) ∙ ap head_of (sym (kept_fresh k j));
    told = λ k w j low high lw row. slot_fresh (report_slot k w j) ∙ ap (report_of_frame w) (sym (kept_fresh k j));
    previous = λ k has. as_was (slot_fresh (previous_slot (suc k))) refl;
    decision = as_was (slot_fresh decision_slot) refl;
  })
