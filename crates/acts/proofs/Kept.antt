-- What protocol's record says of a vote, a view-change or a report is what stands in its slot (document 01, 'What a vault keeps'): the
-- contents of a record have the frame of a kind and a sender where that slot is present, for the 64 senders that have one. So the
-- sets that steps count are the same, below n.
-- Assumes nothing.
use Prim.Native.Nat.{ℕ, suc, ◌+◌, ◌-◌, ◌≤◌, ◌<◌}
use mathlib.Core.Path.{◌≡◌, refl, sym, ◌∙◌, ap}
use mathlib.Core.Bool.{Bool, true, false, cond, ◌&&◌}
use mathlib.Core.List.{List}
use mathlib.Core.Option.{Option, none, some}
use native.Mathlib.Omega.{arith}
use lib.Dec.{eqb}
use borrow.Author.Tests.{le-leb, lt-leb, ne_eqb}
use Rattle.rules.specs.Rules as rules
use Rattle.claims.specs.Table.{vote_above, reports_in_table}
use Rattle.frame.specs.declared.Report.{Report}
use Rattle.frame.specs.declared.Frame.{Frame}
use Rattle.frame.specs.Format.{within}
use Rattle.frame.specs.Refusal.{present}
use Rattle.record.specs.Slots as slots
use Rattle.record.specs.Slots.{rows, frame_slot, report_slot, slot_of}
use Rattle.record.specs.Kept.{body_in, frame_held, kept_in}
use Rattle.record.specs.Layout.{slot_in}
use Rattle.protocol.specs.Record.{when, each, reported, report_by, change_of, plan_now}
use Rattle.contents.specs.Contents.{contents}
use Rattle.contents.proofs.Clean.{kept_at}
use Rattle.contents.proofs.Acts.{vote_at}
use Rattle.tally.specs.inside.Parts.{shared_part, block_part, block_place}
use Rattle.tally.specs.inside.Changes.{asks, change_in}
use Rattle.tally.specs.inside.Votes.{voted, vote_in_block}
use Rattle.tally.specs.inside.Reports.{above_of, slot_vote, reports_by, Filled}
use Rattle.tally.proofs.Reports.{filled_same, filled_all}
use Rattle.acts.specs.inside.Lent.{Reads}
use Rattle.acts.specs.inside.Proposals.{reports_now}

-- An option that a test lets pass, as the slots have it.
when_is : {A : Type 0} (b : Bool) (x : A) → when b (some x) ≡ cond b (some x) none
when_is true x = refl
when_is false x = refl

-- The vote that a slot reports, where that is of view v.
voted_by : (v : ℕ) (x : Report) → each (reported x) (λ y. when (eqb y.view v) (some y.plan)) ≡ voted v x
unfolding voted
voted_by v x = go (present x)
  where
    there : rules.Vote
    there = record { view = x.view; plan = x.plan }

    go : (b : Bool) → each (cond b (some there) none) (λ y. when (eqb y.view v) (some y.plan))
        ≡ cond (b && eqb x.view v) (some x.plan) none
    go true = when_is (eqb x.view v) x.plan
    go false = refl

-- The vote that the table tells of a slot is the one that the slot reports.
vote_back : (x : Report) → slot_vote x ≡ reported x
unfolding vote_above above_of
vote_back x = go (eqb x.mark 1)
  where
    vote : ℕ → ℕ → Option rules.Vote
    vote w p = some (record { view = w; plan = p })

    go : (b : Bool) → cond (eqb (cond b (x.view + 1) 0) 0) none (vote (cond b (x.view + 1) 0 - 1) x.plan) ≡ cond b (vote x.view x.plan) none
    go true =
        let same : x.view + 1 - 1 ≡ x.view = omega arith in
        rw (ne_eqb (x.view + 1) 0 (λ (e : x.view + 1 ≡ 0). omega arith)) (ap (λ (w : ℕ). vote w x.plan) same)
    go false = refl

-- A frame with a slot's view that tells x, as a report of view v.
report_read : (s : Report) (f : Frame) (v : ℕ) (x : rules.Report) → f.view ≡ s.view → report_by f.body ≡ some x
    → each (when (present s) (some f)) (λ g. when (eqb g.view v) (report_by g.body)) ≡ cond (present s && eqb s.view v) (some x) none
report_read s f v x view told = go (present s)
  where
    go : (b : Bool) → each (when b (some f)) (λ g. when (eqb g.view v) (report_by g.body)) ≡ cond (b && eqb s.view v) (some x) none
    go true = rw (view, told) (when_is (eqb s.view v) x)
    go false = refl

module _ (r : slots.Record) where
  -- 'three reports' in kinds 7 and 8.
  abbrev three : ℕ → ℕ → rules.Report
  three kind j = record {
    highest = reported (slot_of r (report_slot kind 0 j));
    previous = reported (slot_of r (report_slot kind 1 j));
    lock = reported (slot_of r (report_slot kind 2 j));
  }

  -- A kept suggest or proof tells its three reports.
  told_body : (kind j : ℕ) → 7 ≤ kind → report_by (body_in (slot_of r) kind j) ≡ some (three kind j)
  unfolding body_in within
  told_body kind j low = rw (lt-leb kind 5 (omega arith), le-leb 1 kind (omega arith), ne_eqb kind 6 (λ (e : kind ≡ 6). omega arith))

  -- A kind and a sender that a record has a slot for.
  frame_at : (kind j : ℕ) → 1 ≤ kind → kind ≤ 8 → j < rows
      → (contents r).kept kind j ≡ when (present (slot_of r (frame_slot kind j))) (some (frame_held (slot_of r) kind j))
  unfolding kept_in
  frame_at kind j low high row = kept_at r kind j low high row ∙ sym (when_is (present (slot_of r (frame_slot kind j))) (frame_held (slot_of r) kind j))

  -- The plan of a vote of this view, by contents, is the one in its slot.
  plan_slot : (k j : ℕ) → k ≤ 4 → j < rows → plan_now (contents r) k j ≡ voted r.view (slot_of r (frame_slot (suc k) j))
  unfolding contents
  plan_slot k j low row =
      ap (λ (o : Option rules.Vote). each o (λ x. when (eqb x.view r.view) (some x.plan))) (vote_at r k j low row)
      ∙ voted_by r.view (slot_of r (frame_slot (suc k) j))

  -- The view for which a sender's view-change is, by contents, is the one in its slot.
  change_slot : (j : ℕ) → j < rows → change_of (contents r) j ≡ asks (slot_of r (frame_slot 6 j))
  unfolding contents frame_held asks
  change_slot j row =
      ap (λ (o : Option Frame). each o (λ f. some f.view)) (frame_at 6 j (omega arith) (omega arith) row) ∙ go (present (slot_of r (frame_slot 6 j)))
    where
      go : (b : Bool) → each (when b (some (frame_held (slot_of r) 6 j))) (λ f. some f.view) ≡ cond b (some (slot_of r (frame_slot 6 j)).view) none
      go true = refl
      go false = refl

  -- What a sender reports in this view, by contents, stands in its four slots.
  report_slots : (kind j : ℕ) → 7 ≤ kind → kind ≤ 8 → j < rows
      → each ((contents r).kept kind j) (λ f. when (eqb f.view r.view) (report_by f.body))
      ≡ cond (present (slot_of r (frame_slot kind j)) && eqb (slot_of r (frame_slot kind j)).view r.view) (some (three kind j)) none
  unfolding frame_held
  report_slots kind j low high row =
      ap (λ (o : Option Frame). each o (λ f. when (eqb f.view r.view) (report_by f.body))) (frame_at kind j (omega arith) high row)
      ∙ report_read (slot_of r (frame_slot kind j)) (frame_held (slot_of r) kind j) r.view (three kind j) refl (told_body kind j low)

-- ---- in the parts that are lent

module _ (s : List ℕ) (r : slots.Record) (reads : Reads s r) where
  -- The plan of sender j's vote-k (0: proposal) of the current view.
  pub plan_at : (k j : ℕ) → k ≤ 4 → j < rows → plan_now (contents r) k j ≡ vote_in_block (block_part s) r.view k j
  plan_at k j low row =
      let next : suc k ≡ k + 1 = omega arith in
      plan_slot r k j low row
      ∙ ap (voted r.view) (reads.block (frame_slot (suc k) j) (omega arith) (omega arith))
      ∙ ap (λ (m : ℕ). voted r.view (slot_in (block_part s) (block_place (frame_slot m j)))) next

  -- The view of sender j's view-change.
  pub change_at : (j : ℕ) → j < rows → change_of (contents r) j ≡ change_in (shared_part s) j
  change_at j row =
      let first : frame_slot 6 j ≡ j = omega arith in
      change_slot r j row ∙ ap (λ (i : ℕ). asks (slot_of r i)) first ∙ ap asks (reads.shared j row)

  -- What a sender reports in this view, read in the block.
  report_at : (kind j : ℕ) → 7 ≤ kind → kind ≤ 8 → j < rows
      → reports_by (block_part s) kind r.view j ≡ each ((contents r).kept kind j) (λ f. when (eqb f.view r.view) (report_by f.body))
  unfolding reports_by
  report_at kind j low high row =
      let head = reads.block (frame_slot kind j) (omega arith) (omega arith) in
      let told : (w : ℕ) → w < 3 → reported (slot_of r (report_slot kind w j)) ≡ slot_vote (slot_in (block_part s) (block_place (report_slot kind w j))) = λ w less.
      ap reported (reads.block (report_slot kind w j) (omega arith) (omega arith)) ∙ sym (vote_back (slot_in (block_part s) (block_place (report_slot kind w j)))) in
      sym (report_slots r kind j low high row ∙ (λ i. cond (present (head i) && eqb (head i).view r.view) (some (record {
        highest = told 0 (omega arith) i;
        previous = told 1 (omega arith) i;
        lock = told 2 (omega arith) i;
      })) none))

  -- No frame is kept from n on.
  none_from : (kind j : ℕ) → r.set.n ≤ j → each ((contents r).kept kind j) (λ f. when (eqb f.view r.view) (report_by f.body)) ≡ none
  unfolding contents
  none_from kind j over = go ((contents r).kept kind j) refl
    where
      go : (o : Option Frame) → (contents r).kept kind j ≡ o → each o (λ f. when (eqb f.view r.view) (report_by f.body)) ≡ none
      go none e = refl
      go (some x) e = absurd (omega (arith, below x e))
        where
          below : (x : Frame) → (contents r).kept kind j ≡ some x → j < r.set.n
          below x e = (reads.sound.kept kind j x e).row

  -- The table that is gathered has the reports kept.
  pub table_is : (kind : ℕ) → 7 ≤ kind → kind ≤ 8 → (t : List ℕ) → Filled (reports_by (block_part s) kind r.view) r.set.n t
      → reports_in_table t ≡ reports_now (contents r) kind
  unfolding contents
  table_is kind low high t f =
      filled_all (reports_now (contents r) kind) r.set.n t reads.allows.most
      (filled_same (reports_by (block_part s) kind r.view) (reports_now (contents r) kind) r.set.n t
      (λ j below. report_at kind j low high (omega (arith, reads.allows.most))) f)
      (λ j over. none_from kind j over)
