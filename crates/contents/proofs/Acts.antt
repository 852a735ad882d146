-- What a step does to the slots is what it does to the contents (document 01, 'One pass'): a vote, a view-change, and the frames of
-- a view entered go into the own row ('Its own broadcasts go into its own row'), and the kept vote-1 or vote-2 for another plan
-- becomes the previous one ('a new vote for the same plan leaves previous alone'). Each is to keep a frame, and to put one vote.
-- Assumes nothing.
use Prim.Native.Nat.{ℕ, zero, suc, ◌≤◌, ◌<◌}
use mathlib.Core.Path.{◌≡◌, refl, sym, ◌∙◌, ap}
use mathlib.Core.Logic.{◌⊎◌, inl, inr}
use mathlib.Core.Bool.{Bool, true, false, cond, not, ◌&&◌}
use mathlib.Core.Option.{Option, none, some}
use native.Mathlib.Omega.{arith}
use lib.Dec.{eqb}
use borrow.Author.Tests.{ne_eqb, eqb-true, eqb-false, le-leb, lt-leb}
use Rattle.rules.proofs.Bools.{which}
use Rattle.rules.specs.Rules.{Vote, Rule, rule1, rule3, claim_vote, lock_vote}
use Rattle.frame.specs.declared.Report.{Report}
use Rattle.frame.specs.declared.Body.TheVariants.{Plan}
use Rattle.frame.specs.declared.Frame.{Frame}
use Rattle.frame.specs.Format.{within}
use Rattle.frame.specs.Refusal.{present}
use Rattle.frame.proofs.Laws.{inside}
use Rattle.record.specs.Slots as slots
use Rattle.record.specs.Slots.{rows, frame_slot, previous_slot, slot_of}
use Rattle.record.specs.inside.Slots.{with_slot, with_view}
use Rattle.record.specs.Kept.{frame_held, kept_in}
use Rattle.record.specs.inside.Kept.{keep_frame}
use Rattle.record.specs.inside.Keeping.{moves, shifted_slots, own_broadcast}
use Rattle.record.proofs.Forms.{body_plan, kept_there, kept_nothing}
use Rattle.protocol.specs.Record.{Record, changed, each, reported, spelt, vote_by, leads, vote_of, tells, change_frame, vote_frame, report_frame}
use Rattle.protocol.specs.Tables.{put}
use Rattle.protocol.specs.Pass.{ask, enter, cast, decide, shift, has_previous, does}
use Rattle.protocol.specs.Pass as protocol
use Rattle.protocol.specs.Calls.{keep}
use Rattle.protocol.proofs.Tables.{put_own}
use Rattle.contents.specs.Contents.{contents, head_of}
use Rattle.contents.specs.Lent.{Clean}
use Rattle.contents.proofs.Kept.{contents_keep, previous_bounds}
use Rattle.contents.proofs.Clean.{kept_at, previous_at, filled_of, clean_keep}
use Rattle.contents.proofs.Parts.{contents_view, clean_view, clean_beside, contents_previous, contents_decide, decided}

-- ---- votes

-- The frame of a vote, of a kind from 1 to 5.
abbrev framed : ℕ → ℕ → Option Vote → Option Frame
framed k j none = none
framed k j (some v) = some (record { kind = suc k; sender = j; view = v.view; body = Plan v.plan })

-- The vote that a kept frame is, where there is one.
abbrev as_vote : Option Frame → Option Vote
as_vote o = each o (λ f. vote_by f.view f.body)

-- The frame of a vote reads as that vote.
vote_framed : (k j : ℕ) (o : Option Vote) → as_vote (framed k j o) ≡ o
vote_framed k j none = refl
vote_framed k j (some v) = refl

-- Its slot is that vote, spelt.
head_framed : (k j : ℕ) (o : Option Vote) → head_of (framed k j o) ≡ spelt o
head_framed k j none = refl
head_framed k j (some v) = refl

-- A slot of these kinds holds a vote.
module _ (s : ℕ → Report) (k j : ℕ) where
  -- The slot.
  abbrev there : Report
  there = s (frame_slot (suc k) j)

  -- What the slot reports, its mark being known.
  reads : {b : Bool} → eqb there.mark 1 ≡ b → framed k j (cond b (some (record { view = there.view; plan = there.plan })) none)
      ≡ framed k j (reported there)
  reads e = ap (λ (b : Bool). framed k j (cond b (some (record { view = there.view; plan = there.plan })) none)) (sym e)

  -- The frame that these slots hold is that of the vote in the slot.
  kept_vote : k ≤ 4 → kept_in s (suc k) j ≡ framed k j (reported there)
  unfolding frame_held
  kept_vote low = go (which (eqb there.mark 1))
    where
      go : (eqb there.mark 1 ≡ true) ⊎ (eqb there.mark 1 ≡ false) → kept_in s (suc k) j ≡ framed k j (reported there)
      go (inl e) =
          let b = body_plan s (suc k) j (omega arith) (omega arith) in
          kept_there s (suc k) j (eqb-true there.mark 1 e)
          ∙ (λ i. some (record { kind = suc k; sender = j; view = there.view; body = b i })) ∙ reads e
      go (inr e) = kept_nothing s (suc k) j (eqb-false there.mark 1 e) ∙ reads e

module _ (r : slots.Record) (k j : ℕ) (low : k ≤ 4) (row : j < rows) where
  -- The kept vote-k (k = 0: the proposal) is what its slot reports.
  pub vote_at : vote_of (contents r) k j ≡ reported (slot_of r (frame_slot (suc k) j))
  vote_at =
      ap as_vote (kept_at r (suc k) j (omega arith) (omega arith) row ∙ kept_vote (slot_of r) k j low)
      ∙ vote_framed k j (reported (slot_of r (frame_slot (suc k) j)))

  -- In a clean record the slot holds just that vote.
  pub slot_vote : Clean r → slot_of r (frame_slot (suc k) j) ≡ spelt (reported (slot_of r (frame_slot (suc k) j)))
  slot_vote h =
      (filled_of r h).head (suc k) j (omega arith) (omega arith) row ∙ ap head_of (kept_vote (slot_of r) k j low)
      ∙ head_framed k j (reported (slot_of r (frame_slot (suc k) j)))

  -- So a report of that vote is its slot.
  pub vote_spelt : Clean r → spelt (vote_of (contents r) k j) ≡ slot_of r (frame_slot (suc k) j)
  vote_spelt h = ap spelt vote_at ∙ sym (slot_vote h)

-- And a report of a previous vote is the slot of that.
pub previous_spelt : (r : slots.Record) (k : ℕ) → has_previous k ≡ true → Clean r → spelt ((contents r).previous k) ≡ slot_of r (previous_slot (suc k))
previous_spelt r k has h = ap spelt (previous_at r k has) ∙ sym ((filled_of r h).previous k has)

-- ---- the previous vote

-- Vote-k has kind k + 1.
of_kind : (k : ℕ) → within 2 3 (suc k) ≡ has_previous k
unfolding within
of_kind zero = refl
of_kind (suc zero) = refl
of_kind (suc (suc zero)) = refl
of_kind (suc (suc (suc k))) =
    let j : ℕ = suc (suc (suc k)) in
    rw (le-leb 2 (suc j) (omega arith), lt-leb (suc j) 3 (omega arith), ne_eqb j 1 (λ (e : j ≡ 1). omega arith), ne_eqb j 2 (λ (e : j ≡ 2). omega arith))

module _ (r : slots.Record) (k p : ℕ) where
  -- The slot of the own kept vote-k.
  abbrev own : Report
  own = slot_of r (frame_slot (suc k) r.set.id)

  -- The record with the own kept vote-k moved to the previous one, if it is to move.
  abbrev moved : Bool → slots.Record
  moved b = cond b (with_slot r (previous_slot (suc k)) own) r

  -- The contents with other previous votes.
  abbrev previously : (ℕ → Option Vote) → Record
  previously q = changed (contents r) (contents r).view (contents r).kept q (contents r).decision

  -- The previous votes, where they shift (b) and the own vote so far is o.
  abbrev shifted_by : Bool → Option Vote → ℕ → Option Vote
  shifted_by b o = cond b (put k (shift p o ((contents r).previous k)) (contents r).previous) (contents r).previous

  -- What the own slot reports, its mark being known.
  vote : {m : Bool} → eqb own.mark 1 ≡ m → cond m (some (record { view = own.view; plan = own.plan })) none ≡ reported own
  vote e = ap (λ (b : Bool). cond b (some (record { view = own.view; plan = own.plan })) none) (sym e)

  -- Moved slots are shifted contents, case by case: has this vote a previous one, is a vote kept, is it for p.
  contents_moved : (h m e : Bool) → has_previous k ≡ h → eqb own.mark 1 ≡ m → eqb own.plan p ≡ e
      → contents (moved (h && (m && not e))) ≡ previously (shifted_by h (cond m (some (record { view = own.view; plan = own.plan })) none))
  contents_moved false m e has there same = refl
  contents_moved true false e has there same = ap previously (sym (put_own k (contents r).previous))
  contents_moved true true true has there same =
      ap previously (sym (put_own k (contents r).previous))
      ∙ ap (λ (b : Bool). previously (put k (cond b ((contents r).previous k) (some (record { view = own.view; plan = own.plan })))
      (contents r).previous)) (sym same)
  contents_moved true true false has there same =
      contents_previous r k own has ∙ ap (λ (o : Option Vote). previously (put k o (contents r).previous)) (sym (vote there))
      ∙ ap (λ (b : Bool). previously (put k (cond b ((contents r).previous k) (some (record { view = own.view; plan = own.plan })))
      (contents r).previous)) (sym same)

  -- 'a new vote for the same plan leaves previous alone'.
  pub contents_shifted : k ≤ 4 → r.set.id < rows → contents (shifted_slots r (suc k) p) ≡ previously (protocol.shifted (contents r) k p)
  unfolding shifted_slots moves contents
  contents_shifted low row =
      ap (λ (b : Bool). contents (moved (b && (present own && not (eqb own.plan p))))) (of_kind k)
      ∙ contents_moved (has_previous k) (eqb own.mark 1) (eqb own.plan p) refl refl refl
      ∙ ap (λ (o : Option Vote). previously (shifted_by (has_previous k) o)) (sym (vote_at r k r.set.id low row))

  -- The record stays clean: what moves is a vote.
  pub clean_shifted : Clean r → k ≤ 4 → r.set.id < rows → Clean (shifted_slots r (suc k) p)
  unfolding shifted_slots moves
  clean_shifted h low row = rw (of_kind k) (go (has_previous k) (present own && not (eqb own.plan p)) refl)
    where
      go : (b c : Bool) → has_previous k ≡ b → Clean (moved (b && c))
      go true true has =
          let (l, m) = previous_bounds k has in
          clean_beside r (previous_slot (suc k)) own (omega arith) h (omega arith) (slot_vote r k r.set.id low row h)
      go true false has = h
      go false c has = h

-- ---- the acts

-- To vote, and to propose (k = 0).
module _ (r : slots.Record) (k p : ℕ) (low : k ≤ 4) (row : r.set.id < rows) where
  -- The record with the previous vote shifted, before the new vote is kept.
  abbrev after : slots.Record
  after = shifted_slots r (suc k) p

  -- A vote's kind is one that has a plan.
  fits_vote : within 1 5 (suc k) ≡ true
  fits_vote = inside 1 5 (suc k) (omega arith) (omega arith)

  -- To vote in the slots is to vote by contents.
  pub contents_cast : contents (own_broadcast r (vote_frame (contents r) k p)) ≡ does (contents r) (cast k p)
  unfolding own_broadcast contents does keep
  contents_cast =
      contents_keep after (vote_frame (contents r) k p) refl row fits_vote
      ∙ ap (keep (vote_frame (contents r) k p)) (contents_shifted r k p low row)

  -- And leaves the record clean.
  pub clean_cast : Clean r → Clean (own_broadcast r (vote_frame (contents r) k p))
  unfolding own_broadcast contents
  clean_cast h = clean_keep after (vote_frame (contents r) k p) refl (clean_shifted r k p h low row) row fits_vote

-- To ask for a view.
module _ (r : slots.Record) (w : ℕ) (row : r.set.id < rows) where
  -- To ask in the slots is to ask by contents.
  pub contents_ask : contents (keep_frame r r.set.id (change_frame (contents r) w)) ≡ does (contents r) (ask w)
  unfolding contents does keep
  contents_ask = contents_keep r (change_frame (contents r) w) refl row refl

  -- And leaves the record clean.
  pub clean_ask : Clean r → Clean (keep_frame r r.set.id (change_frame (contents r) w))
  unfolding contents
  clean_ask h = clean_keep r (change_frame (contents r) w) refl h row refl

-- The reports of the own votes are the slots that hold them.
pub tells_at : (r : slots.Record) (rule : Rule) → Clean r → r.set.id < rows
    → tells (contents r) rule
    ≡ record {
      highest = slot_of r (frame_slot (suc (claim_vote rule)) r.set.id);
      previous = slot_of r (previous_slot (suc (claim_vote rule)));
      lock = slot_of r (frame_slot (suc (lock_vote rule)) r.set.id);
    }
unfolding contents
tells_at r rule h row = λ i. record {
  highest = vote_spelt r (claim_vote rule) r.set.id (claim_low rule) row h i;
  previous = previous_spelt r (claim_vote rule) (claim_previous rule) h i;
  lock = vote_spelt r (lock_vote rule) r.set.id (lock_low rule) row h i;
}
  where
    claim_low : (rule : Rule) → claim_vote rule ≤ 4
    claim_low rule1 = omega arith
    claim_low rule3 = omega arith

    lock_low : (rule : Rule) → lock_vote rule ≤ 4
    lock_low rule1 = omega arith
    lock_low rule3 = omega arith

    claim_previous : (rule : Rule) → has_previous (claim_vote rule) ≡ true
    claim_previous rule1 = refl
    claim_previous rule3 = refl

-- To enter a view: its proof is kept, and its suggest where the vault leads it.
module _ (r : slots.Record) (w : ℕ) where
  -- The record with the view and the proof put in.
  abbrev pub proved : slots.Record
  proved = keep_frame (with_view r w) r.set.id (report_frame (contents r) rule3 w)

  -- The record after entering, for one that leads the view or not.
  abbrev pub entered_by : Bool → slots.Record
  entered_by true = keep_frame proved r.set.id (report_frame (contents r) rule1 w)
  entered_by false = proved

  -- The proof is kept, by contents.
  contents_proved : r.set.id < rows → contents proved ≡ keep (report_frame (contents r) rule3 w) (contents (with_view r w))
  unfolding contents within
  contents_proved row = contents_keep (with_view r w) (report_frame (contents r) rule3 w) refl row refl

  -- To enter a view in the slots is to enter it by contents.
  pub contents_enter : r.set.id < rows → contents (entered_by (leads (contents r) w)) ≡ does (contents r) (enter w)
  unfolding contents does keep within
  contents_enter row = go (leads (contents r) w)
    where
      go : (b : Bool) → contents (entered_by b) ≡ changed (contents r) w (protocol.entered (contents r) w b) (contents r).previous (contents r).decision
      go true =
          contents_keep proved (report_frame (contents r) rule1 w) refl row refl
          ∙ ap (keep (report_frame (contents r) rule1 w)) (contents_proved row ∙ ap (keep (report_frame (contents r) rule3 w)) (contents_view r w))
      go false = contents_proved row ∙ ap (keep (report_frame (contents r) rule3 w)) (contents_view r w)

  -- And leaves the record clean.
  pub clean_enter : Clean r → r.set.id < rows → (b : Bool) → Clean (entered_by b)
  unfolding contents within
  clean_enter h row = go
    where
      first : Clean proved
      first = clean_keep (with_view r w) (report_frame (contents r) rule3 w) refl (clean_view r w h) row refl

      go : (b : Bool) → Clean (entered_by b)
      go true = clean_keep proved (report_frame (contents r) rule1 w) refl first row refl
      go false = first

-- To decide.
pub contents_decided : (r : slots.Record) (p : ℕ) → contents (decided r r.view p) ≡ does (contents r) (decide p)
unfolding contents does
contents_decided r p = contents_decide r r.view p
