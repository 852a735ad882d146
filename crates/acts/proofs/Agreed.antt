-- Steps E to H by slots (document 01, 'One pass'): the plan that protocol's step acts on is the plan agreed on by the votes in the
-- slots. Sets of voters are the same below n, so quorums are; and by both a plan is agreed on just where a quorum is for it.
-- Assumes nothing.
use Prim.Native.Nat.{ℕ, suc, ◌+◌, ◌*◌, ◌-◌, ◌≤◌, ◌<◌}
use mathlib.Core.Path.{◌≡◌, refl, sym, ◌∙◌, ap}
use mathlib.Core.Logic.{◌≢◌}
use mathlib.Core.Bool.{Bool, true, false, not}
use mathlib.Core.List.{List}
use mathlib.Core.Option.{Option, none, some}
use native.Mathlib.Omega.{arith}
use lib.Dec.{leb, eqb}
use borrow.Author.Tests.{eq-eqb, ne_eqb}
use Rattle.rules.specs.Sets.{equals, total}
use Rattle.rules.specs.Quorums.{is_quorum}
use Rattle.rules.proofs.Quorums.{weigh_same}
use Rattle.rules.specs.Options.{is_none, holds}
use Rattle.frame.specs.declared.Report.{Report}
use Rattle.record.specs.Slots as slots
use Rattle.record.specs.Slots.{frame_slot, decision_slot, slot_of}
use Rattle.record.specs.Layout.{slot_in}
use Rattle.rules.proofs.Reports.{none≢some}
use Rattle.protocol.specs.Record.{when, each, reported, plan_now, sent_now}
use Rattle.protocol.specs.Pass.{cast, decide, has_quorum, agreed, act_vote, act_h}
use Rattle.protocol.proofs.Agreed.{agreed_is}
use Rattle.protocol.proofs.Tables.{each_none, when_false}
use Rattle.contents.specs.Contents.{contents}
use Rattle.tally.specs.inside.Parts.{block_part, block_place}
use Rattle.tally.specs.inside.Votes.{voted, vote_in_block, row_votes, quorum_for, agreed_in}
use Rattle.tally.proofs.Votes.{agreed_where, agreed_has}
use Rattle.acts.specs.inside.Lent.{Reads}
use Rattle.acts.proofs.Kept.{plan_at}

module _ (s : List ℕ) (r : slots.Record) (reads : Reads s r) where
  -- How many vaults there are, by the record's settings.
  abbrev n : ℕ
  n = r.set.n

  -- How many of them may break the rules.
  abbrev f : ℕ
  f = r.set.f

  -- ---- the votes-k of the current view, in the block from a place on

  module _ (k from : ℕ) (low : k ≤ 4) (at : from ≡ block_place (frame_slot (k + 1) 0)) where
    -- The plans of these votes, by sender.
    abbrev ballots : ℕ → Option ℕ
    ballots = row_votes (block_part s) r.view from

    -- Below n they are the plans that the record's contents say.
    ballot_at : (j : ℕ) → j < n → plan_now (contents r) k j ≡ ballots j
    ballot_at j below =
        let place : block_place (frame_slot (k + 1) j) ≡ from + 13 * j = omega arith in
        plan_at s r reads k j low (omega (arith, reads.allows.most)) ∙ ap (λ (q : ℕ). voted r.view (slot_in (block_part s) q)) place

    -- So a plan has a quorum of them where it has one by contents.
    quorum_same : (q : ℕ) → has_quorum (contents r) k q ≡ quorum_for ballots n f q
    unfolding contents is_quorum
    quorum_same q =
        ap (leb (total (equals n f) - f))
        (weigh_same (λ i. 1) (λ j. holds (eqb q) (plan_now (contents r) k j)) (λ j. holds (eqb q) (ballots j)) n
        (λ j below. ap (λ (o : Option ℕ). holds (eqb q) o) (ballot_at j below)))

    -- And the plan agreed on by the votes in the slots is the plan that steps E to H act on.
    pub agreed_same : agreed_in ballots n f ≡ agreed (contents r) k
    unfolding contents
    agreed_same = go (agreed (contents r) k) refl
      where
        nothing : agreed (contents r) k ≡ none → (o : Option ℕ) → agreed_in ballots n f ≡ o → o ≡ none
        nothing e none is = refl
        nothing e (some p) is =
            let on : agreed (contents r) k ≡ some p = (agreed_is (contents r) reads.allows.third k p).1 (quorum_same p ∙ agreed_has ballots n f p is) in
            absurd (none≢some (sym e ∙ on))

        go : (o : Option ℕ) → agreed (contents r) k ≡ o → agreed_in ballots n f ≡ o
        go none e = nothing e (agreed_in ballots n f) refl
        go (some q) e =
            agreed_where ballots n f reads.allows.third q (sym (quorum_same q) ∙ (agreed_is (contents r) reads.allows.third k q).0 e)

  -- ---- what was sent

  -- The own vote-k (0: proposal) in its slot is of this view just where one was sent in it.
  pub sent_same : (k : ℕ) → k ≤ 4 → not (is_none (vote_in_block (block_part s) r.view k r.set.id)) ≡ sent_now (contents r) k
  unfolding contents
  sent_same k low = ap (λ (o : Option ℕ). not (is_none o)) (sym (plan_at s r reads k r.set.id low (omega (arith, reads.allows.most, reads.allows.own))))

  module _ (k : ℕ) (low : k ≤ 3) (told : Bool) (sent : told ≡ not (is_none (vote_in_block (block_part s) r.view (k + 1) r.set.id))) where
    -- The same of the vote that the step would send.
    sent_next : told ≡ sent_now (contents r) (suc k)
    sent_next = let next : k + 1 ≡ suc k = omega arith in sent ∙ sent_same (k + 1) (omega arith) ∙ ap (sent_now (contents r)) next

    -- 'once a view'.
    pub vote_sent : told ≡ true → none ≡ act_vote (contents r) k
    vote_sent was =
        sym (each_none (agreed (contents r) k) (λ p. when (not (sent_now (contents r) (suc k))) (some (cast (suc k) p)))
        (λ p e. when_false (not (sent_now (contents r) (suc k))) (some (cast (suc k) p)) (ap not (sym sent_next ∙ was))))

    -- 'A quorum of vote-1 (vote-2, vote-3) for this view and one plan: send vote-2 (vote-3, vote-4)'.
    pub vote_acts : told ≡ false → (from : ℕ) → from ≡ block_place (frame_slot (k + 1) 0) → (o : Option ℕ)
        → o ≡ agreed_in (row_votes (block_part s) r.view from) n f
        → each o (λ p. some (cast (k + 1) p)) ≡ act_vote (contents r) k
    vote_acts unsent from at o e =
        let same : o ≡ agreed (contents r) k = e ∙ agreed_same k from (omega arith) at in
        let off : sent_now (contents r) (suc k) ≡ false = sym sent_next ∙ unsent in
        let next : k + 1 ≡ suc k = omega arith in
        rw (off, next, same)

  -- ---- the decision

  -- The slot of the decision, in the block.
  abbrev decision : Report
  decision = slot_in (block_part s) (block_place decision_slot)

  -- It is the record's.
  decision_at : slot_of r decision_slot ≡ decision
  decision_at = reads.block decision_slot (omega arith) (omega arith)

  -- 'if nothing was decided'.
  pub decided_already : decision.mark ≡ 1 → none ≡ act_h (contents r)
  unfolding contents
  decided_already here =
      let mark : (slot_of r decision_slot).mark ≡ 1 = ap (λ (x : Report). x.mark) decision_at ∙ here in
      sym (each_none (agreed (contents r) 4) (λ p. when (is_none (reported (slot_of r decision_slot))) (some (decide p)))
      (λ p is. rw (eq-eqb (slot_of r decision_slot).mark 1 mark)))

  -- Without a mark there nothing was decided.
  undecided : decision.mark ≢ 1 → is_none (contents r).decision ≡ true
  unfolding contents
  undecided off =
      let mark : (slot_of r decision_slot).mark ≢ 1 = λ here. off (sym (ap (λ (x : Report). x.mark) decision_at) ∙ here) in
      rw (ne_eqb (slot_of r decision_slot).mark 1 mark)

  -- 'A quorum of vote-4 for this view and one plan: decide'.
  pub decides : decision.mark ≢ 1 → (from : ℕ) → from ≡ block_place (frame_slot 5 0) → (o : Option ℕ)
      → o ≡ agreed_in (row_votes (block_part s) r.view from) n f → each o (λ p. some (decide p)) ≡ act_h (contents r)
  decides off from place o is =
      let same : o ≡ agreed (contents r) 4 = is ∙ agreed_same 4 from (omega arith) place in
      rw (undecided off, same)
