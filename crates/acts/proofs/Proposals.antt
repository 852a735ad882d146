-- Steps C and D by slots (document 01, 'One pass'): who leads, what was sent and what is proposed stand in slots. What is safe is told
-- by the search.
-- Assumes nothing.
use Prim.Native.Nat.{ℕ, ◌<◌}
use mathlib.Core.Path.{◌≡◌, refl, sym, ◌∙◌, ap}
use mathlib.Core.Logic.{◌≢◌}
use mathlib.Core.Bool.{Bool, true, false, cond, not, ◌&&◌}
use mathlib.Core.List.{List}
use mathlib.Core.Option.{Option, none, some}
use native.Mathlib.Omega.{arith}
use lib.Dec.{eqb}
use borrow.Author.Tests.{eq-eqb, ne_eqb}
use Rattle.rules.specs.Options.{is_none}
use Rattle.frame.specs.Refusal.{leader_of}
use Rattle.record.specs.Slots as slots
use Rattle.record.specs.Slots.{frame_slot}
use Rattle.record.specs.Layout.{slot_in}
use Rattle.protocol.specs.Record.{Record, when, each, leader, leads, plan_now, sent_now}
use Rattle.protocol.specs.Pass.{cast, may_propose, approves, act_c, act_d}
use Rattle.protocol.proofs.Tables.{each_none, when_false}
use Rattle.contents.specs.Contents.{contents}
use Rattle.tally.specs.inside.Parts.{block_part, block_place}
use Rattle.tally.specs.inside.Votes.{voted, vote_in_block}
use Rattle.tally.proofs.Votes.{voted_plan, told_none}
use Rattle.acts.specs.inside.Proposals.{proposal_of, approved_by, safe_plan}
use Rattle.acts.specs.inside.Lent.{Reads}
use Rattle.acts.proofs.Kept.{plan_at}
use Rattle.acts.proofs.Agreed.{sent_same}
use Rattle.acts.proofs.Searched.{plan_three}

module _ (s : List ℕ) (r : slots.Record) (reads : Reads s r) where
  -- ---- C

  -- 'A leader that has not proposed in this view'.
  module _ (l : ℕ) (is : l ≡ leader_of r.view r.set.n) where
    -- The vault leads this view just where the leader's number is its own.
    leads_same : leads (contents r) (contents r).view ≡ eqb l r.set.id
    unfolding contents
    leads_same = ap (λ (x : ℕ). eqb x r.set.id) (sym is)

    -- It does not lead: it may not propose.
    pub leads_not : l ≢ r.set.id → false ≡ may_propose (contents r)
    leads_not off =
        let other : leads (contents r) (contents r).view ≡ false = leads_same ∙ ne_eqb l r.set.id off in
        rw other

    -- It leads: it may propose where no proposal of this view was sent.
    pub leads_own : l ≡ r.set.id → (told : Bool) → told ≡ not (is_none (vote_in_block (block_part s) r.view 0 r.set.id))
        → not told ≡ may_propose (contents r)
    leads_own own told sent =
        let led : leads (contents r) (contents r).view ≡ true = leads_same ∙ eq-eqb l r.set.id own in
        let same : told ≡ sent_now (contents r) 0 = sent ∙ sent_same s r reads 0 (omega arith) in
        rw (led, same)

  -- ---- D

  -- 'If vote-1 was not sent in this view'.
  module _ (told : Bool) (sent : told ≡ not (is_none (vote_in_block (block_part s) r.view 1 r.set.id))) where
    -- What the slot tells of the own vote-1 is what was sent in this view.
    voted_is : told ≡ sent_now (contents r) 1
    voted_is = sent ∙ sent_same s r reads 1 (omega arith)

    -- Vote-1 was sent: D does nothing.
    pub voted_once : told ≡ true → none ≡ act_d (contents r)
    voted_once was =
        let on : sent_now (contents r) 1 ≡ true = sym voted_is ∙ was in
        sym (each_none (plan_now (contents r) 0 (leader (contents r) (contents r).view)) (λ p. when (approves (contents r) p) (some (cast 1 p)))
        (λ p e. when_false (approves (contents r) p) (some (cast 1 p)) (rw on)))

    -- 'and the leader's proposal for it is kept': the slot at a place of the block.
    module _ (l at : ℕ) (is : l ≡ leader_of r.view r.set.n) (low : l < r.set.n) (place : at ≡ block_place (frame_slot 1 l)) where
      -- The plan in that slot, where it is a proposal of this view.
      abbrev proposed : Option ℕ
      proposed = voted r.view (slot_in (block_part s) at)

      -- It is the leader's proposal by contents.
      proposed_at : plan_now (contents r) 0 (leader (contents r) (contents r).view) ≡ proposed
      unfolding contents
      proposed_at =
          ap (λ (j : ℕ). plan_now (contents r) 0 j) (sym is) ∙ plan_at s r reads 0 l (omega arith) (omega (arith, reads.allows.most))
          ∙ ap (λ (q : ℕ). voted r.view (slot_in (block_part s) q)) (sym place)

      -- So D acts on what the slot holds.
      act_on : (o : Option ℕ) → proposed ≡ o → each o (λ p. when (approves (contents r) p) (some (cast 1 p))) ≡ act_d (contents r)
      act_on o e = ap (λ (x : Option ℕ). each x (λ p. when (approves (contents r) p) (some (cast 1 p)))) (sym (proposed_at ∙ e))

      module _ (there : Bool) (kept : there ≡ not (is_none proposed)) where
        -- The slot holds no proposal of this view: D does nothing.
        pub unproposed : there ≡ false → none ≡ act_d (contents r)
        unproposed off = act_on none (told_none proposed (sym kept ∙ off))

        -- 'and safe by Rule 3: vote-1'.
        pub votes_one : told ≡ false → there ≡ true → (p : ℕ) (o : Option ℕ) → p ≡ (slot_in (block_part s) at).plan → o ≡ safe_plan (contents r) 8 p
            → each o (λ q. some (cast 1 q)) ≡ act_d (contents r)
        votes_one unsent on p o plan e =
            let off : false ≡ sent_now (contents r) 1 = sym unsent ∙ voted_is in
            let is_p : proposed ≡ some p = voted_plan r.view (slot_in (block_part s) at) (sym kept ∙ on) ∙ ap some (sym plan) in
            ap (λ (x : Option ℕ). each x (λ q. some (cast 1 q))) (e ∙ plan_three (contents r) p) ∙ by (approved_by (contents r) p)
            ∙ (λ i. when (not (off i) && approved_by (contents r) p) (some (cast 1 p))) ∙ act_on (some p) is_p
          where
            by : (b : Bool) → each (cond b (some p) none) (λ q. some (cast 1 q)) ≡ when b (some (cast 1 p))
            by true = refl
            by false = refl

-- C. 'A leader that has not proposed in this view proposes .., else waits.'
module _ (c : Record) (may : Bool) (is : may ≡ may_propose c) where
  -- It may: C proposes the plan chosen, if there is one.
  pub proposes : may ≡ true → (o : Option ℕ) → o ≡ proposal_of c → each o (λ p. some (cast 0 p)) ≡ act_c c
  proposes on o e =
      let turn : true ≡ may_propose c = sym on ∙ is in
      λ i. when (turn i) (each (e i) (λ p. some (cast 0 p)))
