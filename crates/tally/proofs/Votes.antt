-- The plan that leads in the end is the only one that a quorum can be for (document 01: 'A quorum is n - f or more vaults', 'f is
-- at least 1 with 3f below n'). Each vote for the plan that leads adds to its lead, each other vote takes from it; so twice the
-- votes for the plan are at most all and its lead, and twice the votes for another plan, with the lead, are at most all.
-- Assumes nothing.
use Prim.Native.Nat.{ℕ, zero, suc, ◌+◌, ◌*◌, ◌-◌, ◌≤◌, ◌<◌}
use mathlib.Core.Path.{◌≡◌, refl, sym, ◌∙◌, ap}
use mathlib.Core.Logic.{◌≢◌}
use mathlib.Core.Bool.{Bool, true, false, cond, not, ◌&&◌, true≢false, false≢true}
use mathlib.Core.Option.{Option, none, some}
use native.Mathlib.Omega.{arith}
use native.Mathlib.Decide.{ℕ_discrete}
use native.Mathlib.Numerals.{add-one}
use lib.Dec.{leb, eqb}
use borrow.Author.Tests.{eq-eqb, ne_eqb}
use Rattle.rules.specs.Sets.{equals, weigh}
use Rattle.rules.proofs.Bools.{not_true}
use Rattle.rules.proofs.Quorums.{quorum_weighs, total_equals, quorum_count}
use Rattle.rules.specs.Options.{is_none, holds}
use Rattle.frame.specs.declared.Report.{Report}
use Rattle.frame.specs.Refusal.{present}
use Rattle.tally.specs.declared.Lead.{Lead}
use Rattle.tally.specs.inside.Votes.{voted, lead_with, lead_after, leading, Leads, quorum_for, agreed_in}

-- ---- a slot

module _ (v : ℕ) (slot : Report) where
  -- No mark: no vote.
  pub voted_none : slot.mark ≢ 1 → voted v slot ≡ none
  unfolding voted
  voted_none off = rw (ne_eqb slot.mark 1 off)

  module _ (here : slot.mark ≡ 1) where
    -- A mark: there is a vote of view v just where the slot's view is v.
    pub voted_there : eqb slot.view v ≡ not (is_none (voted v slot))
    unfolding voted
    voted_there = rw (eq-eqb slot.mark 1 here) (go (eqb slot.view v))
      where
        go : (b : Bool) → b ≡ not (is_none (cond b (some slot.plan) none))
        go true = refl
        go false = refl

    -- A mark and another view: no vote of view v.
    pub voted_other : slot.view ≢ v → voted v slot ≡ none
    unfolding voted
    voted_other off = rw (eq-eqb slot.mark 1 here, ne_eqb slot.view v off)

    -- A mark and view v: a vote for the slot's plan.
    pub voted_some : slot.view ≡ v → voted v slot ≡ some slot.plan
    unfolding voted
    voted_some same = rw (eq-eqb slot.mark 1 here, eq-eqb slot.view v same)

  -- Where it is told that there is a vote of the view, its plan is the slot's.
  pub voted_plan : not (is_none (voted v slot)) ≡ true → voted v slot ≡ some slot.plan
  unfolding voted
  voted_plan h = go (present slot && eqb slot.view v) h
    where
      go : (b : Bool) → not (is_none (cond b (some slot.plan) none)) ≡ true → cond b (some slot.plan) none ≡ some slot.plan
      go true e = refl
      go false e = absurd (false≢true e)

-- An option that is told to be none.
pub told_none : (o : Option ℕ) → not (is_none o) ≡ false → o ≡ none
told_none none h = refl
told_none (some x) h = absurd (true≢false h)

-- ---- the lead

-- How many of the first k votes are for p.
abbrev pub tally : (ℕ → Option ℕ) → ℕ → ℕ → ℕ
tally vote p k = weigh (λ i. 1) (λ j. holds (eqb p) (vote j)) k

-- What is known of the plan that leads, and of every other plan, after k votes.
pub record Ahead (vote : ℕ → Option ℕ) (k : ℕ) (b : Lead) : Type 0 where
  pub own : 2 * tally vote b.plan k ≤ b.votes + b.margin
  pub other : (q : ℕ) → q ≢ b.plan → 2 * tally vote q k + b.margin ≤ b.votes
  pub most : b.votes ≤ k

module _ (vote : ℕ → Option ℕ) (k : ℕ) where
  -- One vote more, as the definition has it.
  tally_more : (q : ℕ) → tally vote q (suc k) ≡ tally vote q k + cond (holds (eqb q) (vote k)) 1 0
  unfolding weigh
  tally_more q = refl

  -- Counting one vote keeps what is known, in each of the three cases of `lead_with`.
  ahead_more : (b : Lead) (o : Option ℕ) → vote k ≡ o → Ahead vote k b → Ahead vote (suc k) (lead_after b o)
  unfolding lead_with
  ahead_more b none is a = record {
    own = let m : tally vote b.plan (suc k) ≡ tally vote b.plan k + 0 = tally_more b.plan ∙ rw is in omega (arith, a.own);
    other = λ q off. let m : tally vote q (suc k) ≡ tally vote q k + 0 = tally_more q ∙ rw is in omega (arith, a.other q off);
    most = omega (arith, a.most);
  }
  ahead_more b (some x) is a = go (ℕ_discrete x b.plan) (ℕ_discrete b.margin 0)
    where
      same : (q : ℕ) → q ≡ x → tally vote q (suc k) ≡ tally vote q k + 1
      same q e = tally_more q ∙ rw (is, eq-eqb q x e)

      differ : (q : ℕ) → q ≢ x → tally vote q (suc k) ≡ tally vote q k
      differ q e = let m : tally vote q (suc k) ≡ tally vote q k + 0 = tally_more q ∙ rw (is, ne_eqb q x e) in omega arith

      most : (q : ℕ) → Dec (q ≡ x) → tally vote q (suc k) ≤ tally vote q k + 1
      most q (yes e) = omega (arith, same q e)
      most q (no e) = omega (arith, differ q e)

      go : Dec (x ≡ b.plan) → Dec (b.margin ≡ 0)
          → Ahead vote (suc k) (cond (eqb x b.plan) (record { plan = x; margin = b.margin + 1; votes = b.votes + 1 })
          (cond (eqb b.margin 0) (record { plan = x; margin = 1; votes = b.votes + 1 })
          (record { plan = b.plan; margin = b.margin - 1; votes = b.votes + 1 })))
      go (yes e) d = rw (eq-eqb x b.plan e) (record {
        own = let m : 2 * tally vote x k ≤ b.votes + b.margin = rw e a.own in omega (arith, same x refl);
        other = λ q off. omega (arith, differ q off, a.other q (λ f. off (f ∙ sym e)));
        most = omega (arith, a.most);
      })
      go (no e) (yes z) = rw (ne_eqb x b.plan e, eq-eqb b.margin 0 z) (record {
        own = omega (arith, same x refl, a.other x e);
        other = λ q off. old q off (ℕ_discrete q b.plan);
        most = omega (arith, a.most);
      })
        where
          old : (q : ℕ) → q ≢ x → Dec (q ≡ b.plan) → 2 * tally vote q (suc k) + 1 ≤ b.votes + 1
          old q off (yes f) = let m : 2 * tally vote q k ≤ b.votes + b.margin = rw f a.own in omega (arith, differ q off)
          old q off (no f) = omega (arith, differ q off, a.other q f)
      go (no e) (no z) = rw (ne_eqb x b.plan e, ne_eqb b.margin 0 z) (record {
        own = omega (arith, differ b.plan (λ f. e (sym f)), a.own);
        other = λ q off. omega (arith, most q (ℕ_discrete q x), a.other q off);
        most = omega (arith, a.most);
      })

-- So it is known of the plan that leads among the first k votes.
pub ahead_leads : (vote : ℕ → Option ℕ) (k : ℕ) → Ahead vote k (leading vote k)
unfolding leading weigh
ahead_leads vote zero = record { own = omega arith; other = λ q off. omega arith; most = omega arith }
ahead_leads vote (suc k) = ahead_more vote k (leading vote k) (vote k) refl (ahead_leads vote k)

-- ---- the loop that meets the votes

-- One slot has at most one vote.
votes_more : (b : Lead) (o : Option ℕ) → (lead_after b o).votes ≤ b.votes + 1
unfolding lead_with
votes_more b none = omega arith
votes_more b (some x) = go (eqb x b.plan) (eqb b.margin 0)
  where
    go : (same even : Bool) → (cond {A = Lead} same (record { plan = x; margin = b.margin + 1; votes = b.votes + 1 })
        (cond even (record { plan = x; margin = 1; votes = b.votes + 1 })
        (record { plan = b.plan; margin = b.margin - 1; votes = b.votes + 1 }))).votes ≤ b.votes + 1
    go true even = omega arith
    go false true = omega arith
    go false false = omega arith

module _ (vote : ℕ → Option ℕ) where
  -- Before the first vote nothing leads.
  pub lead_none : record { plan = 0; margin = 0; votes = 0 } ≡ leading vote 0
  unfolding leading
  lead_none = refl

  -- One turn of the loop: one more slot is met.
  pub lead_more : (k : ℕ) (b r : Lead) → b ≡ leading vote k → r ≡ lead_after b (vote k) → r ≡ leading vote (k + 1)
  unfolding leading
  lead_more k b r was is = rw add-one (is ∙ ap (λ (x : Lead). lead_after x (vote k)) was)

  -- No lead is larger than the votes, and they are as many as were met at most.
  pub lead_low : (k : ℕ) (b : Lead) → b ≡ leading vote k → (b.margin ≤ b.votes) × (b.votes ≤ k)
  lead_low k b is =
      let other : suc (leading vote k).plan ≢ (leading vote k).plan = λ (e : suc (leading vote k).plan ≡ (leading vote k).plan). omega arith in
      rw is (omega (arith, (ahead_leads vote k).other (suc (leading vote k).plan) other), (ahead_leads vote k).most)

  -- d slots more have at most d votes more.
  votes_slack : (k d : ℕ) → (leading vote (k + d)).votes ≤ (leading vote k).votes + d
  unfolding leading
  votes_slack k zero = let same : k + 0 ≡ k = omega arith in rw same (omega arith)
  votes_slack k (suc d) =
      let next : k + suc d ≡ suc (k + d) = omega arith in
      rw next (omega (arith, votes_more (leading vote (k + d)) (vote (k + d)), votes_slack k d))

  module _ (k n f : ℕ) (b : Lead) (is : b ≡ leading vote k) where
    -- More than f of the first k are missing.
    pub lead_few : k < n → b.votes + f < k → Leads vote n f b
    lead_few less few = record {
      few = λ _.
          let whole : k + (n - k) ≡ n = omega arith in
          let slack : (leading vote n).votes ≤ (leading vote k).votes + (n - k) = rw whole at (votes_slack k (n - k)) in
          let same : b.votes ≡ (leading vote k).votes = ap (λ (x : Lead). x.votes) is in
          omega arith;
      all = λ many. absurd (omega arith);
    }

-- ---- the plan that a quorum is for

module _ (vote : ℕ → Option ℕ) (n f : ℕ) where
  -- A quorum for p is n - f votes for p.
  pub quorum_is : (p : ℕ) → quorum_for vote n f p ≡ true → n ≤ tally vote p n + f
  quorum_is p h = omega (arith, total_equals n f, (quorum_weighs (equals n f) (λ j. holds (eqb p) (vote j))).0 h)

  -- Where no quorum is for the plan that leads, no plan is agreed on.
  agreed_none : quorum_for vote n f (leading vote n).plan ≡ false → none ≡ agreed_in vote n f
  unfolding agreed_in
  agreed_none off = rw off

  module _ (b : Lead) (leads : Leads vote n f b) (less : f < n) where
    -- Where fewer than a quorum vote, no plan has one.
    pub agreed_few : b.votes < n - f → none ≡ agreed_in vote n f
    agreed_few few =
        let votes : (leading vote n).votes + f < n = leads.few (omega arith) in
        let low = lead_low vote n (leading vote n) refl in
        agreed_none
        (not_true (quorum_for vote n f (leading vote n).plan) (λ h. omega (arith, quorum_is (leading vote n).plan h, (ahead_leads vote n).own, low.0)))

    module _ (many : n - f ≤ b.votes) (count : ℕ) (counted : count ≡ tally vote b.plan n) where
      -- A quorum voted, so none was left out, and b is the lead after n votes.
      lead_is : b ≡ leading vote n
      lead_is = leads.all (omega arith)

      -- As many as a quorum were counted for its plan just where a quorum is for it.
      counts : leb (n - f) count ≡ quorum_for vote n f (leading vote n).plan
      counts = quorum_count n f (λ j. holds (eqb b.plan) (vote j)) count counted ∙ ap (λ (x : Lead). quorum_for vote n f x.plan) lead_is

      -- So that plan is agreed on where enough were counted, and otherwise none is.
      pub agreed_count : cond (leb (n - f) count) (some b.plan) none ≡ agreed_in vote n f
      unfolding agreed_in
      agreed_count = λ i. cond (counts i) (some (lead_is i).plan) none

  -- A quorum is for no other plan than the one that leads.
  only_lead : 3 * f < n → (q : ℕ) → quorum_for vote n f q ≡ true → q ≡ (leading vote n).plan
  only_lead third q h = go (ℕ_discrete q (leading vote n).plan)
    where
      go : Dec (q ≡ (leading vote n).plan) → q ≡ (leading vote n).plan
      go (yes e) = e
      go (no off) = absurd (omega (arith, quorum_is q h, (ahead_leads vote n).other q off, (ahead_leads vote n).most))

  -- So a plan that a quorum is for is agreed on.
  pub agreed_where : 3 * f < n → (q : ℕ) → quorum_for vote n f q ≡ true → agreed_in vote n f ≡ some q
  unfolding agreed_in
  agreed_where third q h =
      ap (λ (p : ℕ). cond (quorum_for vote n f p) (some p) none) (sym (only_lead third q h)) ∙ ap (λ (b : Bool). cond b (some q) none) h

  -- And a quorum is for the plan agreed on.
  pub agreed_has : (q : ℕ) → agreed_in vote n f ≡ some q → quorum_for vote n f q ≡ true
  unfolding agreed_in
  agreed_has q e = go (quorum_for vote n f (leading vote n).plan) refl e
    where
      go : (b : Bool) → quorum_for vote n f (leading vote n).plan ≡ b → cond b (some (leading vote n).plan) none ≡ some q → quorum_for vote n f q ≡ true
      go true on is = let same : q ≡ (leading vote n).plan = cc in ap (quorum_for vote n f) same ∙ on
      go false off is = let z : ◌≡◌ {A = ℕ} 0 1 = cc in absurd (omega arith)
