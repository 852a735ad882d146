-- After a restart no step has anything to do, where none had before ('it sends no frame': document 02, wish 6).
-- A step acts where enough of the kept frames ask for it and the own row does not say that it is done. A restart keeps the own row and
-- loses frames of others: what is enough now was enough before, and what was done is done. So it is whichever frames of others are
-- lost (`fewer_done`). Of the rules it takes that fewer reports make no plan safe (`safe_part`).
-- Assumes nothing.
use Prim.Native.Nat.{ℕ, zero, suc, ◌+◌, ◌≤◌, ◌<◌}
use mathlib.Core.Path.{◌≡◌, refl, sym, ◌∙◌, ap}
use mathlib.Core.Logic.{inl, inr, ⊎_elim}
use mathlib.Core.Bool.{Bool, true, false, not, ◌&&◌}
use mathlib.Core.List.{List, [], ◌∷◌, ◌++◌, cons≢nil}
use mathlib.Core.Option.{Option, none, some}
use native.Mathlib.Omega.{arith}
use lib.Dec.{leb, ltb, eqb}
use borrow.Author.Tests.{ltb-true, not-true}
use Rattle.rules.specs.Sets.{Vaults, Set}
use Rattle.rules.specs.Quorums.{is_quorum, is_blocking}
use Rattle.rules.specs.Options.{is_none, holds}
use Rattle.rules.specs.Rules.{Reports, Rule, rule1, rule3, claims, unlocked, allows, Claimed, Backed, Safe, at_start, no_lock, since, IsSmallest, Chosen}
use Rattle.rules.specs.Rules.{own, other}
use Rattle.rules.specs.inside.Counts.{safe}
use Rattle.rules.proofs.Bools.{clash, not_true, both_split, both_join}
use Rattle.rules.proofs.Quorums.{ByWeight, quorum_by_weight, blocking_by_weight, enough_mono, group_map}
use Rattle.rules.proofs.Laws.{holds_where, safe_iff, choice_is}
use Rattle.rules.proofs.Reports.{none≢some}
use Rattle.frame.specs.declared.Frame.{Frame}
use Rattle.entry.specs.declared.Entry.{Entry}
use Rattle.protocol.specs.Record.{Record, changed, when, each, highest, vaults, leader, leads, vote_of, change_of, reports_of, plan_now, sent_now, kind_of}
use Rattle.protocol.specs.Pass.{Act, ask, enter, cast, decide, writes, asked, is_news, act_a, can_enter, act_b, may_propose, chosen, act_c, approves, act_d}
use Rattle.protocol.specs.Pass.{has_quorum, agreed, act_vote, act_h, Out, Step, taken, onward, pass, step_a, step_b, step_c, step_d, step_vote, step_h, from_a}
use Rattle.protocol.specs.Alone.{alone}
use Rattle.protocol.specs.Settled.{RestartSettles}
use Rattle.protocol.proofs.OwnRow.{alone_own, alone_was}
use Rattle.protocol.proofs.Tables.{each_some, each_none, each_was, when_none, when_false, highest_has, highest_most}
use Rattle.protocol.proofs.Passes.{pass_more}
use Rattle.protocol.proofs.Settled.{Done, quiet_pass, asks_too}

-- ---- what may be lost

-- What the first option has, if anything, the second has.
abbrev pub Part : {A : Type 0} → Option A → Option A → Type 0
Part {A} o o' = (x : A) → o ≡ some x → o' ≡ some x

-- So it is with what follows from them.
each_part : {A B : Type 0} (o o' : Option A) (f : A → Option B) → Part o o' → Part (each o f) (each o' f)
each_part o o' f part y e = let (x, is, g) = each_some o f e in ap (λ (p : Option _). each p f) (part x is) ∙ g

-- A test that the first passes the second passes.
holds_part : {A : Type 0} (o o' : Option A) (test : A → Bool) → Part o o' → holds test o ≡ true → holds test o' ≡ true
holds_part o o' test part h = let (x, is, passes) = holds_where o test h in ap (holds test) (part x is) ∙ passes

-- Among more numbers, more of which pass, there is a highest no lower.
highest_part : (s t : ℕ → Bool) (f g : ℕ → Option ℕ) (n : ℕ) → ((w : ℕ) → s w ≡ true → t w ≡ true) → ((j : ℕ) → Part (f j) (g j)) → (w : ℕ)
    → highest s f n ≡ some w → (x : ℕ) × (highest t g n ≡ some x) × (w ≤ x)
highest_part s t f g n more part w e =
    let (passes, found) = highest_has s f n e in
    let (j, low, at) = found in
    highest_most t g n j w low (part j w at) (more w passes)

-- ---- fewer reports make no plan safe

module _ (vs : Vaults) (rs ts : Reports) (part : (j : ℕ) → Part (rs j) (ts j)) where
  -- A claim of fewer reports is one of more.
  claimed_part : (p u : ℕ) → Claimed vs rs p u → Claimed vs ts p u
  claimed_part p u = group_map (λ i low. holds_part (rs i) (ts i) (claims p u) (part i))

  -- So is what a rule asks of the claims.
  backed_part : (rule : Rule) (v p u : ℕ) → Backed rule vs rs v p u → Backed rule vs ts v p u
  backed_part rule1 v p u = claimed_part p u
  backed_part rule3 v p u = ⊎_elim (λ c. inl (claimed_part p u c)) (λ t. inr (record {
    p₁ = t.p₁;
    p₂ = t.p₂;
    a = t.a;
    b = t.b;
    another = t.another;
    from = t.from;
    later = t.later;
    before = t.before;
    first = claimed_part t.p₁ t.a t.first;
    second = claimed_part t.p₂ t.b t.second;
  }))

  -- A plan that is safe by fewer reports is safe by more.
  pub safe_part : (rule : Rule) (v p : ℕ) → Safe rule vs rs v p → Safe rule vs ts v p
  safe_part rule v p (at_start e) = at_start e
  safe_part rule v p (no_lock q) = no_lock (group_map (λ i low. holds_part (rs i) (ts i) unlocked (part i)) q)
  safe_part rule v p (since u low q b) = since u low (group_map (λ i below. holds_part (rs i) (ts i) (allows p u) (part i)) q) (backed_part rule v p u b)

-- ---- a pass that does nothing

-- Every act writes an entry.
speaks : (r : Record) (a : Act) (es : List Entry) → writes r a ++ es ≡ [] → ⊥
unfolding writes
speaks r (ask w) es e = cons≢nil e
speaks r (enter w) es e = cons≢nil e
speaks r (cast k p) es e = cons≢nil e
speaks r (decide p) es e = cons≢nil e

-- Where a pass does nothing its first step does not, and neither do the rest.
first_quiet : (s : Step) (rest : List Step) (r : Record) (o : Option Act) → s r ≡ taken r o → pass (s ∷ rest) r ≡ record { left = r; wrote = [] }
    → (o ≡ none) × (pass rest r ≡ record { left = r; wrote = [] })
first_quiet s rest r o is e = go o (sym (ap (λ (x : Out). onward x.wrote (pass rest x.left)) is) ∙ sym (pass_more s rest r) ∙ e)
  where
    go : (o : Option Act) → onward (taken r o).wrote (pass rest (taken r o).left) ≡ record { left = r; wrote = [] }
        → (o ≡ none) × (pass rest r ≡ record { left = r; wrote = [] })
    go none e = (refl, e)
    go (some a) e = absurd (speaks r a _ (ap (λ (x : Out). x.wrote) e))

-- Where a pass does nothing, no step has anything to do: the converse of `quiet_pass`.
pub pass_done : (r : Record) → pass from_a r ≡ record { left = r; wrote = [] } → Done 8 r
unfolding step_a step_b step_c step_d step_vote step_h
pass_done r e =
    let (a, after_a) = first_quiet step_a _ r (act_a r) refl e in
    let (b, after_b) = first_quiet step_b _ r (act_b r) refl after_a in
    let (c, after_c) = first_quiet step_c _ r (act_c r) refl after_b in
    let (d, after_d) = first_quiet step_d _ r (act_d r) refl after_c in
    let (v₁, after_e) = first_quiet (step_vote 1) _ r (act_vote r 1) refl after_d in
    let (v₂, after_f) = first_quiet (step_vote 2) _ r (act_vote r 2) refl after_e in
    let (v₃, after_g) = first_quiet (step_vote 3) _ r (act_vote r 3) refl after_f in
    let (h, after_h) = first_quiet step_h _ r (act_h r) refl after_g in
    record {
      a = λ le. a;
      b = λ le. b;
      c = λ le. c;
      d = λ le. d;
      votes = votes v₁ v₂ v₃;
      h = λ le. h;
    }
  where
    votes : act_vote r 1 ≡ none → act_vote r 2 ≡ none → act_vote r 3 ≡ none → (k : ℕ) → k < 3 → k + 5 ≤ 8 → act_vote r (suc k) ≡ none
    votes v₁ v₂ v₃ zero low le = v₁
    votes v₁ v₂ v₃ (suc zero) low le = v₂
    votes v₁ v₂ v₃ (suc (suc zero)) low le = v₃
    votes v₁ v₂ v₃ (suc (suc (suc k))) low le = absurd (omega arith)

-- ---- fewer frames of others give no step anything to do

-- Plans that are safe by Rule 1.
abbrev fine : Record → ℕ → Type 0
fine r = Safe rule1 (vaults r) (reports_of r rule1) r.view

-- What step C's choice says of them: the one chosen is safe, and where none is chosen none is.
abbrev Says : Record → Option ℕ → Type 0
Says r none = (p : ℕ) → ¬ fine r p
Says r (some p) = fine r p

-- It says so.
chosen_says : (r : Record) → Says r (chosen r)
chosen_says r = go (choice_is (vaults r) (reports_of r rule1) r.view r.start)
  where
    least : (o : Option ℕ) → IsSmallest (vaults r) (reports_of r rule1) r.view o → Says r o
    least none l = l
    least (some p) l = l.0

    go : {o : Option ℕ} → Chosen (vaults r) (reports_of r rule1) r.view r.start o → Says r o
    go (own s) = s
    go {o} (other never l) = least o l

-- The record with other kept frames.
abbrev pub having : Record → (ℕ → ℕ → Option Frame) → Record
having r t = changed r r.view t r.previous r.decision

-- The table t has the vault's own row as before, and of the others' frames no new ones.
module _ (r : Record) (t : ℕ → ℕ → Option Frame) (row : (k : ℕ) → t k r.set.id ≡ r.kept k r.set.id)
    (part : (k j : ℕ) → Part (t k j) (r.kept k j)) where
  -- Who asks for a view asked for it before.
  change_part : (j : ℕ) → Part (change_of (having r t) j) (change_of r j)
  change_part j = each_part (t 6 j) (r.kept 6 j) (λ f. some f.view) (part 6 j)

  -- A vote of this view was kept before.
  plan_part : (k j : ℕ) → Part (plan_now (having r t) k j) (plan_now r k j)
  plan_part k j = each_part (vote_of (having r t) k j) (vote_of r k j) _ (each_part (t (suc k) j) (r.kept (suc k) j) _ (part (suc k) j))

  -- So was a report; so a plan that is safe was safe before.
  safe_before : (rule : Rule) (p : ℕ) → Safe rule (vaults r) (reports_of (having r t) rule) r.view p → Safe rule (vaults r) (reports_of r rule) r.view p
  safe_before rule p = safe_part (vaults r) (reports_of (having r t) rule) (reports_of r rule)
      (λ j. each_part (t (kind_of rule) j) (r.kept (kind_of rule) j) _ (part (kind_of rule) j)) rule r.view p

  -- What the vault sent in this view it sent before.
  same_sent : (k : ℕ) → sent_now (having r t) k ≡ sent_now r k
  same_sent k z = sent_now (having r (λ h j. row (suc k) z)) k

  -- A view that enough ask for had enough before.
  asked_part : (enough : Vaults → Set → Bool) → ByWeight (vaults r) (enough (vaults r)) → (w : ℕ) → asked (having r t) enough w ≡ true → asked r enough w ≡ true
  asked_part enough by w =
      enough_mono (vaults r) (enough (vaults r)) by (λ j. holds (leb w) (change_of (having r t) j)) (λ j. holds (leb w) (change_of r j))
      (λ j low. holds_part (change_of (having r t) j) (change_of r j) (leb w) (change_part j))

  -- A: where a blocking set asks for a later view, it did before, and the vault asks for as much.
  fewer_a : act_a r ≡ none → act_a (having r t) ≡ none
  fewer_a quiet = each_none (highest (asked (having r t) is_blocking) (change_of (having r t)) r.set.n) _
      (λ w is. when_false (is_news (having r t) w) (some (ask w))
      (old w (asked_part is_blocking (blocking_by_weight (vaults r)) w (highest_has _ (change_of (having r t)) r.set.n is).0)))
    where
      same : change_of (having r t) r.set.id ≡ change_of r r.set.id
      same z = change_of (having r (λ h j. row 6 z)) 0

      old : (w : ℕ) → asked r is_blocking w ≡ true → is_news (having r t) w ≡ false
      old w asks = not_true (is_news (having r t) w) (λ (h : is_news (having r t) w ≡ true).
          let (up, new) = both_split (ltb r.view w) (not (holds (leb w) (change_of (having r t) r.set.id))) h in
          clash (ap (holds (leb w)) same ∙ asks_too r w (ltb-true r.view w up) quiet asks) (not-true _ new))

  -- B: a view that can be entered could be before.
  fewer_b : act_b r ≡ none → act_b (having r t) ≡ none
  fewer_b quiet = each_none (highest (can_enter (having r t)) (change_of (having r t)) r.set.n) _ (λ w is.
      let (x, top, le) = highest_part (can_enter (having r t)) (can_enter r) (change_of (having r t)) (change_of r) r.set.n can change_part w is in
      absurd (none≢some (sym (each_was (highest (can_enter r) (change_of r) r.set.n) _ x quiet top))))
    where
      can : (w : ℕ) → can_enter (having r t) w ≡ true → can_enter r w ≡ true
      can w h =
          let (up, enough) = both_split (ltb r.view w) (asked (having r t) is_quorum w) h in
          both_join (ltb r.view w) (asked r is_quorum w) up (asked_part is_quorum (quorum_by_weight (vaults r)) w enough)

  -- C: a plan that is safe by Rule 1 was safe before.
  fewer_c : act_c r ≡ none → act_c (having r t) ≡ none
  fewer_c quiet = go (may_propose r) (ap (λ (b : Bool). leads r r.view && not b) (same_sent 0)) quiet
    where
      waits : (o o' : Option ℕ) → Says r o → Says (having r t) o' → each o (λ p. some (cast 0 p)) ≡ none → each o' (λ p. some (cast 0 p)) ≡ none
      waits o none says says' e = refl
      waits (some p) (some q) says says' e = absurd (none≢some (sym e))
      waits none (some q) says says' e = absurd (says q (safe_before rule1 q says'))

      go : (b : Bool) → may_propose (having r t) ≡ b → when b (each (chosen r) (λ p. some (cast 0 p))) ≡ none → act_c (having r t) ≡ none
      go false is e = when_false (may_propose (having r t)) _ is
      go true is e = rw is (waits (chosen r) (chosen (having r t)) (chosen_says r) (chosen_says (having r t)) e)

  -- D: a proposal that is safe by Rule 3 was kept, and safe, before.
  fewer_d : act_d r ≡ none → act_d (having r t) ≡ none
  fewer_d quiet = each_none (plan_now (having r t) 0 (leader r r.view)) _ (λ p is. when_false (approves (having r t) p) (some (cast 1 p))
      (not_true (approves (having r t) p) (λ (h : approves (having r t) p ≡ true). clash (before p h)
      (when_none (approves r p) (cast 1 p) (each_was (plan_now r 0 (leader r r.view)) _ p quiet (plan_part 0 (leader r r.view) p is))))))
    where
      before : (p : ℕ) → approves (having r t) p ≡ true → approves r p ≡ true
      before p h =
          let (unsent, ok) = both_split (not (sent_now (having r t) 1)) (safe rule3 (vaults r) (reports_of (having r t) rule3) r.view p) h in
          both_join (not (sent_now r 1)) (safe rule3 (vaults r) (reports_of r rule3) r.view p) (ap not (sym (same_sent 1)) ∙ unsent)
          ((safe_iff (vaults r) (reports_of r rule3) rule3 r.view p).0
          (safe_before rule3 p ((safe_iff (vaults r) (reports_of (having r t) rule3) rule3 r.view p).1 ok)))

  -- E to H: a plan with a quorum had one before.
  fewer_agreed : (k : ℕ) (b : Bool) (act : ℕ → Act) → each (agreed r k) (λ p. when b (some (act p))) ≡ none
      → each (agreed (having r t) k) (λ p. when b (some (act p))) ≡ none
  unfolding agreed
  fewer_agreed k b act quiet = each_none (agreed (having r t) k) _ (λ p is.
      let (x, top, le) = highest_part (has_quorum (having r t) k) (has_quorum r k) (plan_now (having r t) k) (plan_now r k) r.set.n quorum (plan_part k) p is in
      when_false b (some (act p)) (when_none b (act x) (each_was (agreed r k) _ x quiet top)))
    where
      quorum : (p : ℕ) → has_quorum (having r t) k p ≡ true → has_quorum r k p ≡ true
      quorum p =
          enough_mono (vaults r) (is_quorum (vaults r)) (quorum_by_weight (vaults r)) (λ j. holds (eqb p) (plan_now (having r t) k j))
          (λ j. holds (eqb p) (plan_now r k j)) (λ j low. holds_part (plan_now (having r t) k j) (plan_now r k j) (eqb p) (plan_part k j))

  -- So no step has anything to do.
  pub fewer_done : Done 8 r → Done 8 (having r t)
  fewer_done q = record {
    a = λ le. fewer_a (q.a le);
    b = λ le. fewer_b (q.b le);
    c = λ le. fewer_c (q.c le);
    d = λ le. fewer_d (q.d le);
    votes = λ k low le. ap (λ (b : Bool). each (agreed (having r t) (suc k)) (λ p. when (not b) (some (cast (suc (suc k)) p)))) (same_sent (suc (suc k)))
        ∙ fewer_agreed (suc k) (not (sent_now r (suc (suc k)))) (cast (suc (suc k))) (q.votes k low le);
    h = λ le. fewer_agreed 4 (is_none r.decision) decide (q.h le);
  }

-- A restart gives no step anything to do.
pub alone_done : (r : Record) → Done 8 r → Done 8 (alone r)
unfolding alone
alone_done r = fewer_done r (alone r).kept (alone_own r) (λ k j x is. alone_was r k j is)

-- So a pass after it does nothing.
pub restart_settles : RestartSettles
restart_settles r e = quiet_pass (alone r) (alone_done r (pass_done r e))
