-- Each step does only what the record lets the vault do (`May`): the tests of A to H, read as facts.
-- All that agreement uses of how a view is entered is that it is above the current one.
-- Assumes nothing.
use Prim.Native.Nat.{ℕ, zero, suc, ◌<◌}
use mathlib.Core.Path.{◌≡◌, refl, sym, ◌∙◌, ap, subst}
use mathlib.Core.Logic.{◌≢◌, ◌⊎◌, inl}
use mathlib.Core.Bool.{true, false, not}
use mathlib.Core.List.{List, [], ◌∷◌}
use mathlib.Core.Option.{Option, none, some}
use native.Mathlib.Omega.{arith}
use lib.Dec.{ltb, eqb}
use borrow.Author.Tests.{ltb-true, eqb-true, not-true}
use Rattle.rules.specs.Quorums.{is_quorum, is_blocking, Quorum}
use Rattle.rules.proofs.Bools.{both_split}
use Rattle.rules.proofs.Quorums.{group_map, count_quorum}
use Rattle.rules.specs.Options.{is_none, holds}
use Rattle.rules.specs.inside.Counts.{safe}
use Rattle.rules.specs.Rules.{rule1, rule3, Safe, Chosen}
use Rattle.rules.proofs.Laws.{holds_where, safe_iff, choice_is}
use Rattle.rules.proofs.Reports.{is_none_none}
use Rattle.protocol.specs.Record.{Record, highest, vaults, leader, leads, vote_of, change_of, reports_of, plan_now, sent_now}
use Rattle.protocol.specs.Pass.{Act, ask, enter, cast, decide, asked, is_news, act_a, can_enter, act_b, may_propose, chosen, act_c, approves, act_d}
use Rattle.protocol.specs.Pass.{has_quorum, agreed, act_vote, act_h, Step, taken, step_a, step_b, step_c, step_d, step_vote, step_h, from_c, from_a}
use Rattle.protocol.proofs.Tables.{each_some, when_some, highest_has}

module _ (r : Record) where
  -- Sender j's vote-k for p in the current view is kept.
  abbrev pub Held : ℕ → ℕ → ℕ → Type 0
  Held k p j = vote_of r k j ≡ some (record { view = r.view; plan = p })

  -- What lets it send vote-k for p: step C's choice for a leader's proposal (`proposed_chosen` says what that is), Rule 3 for vote-1, a
  -- quorum of the vote before for the others.
  abbrev pub Reached : ℕ → ℕ → Type 0
  Reached zero p = (leader r r.view ≡ r.set.id) × (act_c r ≡ some (cast 0 p))
  Reached (suc zero) p = Safe rule3 (vaults r) (reports_of r rule3) r.view p × Held 0 p (leader r r.view)
  Reached (suc (suc k)) p = Quorum (vaults r) (Held (suc k) p)

  -- A kept view-change is for w.
  abbrev pub Wished : ℕ → Type 0
  Wished w = (j : ℕ) × (change_of r j ≡ some w)

  -- Vote-5 is the decision.
  abbrev pub May : Act → Type 0
  May (ask w) = (r.view < w) × (Wished w ⊎ ((w ≡ suc r.view) × (r.view ≢ 4294967295)))
  May (enter w) = (r.view < w) × Wished w
  May (cast k p) = (k < 5) × (sent_now r k ≡ false) × Reached k p
  May (decide p) = (r.decision ≡ none) × Reached 5 p

  -- Step A asks only for a view above the current one, for which a view-change is kept.
  may_a : (a : Act) → act_a r ≡ some a → May a
  may_a a e =
      let (w, is, g) = each_some (highest (asked r is_blocking) (change_of r) r.set.n) _ e in
      let (news, q) = when_some (is_news r w) (some (ask w)) g in
      let (above, new) = both_split (ltb r.view w) _ news in
      let (j, low, at) = (highest_has (asked r is_blocking) (change_of r) r.set.n is).1 in
      let same : ask w ≡ a = cc in
      rw (← same) (ltb-true r.view w above, inl (j, at))

  -- A view that can be entered is above the current one.
  entered_above : (w : ℕ) → can_enter r w ≡ true → r.view < w
  entered_above w can = ltb-true r.view w (both_split (ltb r.view w) (asked r is_quorum w) can).0

  -- Step B enters only a view above the current one, for which a view-change is kept.
  may_b : (a : Act) → act_b r ≡ some a → May a
  may_b a e =
      let (w, is, g) = each_some (highest (can_enter r) (change_of r) r.set.n) _ e in
      let (can, found) = highest_has (can_enter r) (change_of r) r.set.n is in
      let (j, low, at) = found in
      let same : enter w ≡ a = cc in
      rw (← same) (entered_above w can, (j, at))

  -- Step C proposes only where the vault leads the view and has not proposed in it.
  may_c : (a : Act) → act_c r ≡ some a → May a
  may_c a e =
      let (free, g) = when_some (may_propose r) _ e in
      let (lead, new) = both_split (leads r r.view) (not (sent_now r 0)) free in
      let (p, is, q) = each_some (chosen r) _ g in
      let same : cast 0 p ≡ a = cc in
      rw (← same) (omega arith, not-true (sent_now r 0) new, (eqb-true (leader r r.view) r.set.id lead, e ∙ ap some (sym same)))

  -- What a leader proposes is its starting plan, or the smallest safe plan where that is not safe. Only validity uses it.
  pub proposed_chosen : (p : ℕ) → act_c r ≡ some (cast 0 p) → Chosen (vaults r) (reports_of r rule1) r.view r.start (some p)
  proposed_chosen p e =
      let (free, g) = when_some (may_propose r) _ e in
      let (q, is, same) = each_some (chosen r) _ g in
      let qp : q ≡ p = cc in
      subst (Chosen (vaults r) (reports_of r rule1) r.view r.start) (is ∙ ap some qp) (choice_is (vaults r) (reports_of r rule1) r.view r.start)

  -- A plan that sender j's vote-k now has is held.
  pub now_held : (k j : ℕ) {p : ℕ} → plan_now r k j ≡ some p → Held k p j
  now_held k j {p} e =
      let (x, is, w) = each_some (vote_of r k j) _ e in
      let (t, q) = when_some (eqb x.view r.view) _ w in
      let v : x.view ≡ r.view = eqb-true x.view r.view t in
      let s : x.plan ≡ p = cc in
      is ∙ (λ z. some (record { view = v z; plan = s z }))

  -- Step D votes-1 once a view, for the leader's kept proposal, if that is safe by Rule 3.
  may_d : (a : Act) → act_d r ≡ some a → May a
  may_d a e =
      let (p, is, g) = each_some (plan_now r 0 (leader r r.view)) _ e in
      let (ok, q) = when_some (approves r p) (some (cast 1 p)) g in
      let (new, good) = both_split (not (sent_now r 1)) (safe rule3 (vaults r) (reports_of r rule3) r.view p) ok in
      let same : cast 1 p ≡ a = cc in
      rw (← same) (
        omega arith,
        not-true (sent_now r 1) new,
        ((safe_iff (vaults r) (reports_of r rule3) rule3 r.view p).1 good, now_held 0 (leader r r.view) is),
      )

  -- Those whose vote-k is for p, as the count of them sees it.
  quorum_held : (k p : ℕ) → has_quorum r k p ≡ true → Quorum (vaults r) (Held k p)
  quorum_held k p h =
      group_map (λ j low t. let (q, is, same) = holds_where (plan_now r k j) (eqb p) t in let at : p ≡ q = eqb-true p q same in now_held k j (rw at is))
      ((count_quorum (vaults r) (λ j. holds (eqb p) (plan_now r k j))).1 h)

  -- The plan that steps E to H act on has a quorum of kept votes.
  pub agreed_held : (k p : ℕ) → agreed r k ≡ some p → Quorum (vaults r) (Held k p)
  unfolding agreed
  agreed_held k p e = quorum_held k p (highest_has (has_quorum r k) (plan_now r k) r.set.n e).0

  -- Steps E to G send each vote once a view, on a quorum of the vote before.
  may_vote : (k : ℕ) → k < 3 → (a : Act) → act_vote r (suc k) ≡ some a → May a
  may_vote k low a e =
      let (p, is, g) = each_some (agreed r (suc k)) _ e in
      let (new, q) = when_some (not (sent_now r (suc (suc k)))) (some (cast (suc (suc k)) p)) g in
      let same : cast (suc (suc k)) p ≡ a = cc in
      rw (← same) (omega arith, not-true (sent_now r (suc (suc k))) new, agreed_held (suc k) p is)

  -- Step H decides where nothing was decided, on a quorum of vote-4.
  may_h : (a : Act) → act_h r ≡ some a → May a
  may_h a e =
      let (p, is, g) = each_some (agreed r 4) _ e in
      let (new, q) = when_some (is_none r.decision) (some (decide p)) g in
      let same : decide p ≡ a = cc in
      rw (← same) (is_none_none r.decision new, agreed_held 4 p is)

-- ---- steps that do only what they may

-- The step takes an act or none, and only one that the record allows.
pub record Lawful (s : Step) : Type 0 where
  pub act : Record → Option Act
  pub does : (r : Record) → s r ≡ taken r (act r)
  pub may : (r : Record) (a : Act) → act r ≡ some a → May r a

-- Each step of the list is lawful.
pub data Sure : List Step → Type 0 where
  done : Sure []
  and : {s : Step} {l : List Step} → Lawful s → Sure l → Sure (s ∷ l)

-- Step A is lawful.
law_a : Lawful step_a
unfolding step_a
law_a = record { act = act_a; does = λ r. refl; may = may_a }

-- Step B is lawful.
law_b : Lawful step_b
unfolding step_b
law_b = record { act = act_b; does = λ r. refl; may = may_b }

-- Step C is lawful.
law_c : Lawful step_c
unfolding step_c
law_c = record { act = act_c; does = λ r. refl; may = may_c }

-- Step D is lawful.
law_d : Lawful step_d
unfolding step_d
law_d = record { act = act_d; does = λ r. refl; may = may_d }

-- Steps E, F and G are lawful.
law_vote : (k : ℕ) → k < 3 → Lawful (step_vote (suc k))
unfolding step_vote
law_vote k low = record { act = λ r. act_vote r (suc k); does = λ r. refl; may = λ r. may_vote r k low }

-- Step H is lawful.
law_h : Lawful step_h
unfolding step_h
law_h = record { act = act_h; does = λ r. refl; may = may_h }

-- All steps from C are lawful.
pub sure_c : Sure from_c
sure_c = and law_c (and law_d (and (law_vote 0 (omega arith)) (and (law_vote 1 (omega arith)) (and (law_vote 2 (omega arith)) (and law_h done)))))

-- All steps from A are lawful.
pub sure_a : Sure from_a
sure_a = and law_a (and law_b sure_c)
