-- A record is good if it is what its vault has sent and heard: its own row and previous votes sum up its votes, what it keeps of
-- rule-keepers they rightly sent, and every entry of its own says what is so. Each act that the record allows leaves it good and
-- the past later. This is where each local rule is used: a vote once a view, in the current view, the reports that go with a view.
-- Assumes nothing.
use Prim.Native.Nat.{ℕ, zero, suc, ◌≤◌, ◌<◌}
use mathlib.Core.Path.{◌≡◌, refl, sym, ◌∙◌, ap, subst}
use mathlib.Core.Logic.{◌≢◌, ◌⊎◌, inl, inr, ⊎_elim}
use mathlib.Core.Bool.{Bool, true, false, cond}
use mathlib.Core.List.Memᴰ
use mathlib.Core.List.{List, [], ◌∷◌, ◌++◌}
use mathlib.Core.Option.{Option, none, some}
use native.Mathlib.Omega.{arith}
use native.Mathlib.Decide.{ℕ_discrete}
use lib.Dec.{eqb}
use borrow.Author.Tests.{eqb-true, eq-eqb}
use Rattle.rules.specs.Sets.{Vaults}
use Rattle.rules.specs.Quorums.{Quorum}
use Rattle.rules.proofs.Bools.{which, clash, either}
use Rattle.rules.proofs.Quorums.{group_map}
use Rattle.rules.specs.Rules.{Vote, Report, Rule, rule1, rule3, claim_vote, lock_vote, Safe, Chosen}
use Rattle.rules.specs.Rules as Rules
use Rattle.rules.specs.inside.Law.{Other, Exact, From, Reason, own, found}
use Rattle.rules.proofs.Reports.{none≢some}
use Rattle.frame.specs.declared.Body.{Body}
use Rattle.frame.specs.declared.Body.TheVariants.{Plan, Empty, Told}
use Rattle.frame.specs.declared.Frame.{Frame}
use Rattle.frame.specs.Refusal.{leader_of}
use Rattle.entry.specs.declared.Entry.{Entry}
use Rattle.entry.specs.declared.Entry.TheVariants.{ForAll, ForOne}
use Rattle.protocol.specs.Record.{Record, each, reported, spelt, vote_by, report_by, kind_of, keeping, vaults, leader, leads, vote_of, reports_of}
use Rattle.protocol.specs.Record.{sent_now, tells, change_frame, vote_frame, report_frame}
use Rattle.protocol.specs.Tables.{put, ◌∈◌}
use Rattle.settings.specs.declared.Settings.{Settings}
use Rattle.settings.specs.Vaults.{vaults_of}
use Rattle.protocol.specs.Pass.{Act, ask, enter, cast, decide, shift, has_previous, timer_entry, entered, does, suggest_entry, writes, act_c, Out, taken}
use Rattle.protocol.specs.Calls.{keep}
use Rattle.protocol.specs.Alone.{alone}
use Rattle.protocol.specs.inside.Runs.{ContentsSetting}
use Rattle.protocol.proofs.Tables.{put_same, put_other, keep_same, keep_other_kind, keep_other_sender, keep_was, each_some, when_some}
use Rattle.protocol.proofs.OwnRow.{alone_was, alone_vote}
use Rattle.protocol.proofs.Past.{Past, Voted, Later, ExactNow, Fine, fine_on, Ground, ground_on, told_on}
use Rattle.protocol.proofs.Past as Past'
use Rattle.protocol.proofs.Tops.{Tops, tops_on, new_tops, shift_tops, claim_below, lock_below, exact_report}
use Rattle.protocol.proofs.May.{Held, Reached, May, proposed_chosen}

-- ---- frames and entries

-- A frame's vote is its view and its plan.
pub vote_by_plan : (v : ℕ) (b : Body) {x : Vote} → vote_by v b ≡ some x → (b ≡ Plan x.plan) × (v ≡ x.view)
vote_by_plan v (Plan p) {x} e = let is : record { view = v; plan = p } ≡ x = cc in rw (← is) (refl, refl)
vote_by_plan v Empty e = absurd (none≢some e)
vote_by_plan v (Told r) e = absurd (none≢some e)

-- A vote that is spelt as a report reads as that vote.
reported_spelt : (o : Option Vote) → reported (spelt o) ≡ o
reported_spelt none = refl
reported_spelt (some x) = refl

-- A view-change's or a report's contents are no plan, so such frames are no votes.
pub not_plan : {p : ℕ} {b : Body} → b ≡ Plan p → (b ≡ Empty) ⊎ ((r : _) × (b ≡ Told r)) → ⊥
not_plan e (inl f) = let z : ◌≡◌ {A = ℕ} 0 1 = cc in omega arith
not_plan e (inr (r, f)) = let z : ◌≡◌ {A = ℕ} 0 1 = cc in omega arith

-- Broadcasts that are the same have the same frame.
frame_is : {x y : Frame} → ForAll x ≡ ForAll y → x ≡ y
frame_is e = cc

-- Only a cast writes a vote, for the current view.
new_vote : (r : Record) (a : Act) (j k u p : ℕ) → ForAll (record { kind = suc k; sender = j; view = u; body = Plan p }) ∈ writes r a
    → (a ≡ cast k p) × (u ≡ r.view)
unfolding writes
new_vote r (ask w) j k u p at = absurd (not_plan refl (inl (ap (λ (x : Frame). x.body) (frame_is (Memᴰ.eq_of_singleton at)))))
new_vote r (enter w) j k u p at = ⊎_elim (λ e. never (cc)) (λ rest. ⊎_elim proof (suggest (leads r w)) (Memᴰ.cases_cons rest)) (Memᴰ.cases_cons at)
  where
    never : ◌≡◌ {A = ℕ} 0 1 → (enter w ≡ cast k p) × (u ≡ r.view)
    never z = absurd (omega arith)

    proof : ForAll (record { kind = suc k; sender = j; view = u; body = Plan p }) ≡ ForAll (report_frame r rule3 w) → (enter w ≡ cast k p) × (u ≡ r.view)
    proof e = absurd (not_plan refl (inr (tells r rule3, ap (λ (x : Frame). x.body) (frame_is e))))

    suggest : (b : Bool) → ForAll (record { kind = suc k; sender = j; view = u; body = Plan p }) ∈ suggest_entry r w b → (enter w ≡ cast k p) × (u ≡ r.view)
    suggest true rest = elim rest [ ]
    suggest false rest =
        let vote : Entry = ForAll (record { kind = suc k; sender = j; view = u; body = Plan p }) in
        let e : vote ≡ ForOne (leader r w) (report_frame r rule1 w) = Memᴰ.eq_of_singleton rest in
        never (cc)
new_vote r (cast k' p') j k u p at =
    let e = frame_is (Memᴰ.eq_of_singleton at) in
    let kind : suc k ≡ suc k' = ap (λ (x : Frame). x.kind) e in
    let plan : Plan p ≡ Plan p' = ap (λ (x : Frame). x.body) e in
    (cc, ap (λ (x : Frame). x.view) e)
new_vote r (decide p') j k u p at = let e = Memᴰ.eq_of_singleton at in let z : ◌≡◌ {A = ℕ} 0 1 = cc in absurd (omega arith)

-- The act is a vote-k, or it is not.
pub is_cast : (a : Act) (k : ℕ) → ((p : ℕ) × (a ≡ cast k p)) ⊎ ((p : ℕ) → a ≡ cast k p → ⊥)
is_cast (ask w) k = inr (λ p e. let z : ◌≡◌ {A = ℕ} 0 1 = cc in omega arith)
is_cast (enter w) k = inr (λ p e. let z : ◌≡◌ {A = ℕ} 0 1 = cc in omega arith)
is_cast (decide q) k = inr (λ p e. let z : ◌≡◌ {A = ℕ} 0 1 = cc in omega arith)
is_cast (cast k' q) k = go (ℕ_discrete k' k)
  where
    go : Dec (k' ≡ k) → ((p : ℕ) × (cast k' q ≡ cast k p)) ⊎ ((p : ℕ) → cast k' q ≡ cast k p → ⊥)
    go (yes e) = inl (q, ap (λ (x : ℕ). cast x q) e)
    go (no ne) = inr (λ p e. ne (cc))

-- ---- what acts leave alone

module _ (r : Record) where
  -- No act changes the settings.
  pub does_set : (a : Act) → (does r a).set ≡ r.set
  unfolding does
  does_set (ask w) = refl
  does_set (enter w) = refl
  does_set (cast k p) = refl
  does_set (decide p) = refl

  -- No act changes the starting plan.
  does_start : (a : Act) → (does r a).start ≡ r.start
  unfolding does
  does_start (ask w) = refl
  does_start (enter w) = refl
  does_start (cast k p) = refl
  does_start (decide p) = refl

  -- The view does not fall.
  does_view : (a : Act) → May r a → r.view ≤ (does r a).view
  unfolding does
  does_view (ask w) may = omega arith
  does_view (enter w) may = omega (arith, may.0)
  does_view (cast k p) may = omega arith
  does_view (decide p) may = omega arith

  -- Of the votes, an act changes only the one that it casts.
  pub vote_kept : (a : Act) (k j : ℕ) → k < 5 → ((p : ℕ) → a ≡ cast k p → ⊥) → vote_of (does r a) k j ≡ vote_of r k j
  unfolding does
  vote_kept a k j low other = ap (λ (o : Option Frame). each o (λ x. vote_by x.view x.body)) (row a other)
    where
      suggest : (w : ℕ) (b : Bool) → entered r w b (suc k) j ≡ r.kept (suc k) j
      suggest w true =
          keep_other_kind (report_frame r rule1 w) (keeping (report_frame r rule3 w) r.kept) (suc k) j (λ (e : 7 ≡ suc k). omega arith)
          ∙ keep_other_kind (report_frame r rule3 w) r.kept (suc k) j (λ (e : 8 ≡ suc k). omega arith)
      suggest w false = keep_other_kind (report_frame r rule3 w) r.kept (suc k) j (λ (e : 8 ≡ suc k). omega arith)

      row : (a : Act) → ((p : ℕ) → a ≡ cast k p → ⊥) → (does r a).kept (suc k) j ≡ r.kept (suc k) j
      row (ask w) other = keep_other_kind (change_frame r w) r.kept (suc k) j (λ (e : 6 ≡ suc k). omega arith)
      row (enter w) other = suggest w (leads r w)
      row (cast k' p) other =
          keep_other_kind (vote_frame r k' p) r.kept (suc k) j (λ (e : suc k' ≡ suc k). other p (let is : k' ≡ k = cc in ap (λ (x : ℕ). cast x p) is))
      row (decide p) other = refl

  -- A vote that is cast stands in the own row, with the current view.
  pub vote_cast : (k p : ℕ) → vote_of (does r (cast k p)) k r.set.id ≡ some (record { view = r.view; plan = p })
  unfolding does
  vote_cast k p = ap (λ (o : Option Frame). each o (λ x. vote_by x.view x.body)) (keep_same (vote_frame r k p) r.kept)

  -- Of the previous votes, an act changes only that of the vote which it casts.
  pub previous_kept : (a : Act) (k : ℕ) → ((p : ℕ) → a ≡ cast k p → ⊥) → (does r a).previous k ≡ r.previous k
  unfolding does
  previous_kept (ask w) k other = refl
  previous_kept (enter w) k other = refl
  previous_kept (decide p) k other = refl
  previous_kept (cast k' p) k other = go (has_previous k')
    where
      go : (b : Bool) → cond b (put k' (shift p (vote_of r k' r.set.id) (r.previous k')) r.previous) r.previous k ≡ r.previous k
      go true = put_other k' _ r.previous k (λ e. other p (ap (λ (x : ℕ). cast x p) e))
      go false = refl

  -- A vote-1 or vote-2 that is cast shifts the previous vote.
  pub previous_cast : (k p : ℕ) → has_previous k ≡ true → (does r (cast k p)).previous k ≡ shift p (vote_of r k r.set.id) (r.previous k)
  unfolding does
  previous_cast k p h =
      ap (λ (b : Bool). cond b (put k (shift p (vote_of r k r.set.id) (r.previous k)) r.previous) r.previous k) h ∙ put_same k _ r.previous

-- Only vote-1 and vote-2 have a previous vote.
pub previous_third : (k : ℕ) → has_previous k ≡ true → k < 3
previous_third k h =
    ⊎_elim (λ e. let is : k ≡ 1 = eqb-true k 1 e in omega arith) (λ e. let is : k ≡ 2 = eqb-true k 2 e in omega arith) (either (eqb k 1) (eqb k 2) h)

-- The same, as a bound on the numbers of votes.
pub previous_below : (k : ℕ) → has_previous k ≡ true → k < 5
previous_below k h = omega (arith, previous_third k h)

-- ---- good records

-- The past, once vault i has answered with o.
abbrev pub onto : Past → ℕ → Out → Past
onto h i o = record { wrote = put i (h.wrote i ++ o.wrote) h.wrote; at = put i o.left.view h.at }

module _ (c : ContentsSetting) (Began : ℕ → Type 0) where
  -- The record of a rule-keeper is what it has sent and heard: its own votes, what it keeps of others, and what its entries say.
  pub record Good (h : Past) (r : Record) : Type 0 where
    pub vaults : vaults_of r.set ≡ c.vaults
    pub plan : Began r.start
    pub now : h.at r.set.id ≡ r.view
    pub below : (k u p : ℕ) → Voted h r.set.id k u p → u ≤ r.view
    pub once : (k v p q : ℕ) → Voted h r.set.id k v p → Voted h r.set.id k v q → p ≡ q
    pub highest : (k : ℕ) → k < 5 → Tops (Voted h r.set.id k) (vote_of r k r.set.id)
    pub previous : (k : ℕ) → has_previous k ≡ true → Tops (Other (Voted h r.set.id k) (vote_of r k r.set.id)) (r.previous k)
    pub kept : (k j : ℕ) (x : Frame) → r.kept k j ≡ some x → c.keeps j ≡ true → (x.kind ≡ k) × Fine h j x
    pub told : (e : Entry) → e ∈ h.wrote r.set.id → Past'.Told c Began h r.set.id e

  -- What makes a proposal a reasoned one: given for any plan where all count as begun, which is enough for agreement, and from step
  -- C's choice otherwise (`chosen_seed`).
  abbrev pub Seed : Type 0
  Seed =
      (h : Past) (r : Record) → Good h r → (p : ℕ) → act_c r ≡ some (cast 0 p) → Reason c.vaults c.keeps (ExactNow h rule1 r.view) Began r.view p

  -- ---- what a good record shows of others

  module _ {h : Past} {r : Record} (g : Good h r) where
    -- A kept vote of a rule-keeper was sent by it.
    kept_was_sent : (k j p : ℕ) → c.keeps j ≡ true → Held r k p j → Voted h j k r.view p
    kept_was_sent k j p keeps e =
        let (x, is, v) = each_some (r.kept (suc k) j) _ e in
        let (body, view) = vote_by_plan x.view x.body v in
        let (kind, fine) = g.kept (suc k) j x is keeps in
        subst (λ (u : ℕ). Voted h j k u p) view (fine.vote k p kind body)

    -- The reports of rule-keepers are exact.
    kept_is_exact : (rule : Rule) → From c.keeps (ExactNow h rule r.view) (reports_of r rule)
    kept_is_exact rule j x keeps e =
        let (y, is, w) = each_some (r.kept (kind_of rule) j) _ e in
        let (t, body) = when_some (eqb y.view r.view) (report_by y.body) w in
        let (kind, fine) = g.kept (kind_of rule) j y is keeps in
        subst (λ (u : ℕ). ExactNow h rule u j x) (eqb-true y.view r.view t) (fine.told rule x kind body)

    -- A quorum of kept votes was sent, as far as rule-keepers go.
    quorum_sent : (k p : ℕ) → Quorum (vaults r) (Held r k p) → Quorum c.vaults (λ j. c.keeps j ≡ true → Voted h j k r.view p)
    quorum_sent k p q =
        subst (λ (vs : Vaults). Quorum vs (λ j. c.keeps j ≡ true → Voted h j k r.view p)) g.vaults
        (group_map (λ j low e keeps. kept_was_sent k j p keeps e) q)

    -- Step C's choice is a leader's reason: its starting plan, or a plan found safe where that is not.
    chosen_reason : (p : ℕ) {o : Option ℕ} → Chosen (vaults r) (reports_of r rule1) r.view r.start o → o ≡ some p
        → Reason c.vaults c.keeps (ExactNow h rule1 r.view) Began r.view p
    chosen_reason p (Rules.own safe) e = let is : r.start ≡ p = cc in own (rw is at g.plan)
    chosen_reason p (Rules.other {o = none} never least) e = absurd (none≢some e)
    chosen_reason p (Rules.other {o = some q} never least) e =
        let is : q ≡ p = cc in
        found r.start (reports_of r rule1) (kept_is_exact rule1)
        (subst (λ (vs : Vaults). ¬ Safe rule1 vs (reports_of r rule1) r.view r.start) g.vaults never)
        (subst (λ (vs : Vaults). Safe rule1 vs (reports_of r rule1) r.view p) g.vaults
        (subst (λ (x : ℕ). Safe rule1 (vaults r) (reports_of r rule1) r.view x) is least.0))

    -- What lets the vault send a vote is the ground of that vote.
    ground : Seed → (k p : ℕ) → Reached r k p → Ground c Began h k r.view p
    ground seed zero p (lead, e) = seed h r g p e
    ground seed (suc zero) p (safe, e) = (
      record {
        proofs = reports_of r rule3;
        from = kept_is_exact rule3;
        safe = subst (λ (vs : Vaults). Safe rule3 vs (reports_of r rule3) r.view p) g.vaults
            safe;
      },
      subst (λ (n : ℕ). c.keeps (leader_of r.view n) ≡ true → Voted h (leader_of r.view n) 0 r.view p) (ap (λ (vs : Vaults). vs.n) g.vaults)
          (λ keeps. kept_was_sent 0 (leader r r.view) p keeps e),
    )
    ground seed (suc (suc k)) p q = quorum_sent (suc k) p q

    -- What the own row does not show as sent in this view was never sent in it.
    not_sent_now : (k p : ℕ) → k < 5 → sent_now r k ≡ false → ¬ Voted h r.set.id k r.view p
    not_sent_now k p low new at =
        let (x, e, le) = (g.highest k low).top r.view p at in
        let here : x.view ≤ r.view = g.below k x.view x.plan ((g.highest k low).sent e) in
        let same : eqb x.view r.view ≡ true = eq-eqb x.view r.view (omega arith) in
        let sent : sent_now r k ≡ true = rw (e, same) in
        clash sent new

  -- What a leader proposes by step C is reasoned: for validity, where only plans of starts count as begun.
  pub chosen_seed : Seed
  chosen_seed h r g p e = chosen_reason g p (proposed_chosen r p e) refl

  -- ---- keeping a frame

  -- What is kept of rule-keepers they rightly sent, if that holds of the new frame.
  pub kept_by : (h : Past) (y : Frame) (t : ℕ → ℕ → Option Frame) → (c.keeps y.sender ≡ true → Fine h y.sender y)
      → ((k j : ℕ) (x : Frame) → t k j ≡ some x → c.keeps j ≡ true → (x.kind ≡ k) × Fine h j x)
      → (k j : ℕ) (x : Frame) → keeping y t k j ≡ some x → c.keeps j ≡ true → (x.kind ≡ k) × Fine h j x
  kept_by h y t new old k j x e keeps = go (keep_was y t k j e)
    where
      go : ((y.kind ≡ k) × (y.sender ≡ j) × (y ≡ x)) ⊎ (t k j ≡ some x) → (x.kind ≡ k) × Fine h j x
      go (inl (kind, sender, same)) = (
        sym (ap (λ (z : Frame). z.kind) same) ∙ kind,
        subst (λ (z : Frame). Fine h j z) same (subst (λ (s : ℕ). Fine h s y) sender (new (subst (λ (s : ℕ). c.keeps s ≡ true) (sym sender) keeps))),
      )
      go (inr was) = old k j x was keeps

  -- ---- an act leaves the record good

  module _ {h : Past} {r : Record} (g : Good h r) (a : Act) (may : May r a) where
    -- The vault that acts.
    abbrev i : ℕ
    i = r.set.id

    -- The past, once it has acted.
    abbrev h' : Past
    h' = onto h r.set.id (taken r (some a))

    -- Entries stay.
    entry_old : (j : ℕ) (e : Entry) → e ∈ h.wrote j → e ∈ h'.wrote j
    entry_old j e at = go (which (eqb i j))
      where
        go : (eqb i j ≡ true) ⊎ (eqb i j ≡ false) → e ∈ h'.wrote j
        go (inl same) = rw same (Memᴰ.append_left {s = h.wrote i} (writes r a) (subst (λ (x : ℕ). e ∈ h.wrote x) (sym (eqb-true i j same)) at))
        go (inr other) = rw other at

    -- What the act writes is among the vault's entries.
    entry_new : (e : Entry) → e ∈ writes r a → e ∈ h'.wrote i
    entry_new e at = rw (put_same i (h.wrote i ++ writes r a) h.wrote) (Memᴰ.append_right (h.wrote i) at)

    -- An entry of the vault is an old one, or one that the act writes.
    entry_split : (e : Entry) → e ∈ h'.wrote i → (e ∈ h.wrote i) ⊎ (e ∈ writes r a)
    entry_split e at = Memᴰ.append_cases (h.wrote i) (rw (put_same i (h.wrote i ++ writes r a) h.wrote) at at)

    -- Votes of the vault stay.
    voted_old : (k u p : ℕ) → Voted h i k u p → Voted h' i k u p
    voted_old k u p at = entry_old i _ at

    -- A vote of the vault is an old one, or the one that the act casts in the current view.
    voted_split : (k u p : ℕ) → Voted h' i k u p → Voted h i k u p ⊎ ((a ≡ cast k p) × (u ≡ r.view))
    voted_split k u p at = ⊎_elim inl (λ new. inr (new_vote r a i k u p new)) (entry_split _ at)

    -- The act makes the past later: a new vote is in the current view, so none is added below it.
    pub act_later : Later h h'
    act_later = record { more = entry_old; rises = λ j. rise j (which (eqb i j)); settled = λ j k u p low at. settle j k u p (which (eqb i j)) low at }
      where
        rise : (j : ℕ) → (eqb i j ≡ true) ⊎ (eqb i j ≡ false) → h.at j ≤ h'.at j
        rise j (inl same) = rw same (subst (λ (x : ℕ). h.at x ≤ (does r a).view) (eqb-true i j same) (omega (arith, g.now, does_view r a may)))
        rise j (inr other) = rw other (omega arith)

        here : (k u p : ℕ) → u < h.at i → Voted h' i k u p → Voted h i k u p
        here k u p low at = ⊎_elim (λ old. old) (λ new. absurd (omega (arith, g.now, new.1))) (voted_split k u p at)

        settle : (j k u p : ℕ) → (eqb i j ≡ true) ⊎ (eqb i j ≡ false) → u < h.at j → Voted h' j k u p → Voted h j k u p
        settle j k u p (inl same) low at =
            let is : i ≡ j = eqb-true i j same in
            subst (λ (x : ℕ). Voted h x k u p) is (here k u p (rw (← is) at low) (subst (λ (x : ℕ). Voted h' x k u p) (sym is) at))
        settle j k u p (inr other) low at = rw other at at

    -- ---- its own frames

    -- Its view-change holds no vote and no report, so there is nothing to be wrong.
    fine_change : (w : ℕ) → Fine h' i (change_frame r w)
    fine_change w = record {
      sender = refl;
      vote = λ k p kind body. absurd (not_plan body (inl refl));
      told = λ rule x kind body. absurd (none≢some body);
    }

    -- Its report of view w is exact: this is where highest, previous and lock are used together.
    report_exact : (w : ℕ) → a ≡ enter w → (rule : Rule) → Fine h' i (report_frame r rule w)
    unfolding does
    report_exact w is rule = record {
      sender = refl;
      vote = λ k p kind body. absurd (not_plan body (inr (tells r rule, refl)));
      told = λ rule' x kind body. subst (λ (s : Rule). ExactNow h' s w i x) (same_kind rule rule' kind) (known x body);
    }
      where
        same_kind : (s t : Rule) → kind_of s ≡ kind_of t → s ≡ t
        same_kind rule1 rule1 e = refl
        same_kind rule1 rule3 e = absurd (omega arith)
        same_kind rule3 rule1 e = absurd (omega arith)
        same_kind rule3 rule3 e = refl

        back : (k u p : ℕ) → Voted h' i k u p → Voted h i k u p
        back k u p at = ⊎_elim (λ old. old) (λ (e, now). let z : ◌≡◌ {A = ℕ} 0 1 = cc in absurd (omega arith)) (voted_split k u p at)

        later : r.view < w
        later = (subst (May r) is may).0

        said : Report
        said = record { highest = vote_of r (claim_vote rule) i; previous = r.previous (claim_vote rule); lock = vote_of r (lock_vote rule) i }

        exact : Exact (Voted h' i) rule w said
        exact = exact_report rule w said (λ k u p at. omega (arith, later, g.below k u p (back k u p at)))
            (tops_on (voted_old (claim_vote rule)) (back (claim_vote rule)) (g.highest (claim_vote rule) (claim_below rule).0))
            (tops_on (λ u p (at, o). (voted_old (claim_vote rule) u p at, o)) (λ u p (at, o). (back (claim_vote rule) u p at, o))
            (g.previous (claim_vote rule) (claim_below rule).1))
            (tops_on (voted_old (lock_vote rule)) (back (lock_vote rule)) (g.highest (lock_vote rule) (lock_below rule)))

        known : (x : Report) → report_by (Told (tells r rule)) ≡ some x → ExactNow h' rule w i x
        known x body =
            let read : Report = record {
              highest = reported (spelt (vote_of r (claim_vote rule) i));
              previous = reported (spelt (r.previous (claim_vote rule)));
              lock = reported (spelt (vote_of r (lock_vote rule) i));
            } in
            let reads : report_by (Told (tells r rule)) ≡ some read = refl in
            let is_x : read ≡ x = cc in
            let same : said ≡ x = (λ z. record {
              highest = sym (reported_spelt (vote_of r (claim_vote rule) i)) z;
              previous = sym (reported_spelt (r.previous (claim_vote rule))) z;
              lock = sym (reported_spelt (vote_of r (lock_vote rule) i)) z;
            }) ∙ is_x in (
              omega (arith, put_same i (does r a).view h.at, ap (λ (b : Act). (does r b).view) is),
              subst (λ (y : Report). Exact (Voted h' i) rule w y)
                  same exact,
            )

    -- Its vote is broadcast by this very act.
    fine_vote : (k p : ℕ) → a ≡ cast k p → Fine h' i (vote_frame r k p)
    unfolding writes
    fine_vote k p is = record {
      sender = refl;
      vote = λ k' p' kind body.
          let same : k ≡ k' = cc in
          let plan : p ≡ p' = cc in
          entry_new _ (subst (λ (b : Act). ForAll (record { kind = suc k'; sender = i; view = r.view; body = Plan p' }) ∈ writes r b) (sym is ∙ refl)
          (head same plan));
      told = λ rule x kind body. absurd (none≢some body);
    }
      where
        head : {k' p' : ℕ} → k ≡ k' → p ≡ p' → ForAll (record { kind = suc k'; sender = i; view = r.view; body = Plan p' }) ∈ ForAll (vote_frame r k p) ∷ []
        head same plan = rw (← same, ← plan) (Memᴰ.head refl)

    -- ---- all of it

    -- It still sends each vote once a view: a cast needs that none was sent in this view.
    once_now : (k v p q : ℕ) → Voted h' i k v p → Voted h' i k v q → p ≡ q
    once_now k v p q x y = go (voted_split k v p x) (voted_split k v q y)
      where
        twice : (s t : ℕ) → Voted h i k v s → (a ≡ cast k t) × (v ≡ r.view) → ⊥
        twice s t old (is, now) =
            let (low, new, why) = subst (May r) is may in
            not_sent_now g k s low new (rw now at old)

        go : Voted h i k v p ⊎ ((a ≡ cast k p) × (v ≡ r.view)) → Voted h i k v q ⊎ ((a ≡ cast k q) × (v ≡ r.view)) → p ≡ q
        go (inl old) (inl old') = g.once k v p q old old'
        go (inl old) (inr new) = absurd (twice p q old new)
        go (inr new) (inl old) = absurd (twice q p old new)
        go (inr (is, now)) (inr (is', now')) = cc

    -- After a cast, a vote of that number is an old one or this one.
    cast_split : (k p : ℕ) → a ≡ cast k p → (u s : ℕ) → Voted h' i k u s → Voted h i k u s ⊎ ((u ≡ r.view) × (s ≡ p))
    cast_split k p is u s at = ⊎_elim inl (λ (new, now). inr (now, cc)) (voted_split k u s at)

    -- Its row still has the highest of its votes.
    highest_now : (k : ℕ) → k < 5 → Tops (Voted h' i k) (vote_of (does r a) k i)
    highest_now k low = go (is_cast a k)
      where
        go : ((p : ℕ) × (a ≡ cast k p)) ⊎ ((p : ℕ) → a ≡ cast k p → ⊥) → Tops (Voted h' i k) (vote_of (does r a) k i)
        go (inr other) =
            subst (Tops (Voted h' i k)) (sym (vote_kept r a k i low other))
            (tops_on (voted_old k) (λ u p at. ⊎_elim (λ old. old) (λ new. absurd (other p new.0)) (voted_split k u p at)) (g.highest k low))
        go (inl (p, is)) =
            subst (Tops (Voted h' i k)) (sym (ap (λ (b : Act). vote_of (does r b) k i) is ∙ vote_cast r k p))
            (new_tops r.view p (voted_old k) (cast_split k p is) ((fine_vote k p is).vote k p refl refl)
            (λ u s at. ⊎_elim (g.below k u s) (λ new. omega (arith, new.1)) (voted_split k u s at)))

    -- Its previous votes are still the highest for another plan: here `shift` is used.
    previous_now : (k : ℕ) → has_previous k ≡ true → Tops (Other (Voted h' i k) (vote_of (does r a) k i)) ((does r a).previous k)
    previous_now k has = go (is_cast a k)
      where
        go : ((p : ℕ) × (a ≡ cast k p)) ⊎ ((p : ℕ) → a ≡ cast k p → ⊥) → Tops (Other (Voted h' i k) (vote_of (does r a) k i)) ((does r a).previous k)
        go (inr other) =
            subst (λ (o : Option Vote). Tops (Other (Voted h' i k) o) ((does r a).previous k)) (sym (vote_kept r a k i (previous_below k has) other))
            (subst (Tops (Other (Voted h' i k) (vote_of r k i))) (sym (previous_kept r a k other))
            (tops_on (λ u p (at, o). (voted_old k u p at, o))
            (λ u p (at, o). (⊎_elim (λ old. old) (λ new. absurd (other p new.0)) (voted_split k u p at), o)) (g.previous k has)))
        go (inl (p, is)) =
            subst (λ (o : Option Vote). Tops (Other (Voted h' i k) o) ((does r a).previous k))
            (sym (ap (λ (b : Act). vote_of (does r b) k i) is ∙ vote_cast r k p))
            (subst (Tops (Other (Voted h' i k) (some (record { view = r.view; plan = p }))))
            (sym (ap (λ (b : Act). (does r b).previous k) is ∙ previous_cast r k p has))
            (shift_tops r.view p (voted_old k) (cast_split k p is) (g.highest k (previous_below k has)) (g.previous k has)))

    -- What it keeps of rule-keepers they still rightly sent, its own new frame included.
    kept_now : (b : Act) → a ≡ b → (k j : ℕ) (x : Frame) → (does r b).kept k j ≡ some x → c.keeps j ≡ true → (x.kind ≡ k) × Fine h' j x
    unfolding does
    kept_now b is = go b is
      where
        old : (k j : ℕ) (x : Frame) → r.kept k j ≡ some x → c.keeps j ≡ true → (x.kind ≡ k) × Fine h' j x
        old k j x e keeps = let (kind, fine) = g.kept k j x e keeps in (kind, fine_on act_later fine)

        suggest : (w : ℕ) → a ≡ enter w → (b : Bool) (k j : ℕ) (x : Frame) → entered r w b k j ≡ some x → c.keeps j ≡ true → (x.kind ≡ k) × Fine h' j x
        suggest w is true = kept_by h' (report_frame r rule1 w) (keeping (report_frame r rule3 w) r.kept) (λ keeps. report_exact w is rule1)
            (kept_by h' (report_frame r rule3 w) r.kept (λ keeps. report_exact w is rule3) old)
        suggest w is false = kept_by h' (report_frame r rule3 w) r.kept (λ keeps. report_exact w is rule3) old

        go : (b : Act) → a ≡ b → (k j : ℕ) (x : Frame) → (does r b).kept k j ≡ some x → c.keeps j ≡ true → (x.kind ≡ k) × Fine h' j x
        go (ask w) is = kept_by h' (change_frame r w) r.kept (λ keeps. fine_change w) old
        go (enter w) is = suggest w is (leads r w)
        go (cast k p) is = kept_by h' (vote_frame r k p) r.kept (λ keeps. fine_vote k p is) old
        go (decide p) is = old

    -- What the act writes says what is so.
    told_now : Seed → (b : Act) → a ≡ b → (e : Entry) → e ∈ writes r b → Past'.Told c Began h' i e
    unfolding writes
    told_now seed (ask w) is e at =
        subst (Past'.Told c Began h' i) (sym (Memᴰ.eq_of_singleton at)) (fine_change w, λ k p kind body. absurd (not_plan body (inl refl)))
    told_now seed (enter w) is e at = ⊎_elim timer (λ rest. ⊎_elim proof (suggest (leads r w)) (Memᴰ.cases_cons rest)) (Memᴰ.cases_cons at)
      where
        timer : e ≡ timer_entry r w → Past'.Told c Began h' i e
        timer same = subst (Past'.Told c Began h' i) (sym same) tt

        proof : e ≡ ForAll (report_frame r rule3 w) → Past'.Told c Began h' i e
        proof same = subst (Past'.Told c Began h' i) (sym same) (report_exact w is rule3, λ k p kind body. absurd (not_plan body (inr (tells r rule3, refl))))

        suggest : (b : Bool) → e ∈ suggest_entry r w b → Past'.Told c Began h' i e
        suggest true rest = elim rest [ ]
        suggest false rest = subst (Past'.Told c Began h' i) (sym (Memᴰ.eq_of_singleton rest)) (report_exact w is rule1)
    told_now seed (cast k p) is e at = subst (Past'.Told c Began h' i) (sym (Memᴰ.eq_of_singleton at)) (fine_vote k p is, why)
      where
        why : (k' p' : ℕ) → suc k ≡ suc k' → Plan p ≡ Plan p' → Ground c Began h' k' r.view p'
        why k' p' kind body =
            let same : k ≡ k' = cc in
            let plan : p ≡ p' = cc in
            ground_on c Began act_later k' r.view p' (ground g seed k' p' (rw (same, plan) at (subst (May r) is may).2))
    told_now seed (decide p) is e at =
        subst (Past'.Told c Began h' i) (sym (Memᴰ.eq_of_singleton at))
        (group_map (λ j low was keeps. entry_old j _ (was keeps)) (quorum_sent g 4 p (subst (May r) is may).1))

    -- An act that the record allows leaves the record good.
    pub act_good : Seed → Good h' (does r a)
    act_good seed = record {
      vaults = ap vaults_of (does_set r a) ∙ g.vaults;
      plan = subst Began (sym (does_start r a)) g.plan;
      now = at_own (λ (j : ℕ). h'.at j ≡ (does r a).view) (put_same i (does r a).view h.at);
      below = at_own (λ (j : ℕ). (k u p : ℕ) → Voted h' j k u p → u ≤ (does r a).view)
          (λ k u p at. ⊎_elim (λ old. omega (arith, does_view r a may, g.below k u p old)) (λ new. omega (arith, does_view r a may, new.1))
          (voted_split k u p at));
      once = at_own (λ (j : ℕ). (k v p q : ℕ) → Voted h' j k v p → Voted h' j k v q → p ≡ q) once_now;
      highest = at_own (λ (j : ℕ). (k : ℕ) → k < 5 → Tops (Voted h' j k) (vote_of (does r a) k j)) highest_now;
      previous = at_own (λ (j : ℕ). (k : ℕ) → has_previous k ≡ true → Tops (Other (Voted h' j k) (vote_of (does r a) k j)) ((does r a).previous k)) previous_now;
      kept = kept_now a refl;
      told = at_own (λ (j : ℕ). (e : Entry) → e ∈ h'.wrote j → Past'.Told c Began h' j e)
          (λ e at. ⊎_elim (λ old. told_on c Began act_later i e (g.told e old)) (told_now seed a refl e) (entry_split e at));
    }
      where
        at_own : (P : ℕ → Type 0) → P i → P (does r a).set.id
        at_own P t = subst P (sym (ap (λ (s : Settings). s.id) (does_set r a))) t

  -- ---- others act, or a frame is kept

  -- Vault i has done nothing, and others went on.
  pub waits : {h h' : Past} {r : Record} → Later h h' → h'.wrote r.set.id ≡ h.wrote r.set.id → h'.at r.set.id ≡ h.at r.set.id → Good h r
      → Good h' r
  waits {h} {h'} {r} on same view g = record {
    vaults = g.vaults;
    plan = g.plan;
    now = view ∙ g.now;
    below = λ k u p at. g.below k u p (back k u p at);
    once = λ k v p q x y. g.once k v p q (back k v p x) (back k v q y);
    highest = λ k low. tops_on (to k) (back k) (g.highest k low);
    previous = λ k has. tops_on (λ u p (at, o). (to k u p at, o)) (λ u p (at, o). (back k u p at, o)) (g.previous k has);
    kept = λ k j x e keeps. let (kind, fine) = g.kept k j x e keeps in (kind, fine_on on fine);
    told = λ e at. told_on c Began on r.set.id e (g.told e (subst (λ (l : List Entry). e ∈ l) same at));
  }
    where
      to : (k u p : ℕ) → Voted h r.set.id k u p → Voted h' r.set.id k u p
      to k u p at = on.more r.set.id _ at

      back : (k u p : ℕ) → Voted h' r.set.id k u p → Voted h r.set.id k u p
      back k u p at = subst (λ (l : List Entry). ForAll (record { kind = suc k; sender = r.set.id; view = u; body = Plan p }) ∈ l) same at

  -- The vault keeps another's frame.
  pub heard_good : {h : Past} {r : Record} (x : Frame) → x.sender ≢ r.set.id → (c.keeps x.sender ≡ true → Fine h x.sender x) → Good h r
      → Good h (keep x r)
  unfolding keep
  heard_good {h} {r} x other fine g = record {
    vaults = g.vaults;
    plan = g.plan;
    now = g.now;
    below = g.below;
    once = g.once;
    highest = λ k low. subst (Tops (Voted h r.set.id k)) (sym (owns_row k)) (g.highest k low);
    previous = λ k has. subst (λ (o : Option Vote). Tops (Other (Voted h r.set.id k) o) (r.previous k)) (sym (owns_row k)) (g.previous k has);
    kept = kept_by h x r.kept fine g.kept;
    told = g.told;
  }
    where
      owns_row : (k : ℕ) → vote_of (keep x r) k r.set.id ≡ vote_of r k r.set.id
      owns_row k = ap (λ (o : Option Frame). each o (λ y. vote_by y.view y.body)) (keep_other_sender x r.kept (suc k) r.set.id other)

  -- The vault comes back with its own row alone: what it sent is there, and of others nothing is left to be wrong.
  pub alone_good : {h : Past} {r : Record} → Good h r → Good h (alone r)
  unfolding alone
  alone_good {h} {r} g = record {
    vaults = g.vaults;
    plan = g.plan;
    now = g.now;
    below = g.below;
    once = g.once;
    highest = λ k low. subst (Tops (Voted h r.set.id k)) (sym (alone_vote r k)) (g.highest k low);
    previous = λ k has. subst (λ (o : Option Vote). Tops (Other (Voted h r.set.id k) o) (r.previous k)) (sym (alone_vote r k)) (g.previous k has);
    kept = λ k j x e keeps. g.kept k j x (alone_was r k j e) keeps;
    told = g.told;
  }

-- Where all plans count as begun, every proposal is reasoned.
pub any_seed : (c : ContentsSetting) → Seed c (λ p. Unit {0})
any_seed c h r g p e = own tt
