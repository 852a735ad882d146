-- Demand 3: in a run any two decisions are for the same plan, and where all vaults keep the rules it is a plan of a start.
-- By induction over the list every record, and every one whose remnant is stored, is good for the past of the list (`invariant`): a cut and a
-- restart leave the past as it was, and a record with its own row alone is good where it was good before (`alone_good`). Only where a frame is
-- kept is the run's condition on frames used; loss, repetition and order never appear again. Then the votes written are a lawful
-- history (crate rules, Agree), and a decision has a quorum of vote-4.
-- Assumes nothing.
use Prim.Native.Nat.{ℕ, zero, suc, ◌*◌, ◌<◌}
use mathlib.Core.Path.{◌≡◌, refl, sym, ◌∙◌, ap, subst}
use mathlib.Core.Logic.{◌≢◌, inl, inr}
use mathlib.Core.Bool.{true, false}
use mathlib.Core.List.{List, [], ◌∷◌, ◌++◌}
use mathlib.Core.Option.{Option, none, some}
use native.Mathlib.Omega.{arith}
use native.Mathlib.Nat.{mod-lt}
use lib.Dec.{leb, eqb}
use borrow.Author.Tests.{eqb-false}
use Rattle.rules.specs.Sets.{Vaults, weigh, total}
use Rattle.rules.specs.inside.Mostly.{Mostly}
use Rattle.rules.proofs.Quorums.{weigh_none, weigh_rest}
use Rattle.rules.specs.Rules.{rule1}
use Rattle.rules.specs.inside.Law.{Exact, Reason, own, found, Lawful, Led, Locked}
use Rattle.rules.proofs.Agree.{locks_agree}
use Rattle.rules.proofs.Valid.{lock_began}
use Rattle.rules.proofs.Reports.{none≢some}
use Rattle.frame.specs.declared.Frame.{Frame}
use Rattle.frame.specs.Refusal.{Accepted, Refused}
use Rattle.frame.specs.Refusal.{first, link_rows, leader_of}
use Rattle.frame.proofs.Laws.{neither}
use Rattle.entry.specs.declared.Entry.{Entry}
use Rattle.entry.specs.declared.Entry.TheVariants.{ForAll, ForOne}
use Rattle.protocol.specs.Record.{Record}
use Rattle.protocol.specs.Tables.{put, ◌∈◌}
use Rattle.settings.specs.declared.Settings.{Settings}
use Rattle.protocol.specs.Pass.{Out}
use Rattle.protocol.specs.Calls.{record_rows, timer_rows, started, heard, timed_out, Call, start, frame, timer, short, refused, accepted}
use Rattle.protocol.specs.Calls.{unless, answer}
use Rattle.protocol.specs.Fed.{Readable}
use Rattle.settings.specs.Settings.{setting_rows}
use Rattle.protocol.specs.Alone.{alone}
use Rattle.protocol.specs.inside.Runs.{ContentsSetting, Event, made, ContentsItem, record_at, stored_at, written}
use Rattle.protocol.specs.inside.Runs.{ContentsSent, Fair, Comes, ContentsRun, nothing_yet, and_then, ContentsDecides}
use Rattle.protocol.specs.inside.Runs.{ContentsStarted, here, earlier}
use Rattle.protocol.specs.inside.Claim.{Demand3ByContents}
use Rattle.protocol.proofs.Tables.{put_other}
use Rattle.protocol.proofs.Past.{Past, Voted, ExactNow, Fine, Ground}
use Rattle.protocol.proofs.Past as Past'
use Rattle.protocol.proofs.Good.{onto, Good, Seed, chosen_seed, waits, alone_good, any_seed}
use Rattle.protocol.proofs.Items.{view_in, past, item, record_accepted, stored_accepted, past_accepted, Still, Again, Happens, went, stays, happens}
use Rattle.protocol.proofs.Items.{past_still, put_each}
use Rattle.protocol.proofs.Went.{none_given, unless_accepted, third_weight, Went, start_went, heard_went, timed_out_went}

-- Vaults that weigh something are some.
some_vault : (vs : Vaults) → 0 < total vs → 0 < vs.n
some_vault vs more = go vs.n more
  where
    go : (n : ℕ) → 0 < weigh vs.weight (λ i. true) n → 0 < n
    go zero more = absurd (omega (arith, weigh_none vs.weight (λ i. true)))
    go (suc n) more = omega arith

module _ (c : ContentsSetting) (Began : ℕ → Type 0) where
  -- Less than a third of the weight may break the rules: so say the settings of every accepted start.
  abbrev Third : Type 0
  Third = 3 * c.vaults.f < total c.vaults

  -- The record is vault i's own, and good for the past of the list.
  abbrev pub OwnGood : List ContentsItem → ℕ → Record → Type 0
  OwnGood l i r = (r.set.id ≡ i) × Third × Good c Began (past l) r

  -- Every record, and every one whose remnant is stored, is its vault's own and good; where nothing is stored nothing was written; and only
  -- rule-keepers are called.
  pub record Inv (l : List ContentsItem) : Type 0 where
    pub good : (i : ℕ) (r : Record) → record_at l i ≡ some r → OwnGood l i r
    pub stored : (i : ℕ) (r : Record) → stored_at l i ≡ some r → OwnGood l i r
    pub blank : (i : ℕ) → stored_at l i ≡ none → written l i ≡ []
    pub kept : (i : ℕ) (e : Entry) → e ∈ written l i → c.keeps i ≡ true

  -- ---- what is written

  module _ {l : List ContentsItem} (v : Inv l) where
    -- A vault that has written something has a remnant stored, of a record that is good.
    author : (i : ℕ) (e : Entry) → e ∈ written l i → (r : Record) × OwnGood l i r
    author i e at = go (stored_at l i) refl
      where
        go : (b : Option Record) → stored_at l i ≡ b → (r : Record) × OwnGood l i r
        go none is = elim (subst (λ (es : List Entry). e ∈ es) (v.blank i is) at) [ ]
        go (some r) is = (r, v.stored i r is)

    -- Every entry of the run says what is so.
    told_at : (i : ℕ) (e : Entry) → e ∈ written l i → Past'.Told c Began (past l) i e
    told_at i e at =
        let (r, (id, third, g)) = author i e at in
        subst (λ (j : ℕ). e ∈ written l j → Past'.Told c Began (past l) j e) id (g.told e) at

    -- No vault sent one vote twice in a view, for two plans.
    pub once_at : (i k w p q : ℕ) → Voted (past l) i k w p → Voted (past l) i k w q → p ≡ q
    once_at i k w p q x y =
        let (r, (id, third, g)) = author i _ x in
        subst (λ (j : ℕ). Voted (past l) j k w p → Voted (past l) j k w q → p ≡ q) id (g.once k w p q) x y

    -- A frame of a rule-keeper, as the run lets it come, was rightly sent.
    sent_fine : (i : ℕ) (x : Frame) → ContentsSent l i x → Fine (past l) x.sender x
    sent_fine i x (inl at) = (told_at x.sender (ForAll x) at).0
    sent_fine i x (inr at) = told_at x.sender (ForOne i x) at

  -- ---- one more call

  -- An accepted frame does not come from the vault itself.
  others_frame : (i : ℕ) (x : Frame) → Readable c.vaults.n i x → x.sender ≢ i
  others_frame i x read =
      eqb-false x.sender i (neither (leb c.vaults.n x.sender) (eqb x.sender i)
      (none_given (link_rows x.sender x.sender c.vaults.n i) read.link).0).1

  -- A refused call is no accepted one.
  never : {A : Type 0} {k : ℕ} {o : Out} → refused k ≡ accepted o → A
  never e = let z : ◌≡◌ {A = ℕ} 0 1 = cc in absurd (omega arith)

  -- An accepted call, as the run lets it come, leaves a good record and a later past.
  call_went : Seed c Began → {l : List ContentsItem} (v : Inv l) (i : ℕ) (a : Call) → ((s : Settings) (p : ℕ) → a ≡ start s p → Began p) → Fair c l i a
      → (o : Out)
      → answer (record_at l i) a ≡ accepted o
      → Third × Went c Began (past l) i o
  unfolding answer
  call_went seed {l} v i a began fair o is = go a (record_at l i) refl began fair is
    where
      go : (a : Call) (b : Option Record) → record_at l i ≡ b → ((s : Settings) (p : ℕ) → a ≡ start s p → Began p) → Fair c l i a → answer b a ≡ accepted o
          → Third × Went c Began (past l) i o
      go short b e began fair is = never is
      go (start s p) (some r) e began fair is = never is
      go (frame x) none e began fair is = never is
      go (timer w) none e began fair is = never is
      go (frame (Refused k)) (some r) e began fair is = never is
      go (start s p) none e began fair is =
          let (same-vaults, id, empty) = fair o (ap (λ (b : Option Record). answer b (start s p)) e ∙ is) in
          let tested : unless (first (setting_rows s)) (started s p) ≡ accepted o = is in
          let (given, same) = unless_accepted (first (setting_rows s)) (started s p) tested in
          let third : Third = subst (λ (vs : Vaults). 3 * vs.f < total vs) same-vaults (third_weight s given) in
          let blank : written l s.id ≡ [] = ap (written l) id ∙ v.blank i empty in
          let zero_view : view_in (stored_at l s.id) ≡ 0 = ap (λ (j : ℕ). view_in (stored_at l j)) id ∙ ap view_in empty in (
            third,
            subst (λ (u : Out). Went c Began (past l) i u) same
                (subst (λ (j : ℕ). Went c Began (past l) j (started s p)) id
                (start_went c Began seed (past l) s p same-vaults (began s p refl) blank zero_view)),
          )
      go (frame (Accepted x)) (some r) e began fair is =
          let (read, sent) = fair in
          let (given, same) = unless_accepted (first (record_rows r x)) (heard r x) is in
          let (id, third, g) = v.good i r e in
          let apart : x.sender ≢ r.set.id = λ (z : x.sender ≡ r.set.id). others_frame i x read (z ∙ id) in (
            third,
            subst (λ (u : Out). Went c Began (past l) i u) same
                (subst (λ (j : ℕ). Went c Began (past l) j (heard r x)) id
                (heard_went c Began seed (past l) r x apart (λ keeps. sent_fine v i x (sent keeps)) g)),
          )
      go (timer w) (some r) e began fair is =
          let (given, same) = unless_accepted (first (timer_rows r w)) (timed_out r) is in
          let (id, third, g) = v.good i r e in
          let room : r.view ≢ 4294967295 = eqb-false r.view 4294967295 (none_given (timer_rows r w) given).1.0 in (
            third,
            subst (λ (u : Out). Went c Began (past l) i u) same
                (subst (λ (j : ℕ). Went c Began (past l) j (timed_out r)) id (timed_out_went c Began seed (past l) r room g)),
          )

  -- The invariant holds before any call: all is blank.
  inv_none : Inv []
  unfolding record_at stored_at written
  inv_none = record { good = λ i r e. absurd (none≢some e); stored = λ i r e. absurd (none≢some e); blank = λ i e. refl; kept = λ i e at. elim at [ ] }

  -- What a table says at a place, where the table is another one.
  there : {A : Type 0} {t u : ℕ → A} {x : A} → t ≡ u → (j : ℕ) → t j ≡ x → u j ≡ x
  there same j e = ap (λ (f : ℕ → _). f j) (sym same) ∙ e

  module _ {l : List ContentsItem} (v : Inv l) (i : ℕ) where
    -- A record that is there again is good: what the own row says was sent, and the rest is gone.
    again_good : (r : Record) → Again l i r → OwnGood l i r
    unfolding alone
    again_good r (inl old) = v.good i r old
    again_good r (inr (s, is, same)) = let (id, third, g) = v.stored i s is in subst (OwnGood l i) same (id, third, alone_good c Began g)

    -- A refused call, a cut and a restart keep the invariant: the past stays, and the record is good or none.
    inv_still : {x : Event} (b : Option Record) → Still l i x b → ((r : Record) → b ≡ some r → Again l i r) → Inv (item l i x ∷ l)
    inv_still {x} b s again = record {
      good = λ j r e. later j r (put_each (λ j b. (r : Record) → b ≡ some r → OwnGood l j r) i b (record_at l) (λ r e. again_good r (again r e))
          (λ j other. v.good j) j r (there s.records j e));
      stored = λ j r e. later j r (v.stored j r (there s.stores j e));
      blank = λ j e. ap (λ (t : ℕ → List Entry). t j) s.entries ∙ v.blank j (there s.stores j e);
      kept = λ j e at. v.kept j e (subst (λ (t : ℕ → List Entry). e ∈ t j) s.entries at);
    }
      where
        later : (j : ℕ) (r : Record) → OwnGood l j r → OwnGood (item l i x ∷ l) j r
        later j r = subst (λ (h : Past). (r.set.id ≡ j) × Third × Good c Began h r) (sym (past_still l i s))

    -- An accepted call keeps it: its vault's record is good, and the other vaults only see a later past.
    inv_accepted : (a : Call) (o : Out) → c.keeps i ≡ true → answer (record_at l i) a ≡ accepted o → Third → Went c Began (past l) i o
        → Inv (item l i (made a) ∷ l)
    inv_accepted a o keeps is third w = record {
      good = λ j r e. good_at (record_at l) v.good j r (there (record_accepted l i a o is) j e);
      stored = λ j r e. good_at (stored_at l) v.stored j r (there (stored_accepted l i a o is) j e);
      blank = λ j e. blank_at j (there (stored_accepted l i a o is) j e);
      kept = λ j e at. kept_at j e (subst (λ (h : Past). e ∈ h.wrote j) after at);
    }
      where
        l' : List ContentsItem
        l' = item l i (made a) ∷ l

        after : past l' ≡ onto (past l) i o
        after = past_accepted l i a o is

        left : (r : Record) → some o.left ≡ some r → OwnGood l' i r
        left r e =
            let its : o.left ≡ r = cc in (
              ap (λ (z : Record). z.set.id) (sym its) ∙ w.id,
              third,
              subst (λ (h : Past). Good c Began h r) (sym after) (subst (λ (z : Record). Good c Began (onto (past l) i o) z) its w.good),
            )

        other : (j : ℕ) → eqb i j ≡ false → (r : Record) → OwnGood l j r → OwnGood l' j r
        other j apart r (id, third, g) =
            let far : i ≡ r.set.id → ⊥ = λ (z : i ≡ r.set.id). eqb-false i j apart (z ∙ id) in (
              id,
              third,
              subst (λ (h : Past). Good c Began h r) (sym after)
                  (waits c Began w.later (put_other i _ (written l) r.set.id far) (put_other i _ (past l).at r.set.id far) g),
            )

        good_at : (t : ℕ → Option Record) → ((j : ℕ) (r : Record) → t j ≡ some r → OwnGood l j r) → (j : ℕ) (r : Record)
            → put i (some o.left) t j ≡ some r → OwnGood l' j r
        good_at t old = put_each (λ j b. (r : Record) → b ≡ some r → OwnGood l' j r) i (some o.left) t left (λ j apart r e. other j apart r (old j r e))

        blank_at : (j : ℕ) → put i (some o.left) (stored_at l) j ≡ none → written l' j ≡ []
        blank_at = put_each (λ j b. b ≡ none → written l' j ≡ []) i (some o.left) (stored_at l) (λ e. absurd (none≢some (sym e)))
            (λ j apart e. ap (λ (h : Past). h.wrote j) after ∙ rw apart (v.blank j e))

        kept_at : (j : ℕ) (e : Entry) → e ∈ (onto (past l) i o).wrote j → c.keeps j ≡ true
        kept_at = put_each (λ j es. (e : Entry) → e ∈ es → c.keeps j ≡ true) i (written l i ++ o.wrote) (written l) (λ e at. keeps) (λ j apart. v.kept j)

  -- In every run all records are good for the past of the list.
  pub invariant : Seed c Began → {l : List ContentsItem} → ContentsRun c l → ((p : ℕ) → ContentsStarted p l → Began p) → Inv l
  invariant seed nothing_yet began = inv_none
  invariant seed (and_then {l = l} {x = x} run keeps comes) began =
      go (invariant seed run (λ p s. began p (earlier s))) x.event comes (happens l i c x.event comes) began
    where
      i : ℕ
      i = x.at

      go : Inv l → (y : Event) → Comes c l i y → Happens l i y → ((p : ℕ) → ContentsStarted p (item l i y ∷ l) → Began p) → Inv (item l i y ∷ l)
      go v y comes (stays b s again) began = inv_still v i b s again
      go v y comes (went a o is) began =
          let (third, w) = call_went seed v i a (λ s p e. began p (here {s = s} (ap made e) (ap (answer (record_at l i)) (sym e) ∙ is))) comes o is in
          inv_accepted v i a o keeps is third w

  -- ---- the history is lawful

  module _ {l : List ContentsItem} (v : Inv l) where
    -- Every vote of the run has its ground.
    ground_at : {i k w p : ℕ} → Voted (past l) i k w p → Ground c Began (past l) k w p
    ground_at {i} {k} {w} {p} at = (told_at v i _ at).1 k p refl refl

    -- The votes of the run are a lawful history: what Agree in crate rules asks of voters.
    lawful : Lawful c.vaults c.keeps (Voted (past l))
    lawful = record {
      once = λ {i} {v = w} {p} {q} keeps x y. once_at v i 1 w p q x y;
      vouched = λ keeps x. let why = (ground_at x).0 in record { proofs = why.proofs; from = λ j r h e. (why.from j r h e).1; safe = why.safe };
      chain = λ k keeps x. ground_at x;
    }

    -- And a led one: what Agree in crate rules asks of leaders.
    led : Third → Led c.vaults c.keeps (Voted (past l)) Began
    led third = record {
      leader = λ w. leader_of w c.vaults.n;
      number = λ w. mod-lt w (some_vault c.vaults (omega arith));
      reason = λ keeps x leads. exactly (ground_at ((ground_at x).1 leads));
    }
      where
        exactly : {w p : ℕ} → Reason c.vaults c.keeps (ExactNow (past l) rule1 w) Began w p
            → Reason c.vaults c.keeps (λ j. Exact (Voted (past l) j) rule1 w) Began w p
        exactly (own b) = own b
        exactly (found s rs from unsafe safe) = found s rs (λ j r h e. (from j r h e).1) unsafe safe

    -- A decision has a quorum of vote-4, as far as rule-keepers go; and f is below a third, as a start was accepted.
    decided : (i : ℕ) {p : ℕ} → ContentsDecides l i p → (w : ℕ) × Third × Locked c.vaults c.keeps (Voted (past l)) w p
    decided i (w, at) = let (r, (id, third, g)) = author v i _ at in (w, third, told_at v i _ at)

    -- The run's rule-keepers are as the laws on quorums ask.
    mostly : Third → Mostly c.vaults c.keeps
    mostly third = record { third = third; others = omega (arith, c.most, weigh_rest c.vaults.weight c.keeps c.vaults.n) }

-- ---- demand 3

-- Any two decisions are for the same plan: whatever plans leaders propose.
pub runs_agree : (c : ContentsSetting) (l : List ContentsItem) → ContentsRun c l → (i j p q : ℕ) → ContentsDecides l i p → ContentsDecides l j q → p ≡ q
runs_agree c l run i j p q a b =
    let (u, third, x) = decided c (λ p. Unit {0}) v i a in
    let (w, third', y) = decided c (λ p. Unit {0}) v j b in
    locks_agree (mostly c (λ p. Unit {0}) v third) (lawful c (λ p. Unit {0}) v) x y
  where
    v : Inv c (λ p. Unit {0}) l
    v = invariant c (λ p. Unit {0}) (any_seed c) run (λ p s. tt)

-- If all vaults keep the rules, each decision's plan is that of an accepted start.
pub runs_valid : (c : ContentsSetting) (l : List ContentsItem) → ContentsRun c l → ((i : ℕ) → i < c.vaults.n → c.keeps i ≡ true) → (i p : ℕ)
    → ContentsDecides l i p → ContentsStarted p l
runs_valid c l run all i p a =
    let (u, third, x) = decided c (λ p. ContentsStarted p l) v i a in
    lock_began (mostly c (λ p. ContentsStarted p l) v third) all (lawful c (λ p. ContentsStarted p l) v) (led c (λ p. ContentsStarted p l) v third) x
  where
    v : Inv c (λ p. ContentsStarted p l) l
    v = invariant c (λ p. ContentsStarted p l) (chosen_seed c (λ p. ContentsStarted p l)) run (λ p s. s)

-- Demand 3 by contents: agreement and validity together.
pub demand3_by_contents : Demand3ByContents
demand3_by_contents c l run = record { agreement = runs_agree c l run; validity = runs_valid c l run }
