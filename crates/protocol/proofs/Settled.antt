-- After a call nothing is left to do: a second pass would write nothing and leave the record as it is.
-- Each step, once it has acted, has nothing to do; and no later step gives it anything, as the later steps change only kinds that
-- it does not read. What each step reads is said once (`same_a` to `same_vote`), and an act's own kind is the only one that it changes.
-- Assumes nothing.
use Prim.Native.Nat.{ℕ, zero, suc, ◌+◌, ◌*◌, ◌≤◌, ◌<◌}
use mathlib.Core.Path.{◌≡◌, refl, sym, ◌∙◌, ap, subst, fun_ext}
use mathlib.Core.Logic.{◌≢◌, ◌⊎◌, inl, inr, ⊎_elim}
use mathlib.Core.Bool.{Bool, true, false, cond, not, ◌&&◌, and-false}
use mathlib.Core.List.{List, [], ◌∷◌}
use mathlib.Core.Option.{Option, none, some}
use native.Mathlib.Omega.{arith}
use native.Mathlib.Decide.{ℕ_discrete}
use lib.Dec.{leb, ltb, eqb}
use borrow.Author.Tests.{eq-eqb, leb-true, le-leb, lt-ltb, le-ltb, ltb-true, ltb-false, not-false}
use Rattle.rules.specs.Quorums.{is_quorum, is_blocking}
use Rattle.rules.proofs.Bools.{which, clash, both_split, both_join}
use Rattle.rules.proofs.Quorums.{enough_mono, blocking_by_weight}
use Rattle.rules.specs.Options.{is_none, holds}
use Rattle.rules.specs.Rules.{rule1, rule3}
use Rattle.rules.proofs.Laws.{holds_map, holds_where}
use Rattle.rules.proofs.Reports.{none≢some}
use Rattle.frame.specs.declared.Frame.{Frame}
use Rattle.protocol.specs.Record.{Record, when, each, highest, keeping, change_of, plan_now, sent_now, change_frame, vote_frame, report_frame}
use Rattle.protocol.specs.Record.{vaults, leader, leads}
use Rattle.settings.specs.declared.Settings.{Settings}
use Rattle.protocol.specs.Pass.{Act, ask, enter, cast, decide, entered, does, asked, is_news, act_a, can_enter, act_b, may_propose, chosen, act_c}
use Rattle.protocol.specs.Pass.{approves, act_d, agreed, act_vote, act_h, Out, Step, taken, onward, pass, step_a, step_b, step_c, step_d, step_vote}
use Rattle.protocol.specs.Pass.{step_h, from_c, from_a}
use Rattle.protocol.specs.Calls.{Call, accepted, answer, fresh, started, keep, heard, wanted, timed_out}
use Rattle.protocol.specs.Settled.{AlwaysSettled}
use Rattle.protocol.specs.Asked.{HighestOfAll, NoViewMissed}
use Rattle.protocol.proofs.Tables.{keep_same, keep_other_kind, keep_was, each_some, each_none, each_was, when_some, when_none, when_false, highest_has}
use Rattle.protocol.proofs.Tables.{highest_most, highest_none}
use Rattle.protocol.proofs.Asked.{asked_highest}
use Rattle.protocol.proofs.Size.{act_is}
use Rattle.protocol.proofs.Good.{vote_cast}
use Rattle.protocol.proofs.Went.{accepted_by}
use Rattle.protocol.proofs.Passes.{pass_none, pass_more}

-- ---- what each step reads

-- The kept frames of one kind, by sender.
abbrev Row : Type 0
Row = ℕ → Option Frame

-- A record of which only these parts are read.
abbrev seen : Settings → ℕ → ℕ → (ℕ → Row) → Record
seen s begin v kept = record { set = s; start = begin; view = v; kept = kept; previous = λ k. none; decision = none }

-- The two records agree on settings and view, and on the kinds that the step reads.
module _ (r t : Record) (set : t.set ≡ r.set) (view : t.view ≡ r.view) where
  -- Of the kept frames, step A reads the view-changes only.
  same_a : t.kept 6 ≡ r.kept 6 → act_a t ≡ act_a r
  same_a row z = act_a (seen (set z) 0 (view z) (λ k. row z))

  -- So does step B.
  same_b : t.kept 6 ≡ r.kept 6 → act_b t ≡ act_b r
  same_b row z = act_b (seen (set z) 0 (view z) (λ k. row z))

  -- Step C reads the starting plan, the proposals and the suggests.
  same_c : t.start ≡ r.start → t.kept 1 ≡ r.kept 1 → t.kept 7 ≡ r.kept 7 → act_c t ≡ act_c r
  same_c begin own suggests z = act_c (seen (set z) (begin z) (view z) (λ k. cond (eqb k 1) (own z) (suggests z)))

  -- Step D reads the proposals, vote-1 and the proofs.
  same_d : t.kept 1 ≡ r.kept 1 → t.kept 2 ≡ r.kept 2 → t.kept 8 ≡ r.kept 8 → act_d t ≡ act_d r
  same_d proposals own proofs z = act_d (seen (set z) 0 (view z) (λ k. cond (eqb k 1) (proposals z) (cond (eqb k 2) (own z) (proofs z))))

  -- Steps E to G read the votes that they count and the ones that they send.
  same_vote : (k : ℕ) → k < 3 → t.kept (suc (suc k)) ≡ r.kept (suc (suc k)) → t.kept (suc (suc (suc k))) ≡ r.kept (suc (suc (suc k)))
      → act_vote t (suc k) ≡ act_vote r (suc k)
  unfolding agreed
  same_vote zero low votes own = λ z. act_vote (seen (set z) 0 (view z) (λ k. cond (eqb k 2) (votes z) (own z))) 1
  same_vote (suc zero) low votes own = λ z. act_vote (seen (set z) 0 (view z) (λ k. cond (eqb k 3) (votes z) (own z))) 2
  same_vote (suc (suc zero)) low votes own = λ z. act_vote (seen (set z) 0 (view z) (λ k. cond (eqb k 4) (votes z) (own z))) 3
  same_vote (suc (suc (suc k))) low votes own = absurd (omega arith)

-- ---- what acts change

-- A vote changes only its own kind.
cast_kind : (r : Record) (k p h : ℕ) → suc k ≢ h → (does r (cast k p)).kept h ≡ r.kept h
unfolding does
cast_kind r k p h other = fun_ext (λ j. keep_other_kind (vote_frame r k p) r.kept h j other)

-- Entering a view changes no view-change.
enter_kind : (r : Record) (w : ℕ) → (does r (enter w)).kept 6 ≡ r.kept 6
unfolding does
enter_kind r w = fun_ext (λ j. go (leads r w) j)
  where
    proof : (j : ℕ) → keeping (report_frame r rule3 w) r.kept 6 j ≡ r.kept 6 j
    proof j = keep_other_kind (report_frame r rule3 w) r.kept 6 j (λ (e : 8 ≡ 6). omega arith)

    go : (b : Bool) (j : ℕ) → entered r w b 6 j ≡ r.kept 6 j
    go true j = keep_other_kind (report_frame r rule1 w) (keeping (report_frame r rule3 w) r.kept) 6 j (λ (e : 7 ≡ 6). omega arith) ∙ proof j
    go false j = proof j

-- The vote is sent now.
cast_sent : (r : Record) (k p : ℕ) → sent_now (does r (cast k p)) k ≡ true
unfolding does
cast_sent r k p = rw (vote_cast r k p, eq-eqb r.view r.view refl)

-- ---- each step after its own act

-- Entering a view gives step A nothing to do: the view is higher and the view-changes are the same.
enter_a : (r : Record) (w : ℕ) → r.view < w → act_a r ≡ none → act_a (does r (enter w)) ≡ none
unfolding does
enter_a r w later e = ap (λ (row : Row). act_a (seen r.set 0 w (λ k. row))) (enter_kind r w) ∙ each_none asks _ (λ x is. when_false (is_news t x) (some (ask x))
    (lower x (when_none (is_news r x) (ask x) (each_was asks _ x e is))))
  where
    asks : Option ℕ
    asks = highest (asked r is_blocking) (change_of r) r.set.n

    t : Record
    t = seen r.set 0 w r.kept

    lower : (x : ℕ) → is_news r x ≡ false → is_news t x ≡ false
    lower x e = go (ltb r.view x) refl e
      where
        go : (b : Bool) → ltb r.view x ≡ b → (b && not (holds (leb x) (change_of r r.set.id))) ≡ false → is_news t x ≡ false
        go true d e = rw e (and-false (ltb w x))
        go false d e = let low : x ≤ r.view = ltb-false r.view x d in rw (le-ltb w x (omega arith))

-- The view that A asked for is the highest that enough ask for, also with the own view-change.
own_a : (r : Record) (w : ℕ) → highest (asked r is_blocking) (change_of r) r.set.n ≡ some w → act_a (does r (ask w)) ≡ none
unfolding does
own_a r w top = each_none (highest (asked t is_blocking) (change_of t) r.set.n) _
    (λ x is. when_false (is_news t x) (some (ask x)) (rw (own, le-leb x w (most x is)) (and-false (ltb r.view x))))
  where
    t : Record
    t = does r (ask w)

    own : change_of t r.set.id ≡ some w
    own = ap (λ (o : Option Frame). each o (λ x. some x.view)) (keep_same (change_frame r w) r.kept)

    -- A view-change of t is for w, or was kept before.
    old : (x j : ℕ) → w < x → change_of t j ≡ some x → change_of r j ≡ some x
    old x j above e =
        let (y, is, v) = each_some (t.kept 6 j) _ e in
        ⊎_elim (λ (kind, sender, same). absurd (let wv : w ≡ y.view = ap (λ (z : Frame). z.view) same in let vx : y.view ≡ x = cc in omega arith))
        (λ was. ap (λ (o : Option Frame). each o (λ x. some x.view)) was ∙ v) (keep_was (change_frame r w) r.kept 6 j is)

    -- Who asks for a view above w, or a later one, asked before.
    within : (x : ℕ) → w < x → (j : ℕ) → j < r.set.n → holds (leb x) (change_of t j) ≡ true → holds (leb x) (change_of r j) ≡ true
    within x above j low h =
        let (y, is, later) = holds_where (change_of t j) (leb x) h in
        let was : change_of r j ≡ some y = old y j (omega (arith, leb-true x y later)) is in
        rw (was, later)

    most : (x : ℕ) → highest (asked t is_blocking) (change_of t) r.set.n ≡ some x → x ≤ w
    most x is = go (which (ltb w x))
      where
        go : (ltb w x ≡ true) ⊎ (ltb w x ≡ false) → x ≤ w
        go (inr e) = ltb-false w x e
        go (inl e) =
            let above : w < x = ltb-true w x e in
            let (enough, found) = highest_has (asked t is_blocking) (change_of t) r.set.n is in
            let (j, low, at) = found in
            let before : asked r is_blocking x ≡ true =
            enough_mono (vaults r) (is_blocking (vaults r)) (blocking_by_weight (vaults r))
            (λ j. holds (leb x) (change_of t j)) (λ j. holds (leb x) (change_of r j)) (within x above) enough in
            let (z, is-top, le) = highest_most (asked r is_blocking) (change_of r) r.set.n j x low (old x j above at) before in
            let same : z ≡ w = cc in
            omega arith

-- No view is above the one that B entered.
own_b : (r : Record) (w : ℕ) → highest (can_enter r) (change_of r) r.set.n ≡ some w → act_b (does r (enter w)) ≡ none
unfolding does
own_b r w top =
    ap (λ (row : Row). act_b (seen r.set 0 w (λ k. row))) (enter_kind r w)
    ∙ each_none (highest (can_enter t) (change_of r) r.set.n) _ (λ x is. absurd (higher x is))
  where
    t : Record
    t = seen r.set 0 w r.kept

    up : r.view < w
    up = ltb-true r.view w (both_split (ltb r.view w) _ (highest_has (can_enter r) (change_of r) r.set.n top).0).0

    higher : (x : ℕ) → highest (can_enter t) (change_of r) r.set.n ≡ some x → ⊥
    higher x is =
        let (can, found) = highest_has (can_enter t) (change_of r) r.set.n is in
        let (j, low, at) = found in
        let (over, enough) = both_split (ltb w x) (asked r is_quorum x) can in
        let l : w < x = ltb-true w x over in
        let (z, is-top, le) = highest_most (can_enter r) (change_of r) r.set.n j x low at
        (both_join (ltb r.view x) (asked r is_quorum x) (lt-ltb r.view x (omega (arith, up))) enough) in
        let same : z ≡ w = cc in
        omega arith

-- ---- one step after the other

-- The first n steps have nothing to do.
pub record Done (n : ℕ) (r : Record) : Type 0 where
  pub a : 1 ≤ n → act_a r ≡ none
  pub b : 2 ≤ n → act_b r ≡ none
  pub c : 3 ≤ n → act_c r ≡ none
  pub d : 4 ≤ n → act_d r ≡ none
  pub votes : (k : ℕ) → k < 3 → k + 5 ≤ n → act_vote r (suc k) ≡ none
  pub h : 8 ≤ n → act_h r ≡ none

-- Vote-k gives the steps before the one that sends it nothing to do.
cast_done : (n : ℕ) (r : Record) (k p : ℕ) → n ≤ k + 2 → k < 5 → Done n r → Done n (does r (cast k p))
unfolding does
cast_done n r k p low five q = record {
  a = λ le. same_a r (does r (cast k p)) refl refl (cast_kind r k p 6 (λ (e : suc k ≡ 6). omega arith)) ∙ q.a le;
  b = λ le. same_b r (does r (cast k p)) refl refl (cast_kind r k p 6 (λ (e : suc k ≡ 6). omega arith)) ∙ q.b le;
  c =
      λ le. same_c r (does r (cast k p)) refl refl refl (cast_kind r k p 1 (λ (e : suc k ≡ 1). omega arith)) (cast_kind r k p 7 (λ (e : suc k ≡ 7). omega arith))
      ∙ q.c le;
  d = λ le. same_d r (does r (cast k p)) refl refl (cast_kind r k p 1 (λ (e : suc k ≡ 1). omega arith)) (cast_kind r k p 2 (λ (e : suc k ≡ 2). omega arith))
      (cast_kind r k p 8 (λ (e : suc k ≡ 8). omega arith)) ∙ q.d le;
  votes = λ m three le. same_vote r (does r (cast k p)) refl refl m three (cast_kind r k p (suc (suc m)) (λ (e : suc k ≡ suc (suc m)). omega arith))
      (cast_kind r k p (suc (suc (suc m))) (λ (e : suc k ≡ suc (suc (suc m))). omega arith)) ∙ q.votes m three le;
  h = λ le. absurd (omega arith);
}

-- Step by step: what was done stays done, and the step itself is.
abbrev Climbs : ℕ → Step → Type 0
Climbs n s = (r : Record) → Done n r → Done (suc n) (s r).left

-- Step A: once it has asked for a view, it has nothing to ask for.
climb_a : Climbs 0 step_a
unfolding step_a
climb_a r q = go (act_a r) refl
  where
    only : (t : Record) → act_a t ≡ none → Done 1 t
    only t e =
        record {
          a = λ le. e;
          b = λ le. absurd (omega arith);
          c = λ le. absurd (omega arith);
          d = λ le. absurd (omega arith);
          votes = λ k three le. absurd
              (omega arith);
          h = λ le. absurd (omega arith);
        }

    go : (o : Option Act) → act_a r ≡ o → Done 1 (taken r o).left
    go none e = only r e
    go (some x) e =
        let (w, top, g) = each_some (highest (asked r is_blocking) (change_of r) r.set.n) _ e in
        let (t, is) = when_some (is_news r w) (some (ask w)) g in
        let same : ask w ≡ x = cc in
        subst (λ (y : Act). Done 1 (does r y)) same (only (does r (ask w)) (own_a r w top))

-- Step B: entering a view gives A nothing to do, and no higher view can be entered.
climb_b : Climbs 1 step_b
unfolding step_b
climb_b r q = go (act_b r) refl
  where
    both : (t : Record) → act_a t ≡ none → act_b t ≡ none → Done 2 t
    both t a b =
        record {
          a = λ le. a;
          b = λ le. b;
          c = λ le. absurd (omega arith);
          d = λ le. absurd (omega arith);
          votes = λ k three le. absurd
              (omega arith);
          h = λ le. absurd (omega arith);
        }

    go : (o : Option Act) → act_b r ≡ o → Done 2 (taken r o).left
    go none e = both r (q.a (omega arith)) e
    go (some x) e =
        let (w, top, g) = each_some (highest (can_enter r) (change_of r) r.set.n) _ e in
        let same : enter w ≡ x = cc in
        let up : r.view < w = ltb-true r.view w (both_split (ltb r.view w) _ (highest_has (can_enter r) (change_of r) r.set.n top).0).0 in
        subst (λ (y : Act). Done 2 (does r y)) same (both (does r (enter w)) (enter_a r w up (q.a (omega arith))) (own_b r w top))

-- Step C: the proposal is sent now, so it proposes no more in this view.
climb_c : Climbs 2 step_c
unfolding step_c
climb_c r q = go (act_c r) refl
  where
    more : (t : Record) → Done 2 t → act_c t ≡ none → Done 3 t
    more t q e =
        record {
          a = λ le. q.a (omega arith);
          b = λ le. q.b (omega arith);
          c = λ le. e;
          d = λ le. absurd (omega arith);
          votes = λ k three le. absurd
              (omega arith);
          h = λ le. absurd (omega arith);
        }

    own : (p : ℕ) → act_c (does r (cast 0 p)) ≡ none
    own p = when_false (may_propose (does r (cast 0 p))) _ (rw (cast_sent r 0 p) (and-false (leads (does r (cast 0 p)) (does r (cast 0 p)).view)))

    go : (o : Option Act) → act_c r ≡ o → Done 3 (taken r o).left
    go none e = more r q e
    go (some x) e =
        let (t, g) = when_some (may_propose r) _ e in
        let (p, same) = act_is (chosen r) (λ p. true) (cast 0) g in
        subst (λ (y : Act). Done 3 (does r y)) same (more (does r (cast 0 p)) (cast_done 2 r 0 p (omega arith) (omega arith) q) (own p))

-- Step D: vote-1 is sent now.
climb_d : Climbs 3 step_d
unfolding step_d
climb_d r q = go (act_d r) refl
  where
    more : (t : Record) → Done 3 t → act_d t ≡ none → Done 4 t
    more t q e =
        record {
          a = λ le. q.a (omega arith);
          b = λ le. q.b (omega arith);
          c = λ le. q.c (omega arith);
          d = λ le. e;
          votes = λ k three le. absurd
              (omega arith);
          h = λ le. absurd (omega arith);
        }

    own : (p : ℕ) → act_d (does r (cast 1 p)) ≡ none
    own p = each_none (plan_now (does r (cast 1 p)) 0 (leader (does r (cast 1 p)) (does r (cast 1 p)).view)) _ (λ x is. rw (cast_sent r 1 p))

    go : (o : Option Act) → act_d r ≡ o → Done 4 (taken r o).left
    go none e = more r q e
    go (some x) e =
        let (p, same) = act_is (plan_now r 0 (leader r r.view)) (approves r) (cast 1) e in
        subst (λ (y : Act). Done 4 (does r y)) same (more (does r (cast 1 p)) (cast_done 3 r 1 p (omega arith) (omega arith) q) (own p))

-- Steps E to G: the vote is sent now.
climb_vote : (k : ℕ) → k < 3 → Climbs (k + 4) (step_vote (suc k))
unfolding step_vote
climb_vote k low r q = go (act_vote r (suc k)) refl
  where
    more : (t : Record) → Done (k + 4) t → act_vote t (suc k) ≡ none → Done (suc (k + 4)) t
    more t q e = record {
      a = λ le. q.a (omega arith);
      b = λ le. q.b (omega arith);
      c = λ le. q.c (omega arith);
      d = λ le. q.d (omega arith);
      votes = λ m three le. upto m three le (ℕ_discrete m k);
      h = λ le. absurd (omega arith);
    }
      where
        upto : (m : ℕ) → m < 3 → m + 5 ≤ suc (k + 4) → Dec (m ≡ k) → act_vote t (suc m) ≡ none
        upto m three le (yes is) = subst (λ (x : ℕ). act_vote t (suc x) ≡ none) (sym is) e
        upto m three le (no other) = q.votes m three (omega arith)

    own : (p : ℕ) → act_vote (does r (cast (suc (suc k)) p)) (suc k) ≡ none
    own p = each_none (agreed (does r (cast (suc (suc k)) p)) (suc k)) _ (λ x is. rw (cast_sent r (suc (suc k)) p))

    go : (o : Option Act) → act_vote r (suc k) ≡ o → Done (suc (k + 4)) (taken r o).left
    go none e = more r q e
    go (some x) e =
        let (p, same) = act_is (agreed r (suc k)) (λ p. not (sent_now r (suc (suc k)))) (cast (suc (suc k))) e in
        subst (λ (y : Act). Done (suc (k + 4)) (does r y)) same
        (more (does r (cast (suc (suc k)) p)) (cast_done (k + 4) r (suc (suc k)) p (omega arith) (omega arith) q) (own p))

-- Step H: something is decided, and it changes nothing else.
climb_h : Climbs 7 step_h
unfolding step_h does agreed
climb_h r q = go (act_h r) refl
  where
    more : (t : Record) → Done 7 t → act_h t ≡ none → Done 8 t
    more t q e = record {
      a = λ le. q.a (omega arith);
      b = λ le. q.b (omega arith);
      c = λ le. q.c (omega arith);
      d = λ le. q.d (omega arith);
      votes = λ k three le. q.votes k three (omega arith);
      h = λ le. e;
    }

    after : (p : ℕ) → Done 7 (does r (decide p))
    after p = record { a = q.a; b = q.b; c = q.c; d = q.d; votes = q.votes; h = λ le. absurd (omega arith) }

    own : (p : ℕ) → act_h (does r (decide p)) ≡ none
    own p = each_none (agreed (does r (decide p)) 4) _ (λ x is. refl)

    go : (o : Option Act) → act_h r ≡ o → Done 8 (taken r o).left
    go none e = more r q e
    go (some x) e =
        let (p, same) = act_is (agreed r 4) (λ p. is_none r.decision) decide e in
        subst (λ (y : Act). Done 8 (does r y)) same (more (does r (decide p)) (after p) (own p))

-- ---- passes

-- After a pass from C nothing is left to do, where A and B had nothing to do.
done_c : (r : Record) → Done 2 r → Done 8 (pass from_c r).left
unfolding pass
done_c r q = climb_h _ (climb_vote 2 (omega arith) _ (climb_vote 1 (omega arith) _ (climb_vote 0 (omega arith) _ (climb_d _ (climb_c r q)))))

-- After a pass from A nothing is left to do.
done_a : (r : Record) → Done 8 (pass from_a r).left
unfolding pass
done_a r = done_c _ (climb_b _ (climb_a r none_yet))
  where
    none_yet : Done 0 r
    none_yet =
        record {
          a = λ le. absurd (omega arith);
          b = λ le. absurd (omega arith);
          c = λ le. absurd (omega arith);
          d = λ le. absurd
              (omega arith);
          votes = λ k three le. absurd (omega arith);
          h = λ le. absurd (omega arith);
        }

-- On the record that a start begins with, A and B have nothing to do: no view-change is kept.
done_fresh : (s : Settings) (p : ℕ) → Done 2 (fresh s p)
done_fresh s p = record {
  a = λ le. ap (λ (o : Option ℕ). each o (λ w. when (is_news (fresh s p) w) (some (ask w)))) (highest_none (asked (fresh s p) is_blocking) s.n);
  b = λ le. ap (λ (o : Option ℕ). each o (λ w. some (enter w))) (highest_none (can_enter (fresh s p)) s.n);
  c = λ le. absurd (omega arith);
  d = λ le. absurd (omega arith);
  votes = λ k three le. absurd (omega arith);
  h = λ le. absurd (omega arith);
}

-- A step that does nothing, before others that do nothing.
quiet_step : (s : Step) (rest : List Step) (r : Record) → s r ≡ record { left = r; wrote = [] } → pass rest r ≡ record { left = r; wrote = [] }
    → pass (s ∷ rest) r ≡ record { left = r; wrote = [] }
quiet_step s rest r e f = pass_more s rest r ∙ ap (λ (o : Out). onward o.wrote (pass rest o.left)) e ∙ ap (onward []) f

-- A pass over a record with nothing left to do changes nothing and writes nothing.
pub quiet_pass : (r : Record) → Done 8 r → pass from_a r ≡ record { left = r; wrote = [] }
unfolding step_a step_b step_c step_d step_vote step_h
quiet_pass r q =
    quiet_step step_a _ r (ap (taken r) (q.a (omega arith))) (quiet_step step_b _ r (ap (taken r) (q.b (omega arith)))
    (quiet_step step_c _ r (ap (taken r) (q.c (omega arith))) (quiet_step step_d _ r (ap (taken r) (q.d (omega arith)))
    (quiet_step (step_vote 1) _ r (ap (taken r) (q.votes 0 (omega arith) (omega arith)))
    (quiet_step (step_vote 2) _ r (ap (taken r) (q.votes 1 (omega arith) (omega arith)))
    (quiet_step (step_vote 3) _ r (ap (taken r) (q.votes 2 (omega arith) (omega arith)))
    (quiet_step step_h [] r (ap (taken r) (q.h (omega arith))) (pass_none r))))))))

-- After every accepted call no step has anything to do.
pub call_done : (b : Option Record) (a : Call) (o : Out) → answer b a ≡ accepted o → Done 8 o.left
unfolding started heard timed_out
call_done =
    accepted_by (λ b a o. Done 8 o.left)
    (λ s p given. done_c (fresh s p) (done_fresh s p)) (λ r x given. done_a (keep x r)) (λ r v given. done_a (does r (ask (wanted r))))

-- So a further pass does nothing.
pub call_settles : AlwaysSettled
call_settles b a o e = quiet_pass o.left (call_done b a o e)

-- ---- no view is missed

module _ (r : Record) (x : ℕ) (above : r.view < x) where
  -- Where B has nothing to do, no quorum asks for a later view.
  none_entered : 3 * r.set.f < r.set.n → act_b r ≡ none → asked r is_quorum x ≡ false
  none_entered third quiet = go (highest (can_enter r) (change_of r) r.set.n) ((asked_highest r).1 third) quiet
    where
      go : (o : Option ℕ) → HighestOfAll (can_enter r) o → each o (λ w. some (enter w)) ≡ none → asked r is_quorum x ≡ false
      go (some w) top e = absurd (none≢some (sym e))
      go none top e = let off : (ltb r.view x && asked r is_quorum x) ≡ false = top x in rw (lt-ltb r.view x above) at off

  -- Where A has nothing to do, and a blocking set asks for a later view, the vault does.
  pub asks_too : act_a r ≡ none → asked r is_blocking x ≡ true → holds (leb x) (change_of r r.set.id) ≡ true
  asks_too quiet h = go (highest (asked r is_blocking) (change_of r) r.set.n) (asked_highest r).0 quiet
    where
      own : (w : ℕ) → x ≤ w → (ltb r.view w && not (holds (leb w) (change_of r r.set.id))) ≡ false → holds (leb x) (change_of r r.set.id) ≡ true
      own w le old =
          let known : not (holds (leb w) (change_of r r.set.id)) ≡ false = rw (lt-ltb r.view w (omega arith)) at old in
          holds_map (change_of r r.set.id) (leb w) (leb x) (λ y is later. le-leb x y (omega (arith, leb-true w y later))) (not-false _ known)

      go : (o : Option ℕ) → HighestOfAll (asked r is_blocking) o → each o (λ w. when (is_news r w) (some (ask w))) ≡ none
          → holds (leb x) (change_of r r.set.id) ≡ true
      go none top e = absurd (clash h (top x))
      go (some w) top e = own w (top.1 x h) (when_none (is_news r w) (ask w) e)

-- After every accepted call the vault is in every view that a quorum of its kept view-changes asks for, or beyond it; and it asks for as much as
-- a blocking set does.
pub no_view_missed : NoViewMissed
no_view_missed b a o e third x above =
    let q = call_done b a o e in
    (none_entered o.left x above third (q.b (omega arith)), asks_too o.left x above (q.a (omega arith)))
