-- A whole pass, and each call, leaves the record good and the past later: by going on from act to act.
-- A start is the first thing that its vault writes, a frame is kept before the pass, and a timer's view-change is an act.
-- Assumes nothing.
use Prim.Native.Nat.{ℕ, zero, suc, ◌*◌, ◌≤◌, ◌<◌}
use mathlib.Core.Path.{◌≡◌, refl, sym, ◌∙◌, ap, subst}
use mathlib.Core.Logic.{◌≢◌, ◌⊎◌, inl, inr}
use mathlib.Core.Bool.{Bool, true, false, cond}
use mathlib.Core.List.Memᴰ
use mathlib.Core.List.{List, [], ◌∷◌, ◌++◌, append-nil, append_assoc}
use mathlib.Core.Option.{Option, none, some}
use native.Mathlib.Omega.{arith}
use lib.Dec.{leb, ltb, eqb}
use borrow.Author.Tests.{eqb-true, leb-false, ltb-true}
use Rattle.rules.specs.Sets.{total}
use Rattle.rules.proofs.Bools.{which}
use Rattle.rules.proofs.Quorums.{total_equals}
use Rattle.rules.proofs.Reports.{none≢some}
use Rattle.frame.specs.declared.Frame.{Frame}
use Rattle.frame.specs.Refusal.{Accepted, Refused}
use Rattle.frame.specs.Refusal.{Row, row, first}
use Rattle.frame.proofs.Laws.{neither}
use Rattle.entry.specs.declared.Entry.{Entry}
use Rattle.protocol.specs.Record.{Record, change_of}
use Rattle.protocol.specs.Tables.{put, ◌∈◌}
use Rattle.settings.specs.declared.Settings.{Settings}
use Rattle.protocol.specs.Pass.{Act, ask, timer_entry, does, Out, Step, taken, onward, pass, from_c, from_a}
use Rattle.protocol.specs.Calls.{record_rows, timer_rows, fresh, started, keep, heard, wanted_from, wanted, timed_out}
use Rattle.protocol.specs.Calls.{Call, start, frame, timer, short, accepted, answer, unless}
use Rattle.settings.specs.Settings.{setting_rows}
use Rattle.settings.specs.Vaults.{vaults_of}
use Rattle.protocol.specs.inside.Runs.{ContentsSetting}
use Rattle.protocol.proofs.Tables.{put_same, put_again, put_own}
use Rattle.protocol.proofs.Past.{Past, Voted, Later, later_trans, Fine}
use Rattle.protocol.proofs.Past as Past'
use Rattle.protocol.proofs.Tops.{tops_none}
use Rattle.protocol.proofs.May.{May, Sure, done, and, sure_c, sure_a}
use Rattle.protocol.proofs.Good.{onto, Good, Seed, does_set, act_later, act_good, heard_good}

-- ---- tables of refusals

-- No row is given.
abbrev pub NoneGiven : List Row → Type 0
NoneGiven [] = Unit {0}
NoneGiven (row zero given ∷ rows) = Unit {0}
NoneGiven (row (suc k) given ∷ rows) = (given ≡ false) × NoneGiven rows

-- A table that gives no number has no row that applies.
pub none_given : (rows : List Row) → first rows ≡ 0 → NoneGiven rows
none_given [] e = tt
none_given (row zero given ∷ rows) e = tt
none_given (row (suc k) true ∷ rows) e = absurd (omega arith)
none_given (row (suc k) false ∷ rows) e = (refl, none_given rows e)

-- A call is accepted only where no row applies, and then leaves what it says.
pub unless_accepted : (k : ℕ) (o : Out) {o' : Out} → unless k o ≡ accepted o' → (k ≡ 0) × (o ≡ o')
unless_accepted zero o e = (refl, cc)
unless_accepted (suc k) o e = let z : ◌≡◌ {A = ℕ} 0 1 = cc in absurd (omega arith)

-- What holds of the three calls that can be accepted, each with a table that gives nothing, holds of every accepted call.
pub accepted_by : (P : Option Record → Call → Out → Type 0)
    → ((s : Settings) (p : ℕ) → first (setting_rows s) ≡ 0 → P none (start s p) (started s p))
    → ((r : Record) (x : Frame) → first (record_rows r x) ≡ 0 → P (some r) (frame (Accepted x)) (heard r x))
    → ((r : Record) (v : ℕ) → first (timer_rows r v) ≡ 0 → P (some r) (timer v) (timed_out r))
    → (b : Option Record) (a : Call) (o : Out) → answer b a ≡ accepted o → P b a o
unfolding answer
accepted_by P at_start at_frame at_timer b short o e = let z : ◌≡◌ {A = ℕ} 0 1 = cc in absurd (omega arith)
accepted_by P at_start at_frame at_timer none (frame x) o e = let z : ◌≡◌ {A = ℕ} 0 1 = cc in absurd (omega arith)
accepted_by P at_start at_frame at_timer none (timer v) o e = let z : ◌≡◌ {A = ℕ} 0 1 = cc in absurd (omega arith)
accepted_by P at_start at_frame at_timer (some r) (start s p) o e = let z : ◌≡◌ {A = ℕ} 0 1 = cc in absurd (omega arith)
accepted_by P at_start at_frame at_timer (some r) (frame (Refused k)) o e = let z : ◌≡◌ {A = ℕ} 0 1 = cc in absurd (omega arith)
accepted_by P at_start at_frame at_timer none (start s p) o e =
    let asked : unless (first (setting_rows s)) (started s p) ≡ accepted o = e in
    let (given, same) = unless_accepted (first (setting_rows s)) (started s p) asked in
    subst (λ (u : Out). P none (start s p) u) same (at_start s p given)
accepted_by P at_start at_frame at_timer (some r) (frame (Accepted x)) o e =
    let (given, same) = unless_accepted (first (record_rows r x)) (heard r x) e in
    subst (λ (u : Out). P (some r) (frame (Accepted x)) u) same (at_frame r x given)
accepted_by P at_start at_frame at_timer (some r) (timer v) o e =
    let (given, same) = unless_accepted (first (timer_rows r v)) (timed_out r) e in
    subst (λ (u : Out). P (some r) (timer v) u) same (at_timer r v given)

-- Row 6 leaves 3f below n.
pub third_of : (s : Settings) → first (setting_rows s) ≡ 0 → 3 * s.f < s.n
third_of s e = leb-false s.n (3 * s.f) (neither (eqb s.f 0) (leb s.n (3 * s.f)) (none_given (setting_rows s) e).1.0).1

-- Settings that pass are of vaults of which less than a third of the weight may break the rules.
pub third_weight : (s : Settings) → first (setting_rows s) ≡ 0 → 3 * (vaults_of s).f < total (vaults_of s)
third_weight s e = omega (arith, third_of s e, total_equals s.n s.f)

-- A timer's view-change is for a view above the current one.
pub wanted_may : (r : Record) → r.view ≢ 4294967295 → May r (ask (wanted r))
wanted_may r room = go (change_of r r.set.id) refl
  where
    go : (o : Option ℕ) → change_of r r.set.id ≡ o → May r (ask (wanted_from r.view o))
    go none e = (omega arith, inr (refl, room))
    go (some w) e = by (ltb r.view w) refl
      where
        by : (b : Bool) → ltb r.view w ≡ b → May r (ask (cond b w (suc r.view)))
        by true above = (ltb-true r.view w above, inl (r.set.id, e))
        by false below = (omega arith, inr (refl, room))

-- ---- the past of several answers

-- An answer that changes nothing leaves the past as it was.
onto_none : (h : Past) (i : ℕ) (r : Record) → h.at i ≡ r.view → onto h i (record { left = r; wrote = [] }) ≡ h
onto_none h i r now z = record { wrote = wrote z; at = at z }
  where
    wrote : put i (h.wrote i ++ []) h.wrote ≡ h.wrote
    wrote = ap (λ (l : List Entry). put i l h.wrote) (append-nil (h.wrote i)) ∙ put_own i h.wrote

    at : put i r.view h.at ≡ h.at
    at = ap (λ (v : ℕ). put i v h.at) (sym now) ∙ put_own i h.at

-- Two answers of one vault are one, with their entries end to end.
onto_twice : (h : Past) (i : ℕ) (o u : Out) → onto (onto h i o) i u ≡ onto h i (onward o.wrote u)
onto_twice h i o u z = record { wrote = wrote z; at = put_again i u.left.view o.left.view h.at z }
  where
    wrote : put i (put i (h.wrote i ++ o.wrote) h.wrote i ++ u.wrote) (put i (h.wrote i ++ o.wrote) h.wrote) ≡ put i
        (h.wrote i ++ (o.wrote ++ u.wrote)) h.wrote
    wrote =
        ap (λ (l : List Entry). put i (l ++ u.wrote) (put i (h.wrote i ++ o.wrote) h.wrote)) (put_same i (h.wrote i ++ o.wrote) h.wrote)
        ∙ put_again i ((h.wrote i ++ o.wrote) ++ u.wrote) (h.wrote i ++ o.wrote) h.wrote
        ∙ ap (λ (l : List Entry). put i l h.wrote) (append_assoc (h.wrote i) o.wrote u.wrote)

-- The same past is a later one.
later_same : {h g : Past} → g ≡ h → Later h g
later_same {h} e = subst (Later h) (sym e) (record { more = λ j e at. at; rises = λ j. omega arith; settled = λ j k u p low at. at })

module _ (c : ContentsSetting) (Began : ℕ → Type 0) where
  -- What a vault's answer o, after the past h, comes to.
  pub record Went (h : Past) (i : ℕ) (o : Out) : Type 0 where
    pub id : o.left.set.id ≡ i
    pub good : Good c Began (onto h i o) o.left
    pub later : Later h (onto h i o)

  -- An answer goes on from another.
  further : {h : Past} {i : ℕ} (o u : Out) → Later h (onto h i o) → Went (onto h i o) i u → Went h i (onward o.wrote u)
  further {h} {i} o u on w = record {
    id = w.id;
    good = subst (λ (g : Past). Good c Began g u.left) (onto_twice h i o u) w.good;
    later = subst (Later h) (onto_twice h i o u) (later_trans on w.later);
  }

module _ (c : ContentsSetting) (Began : ℕ → Type 0) (seed : Seed c Began) where
  -- A pass of lawful steps leaves the record good and the past later.
  pass_went : {steps : List Step} → Sure steps → (h : Past) (r : Record) → Good c Began h r → Went c Began h r.set.id (pass steps r)
  unfolding pass
  pass_went done h r g = record {
    id = refl;
    good = subst (λ (z : Past). Good c Began z r) (sym (onto_none h r.set.id r g.now)) g;
    later = later_same (onto_none h r.set.id r g.now);
  }
  pass_went (and {s = s} {l = rest} law sure) h r g =
      subst (λ (o : Out). Went c Began h r.set.id (onward o.wrote (pass rest o.left))) (sym (law.does r)) (go (law.act r) refl (pass_went sure))
    where
      go : (b : Option Act) → law.act r ≡ b → ((h : Past) (r : Record) → Good c Began h r → Went c Began h r.set.id (pass rest r))
          → Went c Began h r.set.id (onward (taken r b).wrote (pass rest (taken r b).left))
      go none e then = then h r g
      go (some a) e then = further c Began (taken r (some a)) (pass rest (does r a)) (act_later c Began g a (law.may r a e))
          (subst (λ (i : ℕ). Went c Began (onto h r.set.id (taken r (some a))) i (pass rest (does r a))) (ap (λ (s : Settings). s.id) (does_set r a))
          (then (onto h r.set.id (taken r (some a))) (does r a) (act_good c Began g a (law.may r a e) seed)))

  -- ---- the calls

  -- So does an accepted start: its timer entry is the first thing that the vault writes, and says nothing.
  pub start_went : (h : Past) (s : Settings) (p : ℕ) → vaults_of s ≡ c.vaults → Began p → h.wrote s.id ≡ [] → h.at s.id ≡ 0
      → Went c Began h s.id (started s p)
  unfolding started
  start_went h s p same began blank zero-view = further c Began first_out (pass from_c (fresh s p)) later (pass_went sure_c h₁ (fresh s p) good)
    where
      first_out : Out
      first_out = record { left = fresh s p; wrote = timer_entry (fresh s p) 0 ∷ [] }

      h₁ : Past
      h₁ = onto h s.id first_out

      only : (e : Entry) → e ∈ h₁.wrote s.id → e ≡ timer_entry (fresh s p) 0
      only e at =
          Memᴰ.eq_of_singleton (subst (λ (l : List Entry). e ∈ l)
          (put_same s.id _ h.wrote ∙ ap (λ (l : List Entry). l ++ (timer_entry (fresh s p) 0 ∷ [])) blank) at)

      silent : (k u q : ℕ) → ¬ Voted h₁ s.id k u q
      silent k u q at = let e = only _ at in let z : ◌≡◌ {A = ℕ} 0 1 = cc in omega arith

      good : Good c Began h₁ (fresh s p)
      good = record {
        vaults = same;
        plan = began;
        now = put_same s.id 0 h.at;
        below = λ k u q at. absurd (silent k u q at);
        once = λ k v q q' at at'. absurd (silent k v q at);
        highest = λ k low. tops_none (λ u q at. silent k u q at);
        previous = λ k has. tops_none (λ u q (at, o). silent k u q at);
        kept = λ k j x e. absurd (none≢some e);
        told = λ e at. subst (Past'.Told c Began h₁ s.id) (sym (only e at)) tt;
      }

      later : Later h h₁
      later = record {
        more = λ j e at. more j e (which (eqb s.id j)) at;
        rises = λ j. rises j (which (eqb s.id j));
        settled = λ j k u q low at. settled j k u q (which (eqb s.id j)) at;
      }
        where
          more : (j : ℕ) (e : Entry) → (eqb s.id j ≡ true) ⊎ (eqb s.id j ≡ false) → e ∈ h.wrote j → e ∈ h₁.wrote j
          more j e (inl same) at = elim (subst (λ (l : List Entry). e ∈ l) (ap h.wrote (sym (eqb-true s.id j same)) ∙ blank) at) [ ]
          more j e (inr other) at = rw other at

          rises : (j : ℕ) → (eqb s.id j ≡ true) ⊎ (eqb s.id j ≡ false) → h.at j ≤ h₁.at j
          rises j (inl same) = rw same (omega (arith, ap h.at (sym (eqb-true s.id j same)), zero-view))
          rises j (inr other) = rw other (omega arith)

          settled : (j k u q : ℕ) → (eqb s.id j ≡ true) ⊎ (eqb s.id j ≡ false) → Voted h₁ j k u q → Voted h j k u q
          settled j k u q (inl same) at = absurd (silent k u q (subst (λ (x : ℕ). Voted h₁ x k u q) (sym (eqb-true s.id j same)) at))
          settled j k u q (inr other) at = rw other at at

  -- So does a frame of another vault, which rightly sent it if it keeps the rules.
  pub heard_went : (h : Past) (r : Record) (x : Frame) → x.sender ≢ r.set.id → (c.keeps x.sender ≡ true → Fine h x.sender x) → Good c Began h r
      → Went c Began h r.set.id (heard r x)
  unfolding heard keep
  heard_went h r x other fine g = pass_went sure_a h (keep x r) (heard_good c Began x other fine g)

  -- So does an accepted timer: its view-change is an act, and then comes the pass.
  pub timed_out_went : (h : Past) (r : Record) → r.view ≢ 4294967295 → Good c Began h r → Went c Began h r.set.id (timed_out r)
  unfolding timed_out does
  timed_out_went h r room g =
      further c Began (taken r (some (ask (wanted r)))) (pass from_a (does r (ask (wanted r)))) (act_later c Began g (ask (wanted r)) (wanted_may r room))
      (pass_went sure_a (onto h r.set.id (taken r (some (ask (wanted r))))) (does r (ask (wanted r)))
      (act_good c Began g (ask (wanted r)) (wanted_may r room) seed))
