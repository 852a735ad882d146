-- Each frame that an accepted call writes is accepted, as itself, by every vault that it is for (document 01, 'Refusals, place by
-- place', 9 to 15, and 21 and 22). Each act is looked at once: what it writes has bytes, is the vault's own, passes 13, 14, 21 and 22 (`Sendable`), and
-- passes 15 at whom it is for, since a proposal is from its view's leader and a suggest goes only to its view's leader. The link is
-- the own number, which is below n and not the reader's, so 11 and 12 pass too.
-- Assumes nothing.
use Prim.Native.Nat.{ℕ, suc, ◌<◌}
use mathlib.Core.Path.{◌≡◌, refl, sym, ◌∙◌, subst}
use mathlib.Core.Logic.{◌≢◌, ◌⊎◌, inl, inr, ⊎_elim}
use mathlib.Core.Bool.{Bool, true, false}
use mathlib.Core.List.Memᴰ
use mathlib.Core.List.{List, [], ◌∷◌, ◌++◌}
use mathlib.Core.Option.{Option, none, some}
use native.Mathlib.Omega.{arith}
use lib.Dec.{eqb}
use borrow.Author.Tests.{eqb-true, eqb-false, eq-eqb, ne_eqb, lt-leb}
use Rattle.rules.proofs.Bools.{which}
use Rattle.rules.specs.Rules.{Rule, rule1, rule3}
use Rattle.frame.specs.declared.Frame.{Frame}
use Rattle.frame.specs.Refusal.{Accepted}
use Rattle.frame.specs.Format.{encode}
use Rattle.frame.specs.Valid.{Valid}
use Rattle.frame.specs.Refusal.{first, leader_of, misled, link_rows, content_rows, leader_rows, read_frame}
use Rattle.entry.specs.declared.Entry.{Entry}
use Rattle.entry.specs.declared.Entry.TheVariants.{ForAll, ForOne, Timer, Decision}
use Rattle.settings.specs.declared.Settings.{Settings}
use Rattle.settings.specs.Settings.{setting_rows}
use Rattle.protocol.specs.Record.{Record, leader, leads, change_frame, vote_frame, report_frame}
use Rattle.protocol.specs.Pass.{Act, ask, enter, cast, decide, does, timer_entry, suggest_entry, writes, Out, Step, taken, onward, pass}
use Rattle.protocol.specs.Calls.{record_rows, timer_rows, fresh, started, keep, heard, wanted, timed_out, Call, start, frame, timer, accepted, answer}
use Rattle.protocol.specs.Fed.{Readable, Fed}
use Rattle.protocol.specs.inside.Sound.{Ranged}
use Rattle.protocol.specs.Sound.{Sound}
use Rattle.protocol.specs.Tables.{◌∈◌}
use Rattle.protocol.specs.ReadsBack.{IsFor}
use Rattle.protocol.specs.inside.ReadsBack.{ContentsReadBack}
use Rattle.protocol.proofs.May.{May, Sure, done, and, sure_c, sure_a}
use Rattle.protocol.proofs.Good.{does_set}
use Rattle.protocol.proofs.Went.{none_given, accepted_by, wanted_may}
use Rattle.protocol.proofs.Slots.{Sendable}
use Rattle.protocol.proofs.Sound.{Whole, act_whole, id_below, change_goes, vote_goes, leads_first, report_goes, wish_width}
use Rattle.protocol.proofs.Read.{readable_accepted}
use Rattle.protocol.proofs.Proper.{fresh_whole, heard_whole}

-- ---- what is written

-- A frame of vault i of n that has bytes and passes 13 to 15, 21 and 22 at vault j.
pub record Goes (n i j : ℕ) (x : Frame) : Type 0 where
  pub below : i < n
  pub sender : x.sender ≡ i
  pub valid : Valid x
  pub content : first (content_rows x) ≡ 0
  pub leader : first (leader_rows x n j) ≡ 0

-- The frame of vault i's entry passes at whom it is for; one for a single vault is a suggest, for its view's leader.
abbrev pub Right : ℕ → ℕ → Entry → Type 0
Right n i (ForAll x) = (j : ℕ) → Goes n i j x
Right n i (ForOne j x) = Goes n i j x × ((x.kind ≡ 7) × (leader_of x.view n ≡ j))
Right n i (Timer v m) = Unit {0}
Right n i (Decision v p) = Unit {0}

-- All of vault i's entries pass at whom they are for.
abbrev pub AllRight : ℕ → ℕ → List Entry → Type 0
AllRight n i [] = Unit {0}
AllRight n i (e ∷ es) = Right n i e × AllRight n i es

module _ (n i : ℕ) where
  -- Entries that pass, after entries that pass.
  pub right_join : (es fs : List Entry) → AllRight n i es → AllRight n i fs → AllRight n i (es ++ fs)
  right_join [] fs a b = b
  right_join (e ∷ es) fs (v, a) b = (v, right_join es fs a b)

  -- Each of them passes.
  right_at : (es : List Entry) → AllRight n i es → (e : Entry) → e ∈ es → Right n i e
  right_at [] all e at = elim at [ ]
  right_at (d ∷ es) (this, rest) e at = ⊎_elim (λ is. subst (Right n i) (sym is) this) (right_at es rest e) (Memᴰ.cases_cons at)

  -- A frame among them that is for vault j passes at j.
  pub goes_for : (es : List Entry) → AllRight n i es → (j : ℕ) (x : Frame) → IsFor j x es → Goes n i j x
  goes_for es all j x for = ⊎_elim (λ at. right_at es all (ForAll x) at j) (λ at. (right_at es all (ForOne j x) at).0) for

  -- A frame among them for a single vault is a suggest, for its view's leader.
  pub suggest_for : (es : List Entry) → AllRight n i es → (j : ℕ) (x : Frame) → ForOne j x ∈ es → (x.kind ≡ 7) × (leader_of x.view n ≡ j)
  suggest_for es all j x at = (right_at es all (ForOne j x) at).1

-- ---- rows 11 to 15, 21 and 22

-- Row 15, where a proposal is from its view's leader and a suggest is for it.
led_right : (x : Frame) (n j : ℕ) → (x.kind ≡ 1 → leader_of x.view n ≡ x.sender) → (x.kind ≡ 7 → leader_of x.view n ≡ j)
    → first (leader_rows x n j) ≡ 0
unfolding misled
led_right x n j first-led last-led = go (which (eqb x.kind 1)) (which (eqb x.kind 7))
  where
    go : (eqb x.kind 1 ≡ true) ⊎ (eqb x.kind 1 ≡ false) → (eqb x.kind 7 ≡ true) ⊎ (eqb x.kind 7 ≡ false) → first (leader_rows x n j) ≡ 0
    go (inl a) (inl b) = let one = eqb-true x.kind 1 a in let seven = eqb-true x.kind 7 b in absurd (omega arith)
    go (inl a) (inr b) = rw (a, b, eq-eqb (leader_of x.view n) x.sender (first-led (eqb-true x.kind 1 a)))
    go (inr a) (inl b) = rw (a, b, eq-eqb (leader_of x.view n) j (last-led (eqb-true x.kind 7 b)))
    go (inr a) (inr b) = rw (a, b)

-- Rows 11 and 12, over the own link.
link_right : (i n j : ℕ) → i < n → j ≢ i → first (link_rows i i n j) ≡ 0
link_right i n j low other = rw (lt-leb n i low, ne_eqb i j (λ (e : i ≡ j). other (sym e)), eq-eqb i i refl)

-- So the reader of vault j accepts it.
pub goes_readable : (n i j : ℕ) (x : Frame) → Goes n i j x → j ≢ i → Readable n j x
goes_readable n i j x g other = record {
  valid = g.valid;
  link = subst (λ (k : ℕ). first (link_rows k k n j) ≡ 0) (sym g.sender) (link_right i n j g.below other);
  content = g.content;
  leader = g.leader;
}

-- ---- the acts

-- Entries of the vault with these settings pass at whom they are for.
abbrev OwnRight : Settings → List Entry → Type 0
OwnRight s es = AllRight s.n s.id es

module _ {r : Record} (w : Whole r) where
  -- A frame that the vault sends passes at j, if 15 does: a proposal is from its leader, and a suggest is for it.
  goes : (x : Frame) (j : ℕ) → x.sender ≡ r.set.id → Sendable r.set.n r.set.id x → (x.kind ≡ 1 → leader_of x.view r.set.n ≡ x.sender)
      → (x.kind ≡ 7 → leader_of x.view r.set.n ≡ j) → Goes r.set.n r.set.id j x
  goes x j own ok one seven = record {
    below = id_below r.set w.sound.settings;
    sender = own;
    valid = ok.valid;
    content = ok.content;
    leader = led_right x r.set.n j one seven;
  }

  -- What an act writes passes at whom it is for.
  act_right : (a : Act) → May r a → OwnRight r.set (writes r a)
  unfolding writes
  act_right (ask v) may =
      (λ j. goes (change_frame r v) j refl (change_goes w v may) (λ (e : 6 ≡ 1). absurd (omega arith)) (λ (e : 6 ≡ 7). absurd (omega arith)), tt)
  act_right (enter v) may = (tt, (λ j. report rule3 j (λ (e : 8 ≡ 1). absurd (omega arith)) (λ (e : 8 ≡ 7). absurd (omega arith)), rest (leads r v)))
    where
      report : (rule : Rule) (j : ℕ) → ((report_frame r rule v).kind ≡ 1 → leader_of v r.set.n ≡ r.set.id)
          → ((report_frame r rule v).kind ≡ 7 → leader_of v r.set.n ≡ j) → Goes r.set.n r.set.id j (report_frame r rule v)
      report rule j = goes (report_frame r rule v) j refl (report_goes w v may.0 (wish_width w v may.1) rule)

      rest : (b : Bool) → OwnRight r.set (suggest_entry r v b)
      rest true = tt
      rest false = ((report rule1 (leader r v) (λ (e : 7 ≡ 1). absurd (omega arith)) (λ e. refl), (refl, refl)), tt)
  act_right (cast k p) may = (
    λ j. goes (vote_frame r k p) j refl (vote_goes w k p may) (λ (e : suc k ≡ 1). leads_first w k p may.2 (omega arith))
        (λ (e : suc k ≡ 7). absurd (omega (arith, may.0))),
    tt,
  )
  act_right (decide p) may = (tt, tt)

-- ---- a pass, and a call

-- What is left has these settings, and what is written passes at whom it is for.
record Keeps (s : Settings) (o : Out) : Type 0 where
  pub stays : o.left.set ≡ s
  pub right : OwnRight s o.wrote

-- Entries that pass, written before what follows.
keeps_more : (s : Settings) (es : List Entry) {t : Settings} {o : Out} → t ≡ s → OwnRight s es → Keeps t o → Keeps s (onward es o)
keeps_more s es {t} {o} same all k =
    record { stays = k.stays ∙ same; right = right_join s.n s.id es o.wrote all (subst (λ (t : Settings). OwnRight t o.wrote) same k.right) }

-- What a pass writes passes, and the settings stay.
pass_keeps : {steps : List Step} → Sure steps → (r : Record) → Whole r → Keeps r.set (pass steps r)
unfolding pass
pass_keeps done r w = record { stays = refl; right = tt }
pass_keeps (and {s = s} {l = rest} law sure) r w =
    subst (λ (o : Out). Keeps r.set (onward o.wrote (pass rest o.left))) (sym (law.does r)) (go (law.act r) refl (pass_keeps sure))
  where
    go : (b : Option Act) → law.act r ≡ b → ((r : Record) → Whole r → Keeps r.set (pass rest r))
        → Keeps r.set (onward (taken r b).wrote (pass rest (taken r b).left))
    go none e then = keeps_more r.set [] refl tt (then r w)
    go (some a) e then = keeps_more r.set (writes r a) (does_set r a) (act_right w a (law.may r a e)) (then (does r a) (act_whole w a (law.may r a e)))

-- The same of the answer, by the settings of the record that is left.
own_right : {s : Settings} {o : Out} → Keeps s o → OwnRight o.left.set o.wrote
own_right {s} {o} k = subst (λ (t : Settings). OwnRight t o.wrote) (sym k.stays) k.right

-- What an accepted call writes passes at whom it is for.
pub call_right : (b : Option Record) (a : Call) → ((r : Record) → b ≡ some r → Sound r × Ranged r) → Fed b a
    → (o : Out) → answer b a ≡ accepted o → OwnRight o.left.set o.wrote
unfolding started heard timed_out
call_right b a was fed o e = accepted_by Passes at_start at_frame at_timer b a o e was fed
  where
    Passes : Option Record → Call → Out → Type 0
    Passes b a o = ((r : Record) → b ≡ some r → Sound r × Ranged r) → Fed b a → OwnRight o.left.set o.wrote

    at_start : (s : Settings) (p : ℕ) → first (setting_rows s) ≡ 0 → Passes none (start s p) (started s p)
    at_start s p given was fed =
        own_right (keeps_more s (timer_entry (fresh s p) 0 ∷ []) refl (tt, tt) (pass_keeps sure_c (fresh s p) (fresh_whole s p given fed)))

    at_frame : (r : Record) (x : Frame) → first (record_rows r x) ≡ 0 → Passes (some r) (frame (Accepted x)) (heard r x)
    at_frame r x given was fed =
        let (sound, ranged) = was r refl in
        own_right (pass_keeps sure_a (keep x r) (heard_whole r x fed (record { sound = sound; ranged = ranged })))

    at_timer : (r : Record) (v : ℕ) → first (timer_rows r v) ≡ 0 → Passes (some r) (timer v) (timed_out r)
    at_timer r v given was fed =
        let (sound, ranged) = was r refl in
        let may : May r (ask (wanted r)) = wanted_may r (eqb-false r.view 4294967295 (none_given (timer_rows r v) given).1.0) in
        let w : Whole r = record { sound = sound; ranged = ranged } in
        let then = pass_keeps sure_a (does r (ask (wanted r))) (act_whole w (ask (wanted r)) may) in
        own_right (keeps_more r.set (writes r (ask (wanted r))) (does_set r (ask (wanted r))) (act_right w (ask (wanted r)) may) then)

-- Each frame that an accepted call writes is accepted, as itself, by every vault that it is for.
pub call_reads_back : ContentsReadBack
call_reads_back b a was fed o e j x low other for = subst (λ (i : ℕ). read_frame (encode x) i s.n j ≡ Accepted x) g.sender
    (readable_accepted s.n j x (goes_readable s.n s.id j x g other))
  where
    s : Settings
    s = o.left.set

    g : Goes s.n s.id j x
    g = goes_for s.n s.id o.wrote (call_right b a was fed o e) j x for
