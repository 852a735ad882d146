-- What every accepted call leaves is proper: by going from act to act, as the steps do only what they may.
-- A start's record is empty, a frame that the reader accepted is in its row, and a timer's view-change is an act.
-- Assumes nothing.
use Prim.Native.Nat.{ℕ, suc, ◌^◌, ◌<◌}
use mathlib.Core.Path.{◌≡◌, refl, sym, ◌∙◌, ap, subst}
use mathlib.Core.Logic.{◌≢◌}
use mathlib.Core.Bool.{false}
use mathlib.Core.List.{List, [], ◌∷◌, ◌++◌}
use mathlib.Core.Option.{Option, none, some}
use native.Mathlib.Omega.{arith}
use lib.Dec.{leb, eqb}
use borrow.Author.Tests.{eqb-false, leb-false}
use Rattle.rules.specs.Rules.{Vote}
use Rattle.rules.proofs.Reports.{none≢some}
use Rattle.frame.specs.declared.Frame.{Frame}
use Rattle.frame.specs.Refusal.{Accepted}
use Rattle.frame.specs.Refusal.{first, bad_previous, link_rows}
use Rattle.frame.proofs.Laws.{neither}
use Rattle.entry.specs.declared.Entry.{Entry}
use Rattle.entry.specs.Valid.{AllValid}
use Rattle.entry.proofs.Theorems.{entries_read_back}
use Rattle.protocol.specs.Record.{Record, each, spelt, vote_by, vote_of}
use Rattle.settings.specs.declared.Settings.{Settings}
use Rattle.protocol.specs.Pass.{Act, ask, does, writes, Out, Step, taken, pass, from_a}
use Rattle.protocol.specs.Calls.{record_rows, timer_rows, fresh, started, keep, heard, wanted, timed_out, Call, start, frame, timer, accepted, answer}
use Rattle.protocol.specs.Fed.{Readable, Fed}
use Rattle.settings.specs.Settings.{setting_rows}
use Rattle.protocol.specs.inside.Sound.{Ranged, AlwaysProper}
use Rattle.protocol.specs.Sound.{InRow, Sound}
use Rattle.protocol.proofs.Tables.{keep_other_sender}
use Rattle.protocol.proofs.May.{Sure, done, and, sure_c, sure_a}
use Rattle.protocol.proofs.Went.{none_given, accepted_by, wanted_may}
use Rattle.protocol.proofs.Sound.{Whole, act_whole, act_valid, delay_low, rows_by}
use Rattle.protocol.proofs.Size.{output_short}

-- Entries that have bytes, after entries that have bytes.
pub all_join : (es fs : List Entry) → AllValid es → AllValid fs → AllValid (es ++ fs)
all_join [] fs a b = b
all_join (e ∷ es) fs (v, a) b = (v, all_join es fs a b)

-- A pass leaves a sound record with numbers of their widths, and writes entries that have bytes.
pass_whole : {steps : List Step} → Sure steps → (r : Record) → Whole r → Whole (pass steps r).left × AllValid (pass steps r).wrote
unfolding pass
pass_whole done r w = (w, tt)
pass_whole (and {s = s} {l = rest} law sure) r w =
    subst (λ (o : Out). Whole (pass rest o.left).left × AllValid (o.wrote ++ (pass rest o.left).wrote)) (sym (law.does r))
    (go (law.act r) refl (pass_whole sure))
  where
    go : (b : Option Act) → law.act r ≡ b → ((r : Record) → Whole r → Whole (pass rest r).left × AllValid (pass rest r).wrote)
        → Whole (pass rest (taken r b).left).left × AllValid ((taken r b).wrote ++ (pass rest (taken r b).left).wrote)
    go none e then = then r w
    go (some a) e then =
        let (left, valid) = then (does r a) (act_whole w a (law.may r a e)) in
        (left, all_join (writes r a) (pass rest (does r a)).wrote (act_valid w a (law.may r a e)) valid)

-- The record that a start begins with is sound: it keeps nothing.
pub fresh_whole : (s : Settings) (p : ℕ) → first (setting_rows s) ≡ 0 → p < 2 ^ 64 → Whole (fresh s p)
unfolding bad_previous
fresh_whole s p given low = record {
  sound = record { settings = given; kept = λ k j x e. absurd (none≢some e); own = λ k x e. absurd (none≢some e); previous = λ k has. refl };
  ranged = record { start = low; view = omega arith; previous = λ k x e. absurd (none≢some e); decision = λ x e. absurd (none≢some e) };
}

-- A frame that the reader accepted is in its row.
read_in_row : (s : Settings) (x : Frame) → Readable s.n s.id x → InRow s x.kind x.sender x
read_in_row s x read = record {
  row =
      leb-false s.n x.sender (neither (leb s.n x.sender) (eqb x.sender s.id)
      (none_given (link_rows x.sender x.sender s.n s.id) read.link).0).0;
  kind = refl;
  sender = refl;
  valid = read.valid;
  content = read.content;
  leader = read.leader;
}

-- A record stays sound when a frame that the reader accepted is kept.
pub heard_whole : (r : Record) (x : Frame) → Readable r.set.n r.set.id x → Whole r → Whole (keep x r)
unfolding keep
heard_whole r x read w = record {
  sound = record {
    settings = w.sound.settings;
    kept = rows_by w x r.kept (read_in_row r.set x read) w.sound.kept;
    own = λ k y e. w.sound.own k y (sym (keep_other_sender x r.kept k r.set.id other) ∙ e);
    previous = λ k has. subst (λ (o : Option Vote). bad_previous (spelt o) (spelt (r.previous k)) ≡ false) (sym (own_vote k)) (w.sound.previous k has);
  };
  ranged = record { start = w.ranged.start; view = w.ranged.view; previous = w.ranged.previous; decision = w.ranged.decision };
}
  where
    other : x.sender ≡ r.set.id → ⊥
    other =
        eqb-false x.sender r.set.id (neither (leb r.set.n x.sender) (eqb x.sender r.set.id)
        (none_given (link_rows x.sender x.sender r.set.n r.set.id) read.link).0).1

    own_vote : (k : ℕ) → vote_of (keep x r) k r.set.id ≡ vote_of r k r.set.id
    own_vote k = ap (λ (o : Option Frame). each o (λ y. vote_by y.view y.body)) (keep_other_sender x r.kept (suc k) r.set.id other)

-- So every accepted call leaves a sound record and writes entries that have bytes.
call_whole : (b : Option Record) (a : Call) → ((r : Record) → b ≡ some r → Sound r × Ranged r) → Fed b a → (o : Out) → answer b a ≡ accepted o
    → Whole o.left × AllValid o.wrote
unfolding started heard timed_out
call_whole b a was fed o e = accepted_by Leaves at_start at_frame at_timer b a o e was fed
  where
    Leaves : Option Record → Call → Out → Type 0
    Leaves b a o = ((r : Record) → b ≡ some r → Sound r × Ranged r) → Fed b a → Whole o.left × AllValid o.wrote

    at_start : (s : Settings) (p : ℕ) → first (setting_rows s) ≡ 0 → Leaves none (start s p) (started s p)
    at_start s p given was fed =
        let (left, valid) = pass_whole sure_c (fresh s p) (fresh_whole s p given fed) in
        (left, ((omega arith, omega (arith, delay_low s.class)), valid))

    at_frame : (r : Record) (x : Frame) → first (record_rows r x) ≡ 0 → Leaves (some r) (frame (Accepted x)) (heard r x)
    at_frame r x given was fed =
        let (sound, ranged) = was r refl in
        pass_whole sure_a (keep x r) (heard_whole r x fed (record { sound = sound; ranged = ranged }))

    at_timer : (r : Record) (v : ℕ) → first (timer_rows r v) ≡ 0 → Leaves (some r) (timer v) (timed_out r)
    at_timer r v given was fed =
        let (sound, ranged) = was r refl in
        let room : r.view ≢ 4294967295 = eqb-false r.view 4294967295 (none_given (timer_rows r v) given).1.0 in
        let w : Whole r = record { sound = sound; ranged = ranged } in
        let (left, valid) = pass_whole sure_a (does r (ask (wanted r))) (act_whole w (ask (wanted r)) (wanted_may r room)) in
        (left, all_join (writes r (ask (wanted r))) (pass from_a (does r (ask (wanted r)))).wrote (act_valid w (ask (wanted r)) (wanted_may r room)) valid)

-- On a blank record, or a sound one, every accepted call leaves what is proper.
pub call_proper : AlwaysProper
call_proper b a was fed o e =
    let (w, valid) = call_whole b a was fed o e in
    record { sound = w.sound; ranged = w.ranged; valid = valid; reads = entries_read_back o.wrote valid; fits = omega (arith, output_short b a o e) }
