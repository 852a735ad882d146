-- What one call leaves at any lent record: a sound record and an output of entries (`call_leaves_well`), whose frames read back at
-- whom they are for (`call_reads_back`; document 01, 'wrote in an entry for all or for this vault'). A lent record that is sound
-- spells contents that a vault may have, a blank one spells none, and on an unsound one every call is refused (`goes`). So the laws
-- of one call on contents apply.
-- Assumes nothing.
use Prim.Native.Nat.{ℕ, ◌+◌, ◌≤◌}
use mathlib.Core.Path.{◌≡◌, refl, sym, ◌∙◌, ap, subst}
use mathlib.Core.Logic.{◌⊎◌, inl, inr, ⊎_elim}
use mathlib.Core.Bool.{Bool, true, false, cond}
use mathlib.Core.List.{List, [], ◌∷◌, append-nil}
use mathlib.Core.Option.{Option, none, some}
use native.Mathlib.Omega.{arith}
use lib.Dec.{ltb}
use lib.ListN.{length, get_or, take, drop}
use lib.Seq.{drop_at}
use Rattle.wire.specs.Fields.{Bytes}
use Rattle.wire.specs.Placed.{placed}
use Rattle.wire.proofs.Laws.{number_below}
use Rattle.wire.proofs.Output.{length_placed}
use Rattle.entry.specs.declared.Entry.{Entry}
use Rattle.entry.specs.Layout.{entry_bytes, layout}
use Rattle.entry.specs.Valid.{AllValid}
use Rattle.entry.specs.Reading.{entries_of}
use Rattle.entry.proofs.Theorems.{entry_span}
use Rattle.settings.specs.declared.Settings.{Settings}
use Rattle.record.specs.Layout.{encode_record, decode_record}
use Rattle.sound.specs.declared.Lent.{Lent}
use Rattle.sound.specs.declared.Lent.TheVariants.{Blank, Unsound, Sound}
use Rattle.sound.specs.inside.Sound.{lent_is}
use Rattle.protocol.specs.Record.{Record}
use Rattle.protocol.specs.Pass.{Out}
use Rattle.protocol.specs.Calls as by
use Rattle.protocol.specs.Calls.{accepted, answer}
use Rattle.protocol.specs.Fed.{Fed}
use Rattle.protocol.specs.ReadsBack.{ReadBy}
use Rattle.protocol.proofs.Sound.{delay_low}
use Rattle.protocol.proofs.ReadsBack as protocol
use Rattle.contents.specs.Contents.{contents}
use Rattle.contents.specs.Calls.{left_after, on_lent, called, start_left, frame_left, timer_left}
use Rattle.contents.specs.Left.{Left, gave}
use Rattle.contents.specs.Spelling.{Spells}
use Rattle.own.specs.Part.{remnant_of, over, restored}
use Rattle.contents.specs.Remnant.{timer_back}
use Rattle.contents.proofs.Spelling.{Fine, fine_bytes, spelled_fine}
use Rattle.own.proofs.Stored.{remnant_length}
use Rattle.contents.proofs.Remnant.{written_any, restarted_any}
use Rattle.runs.specs.Runs.{ByteCall, start, frame, timer, InWidth, record_in, entries_in}
use Rattle.runs.specs.Fixed.{leaves}
use Rattle.runs.specs.Left.{Kept, LeavesWell, AlwaysLeavesWell, RestartLeavesWell, CopiesWell, WriteLeavesWell, ReadsBack, AlwaysReadsBack}
use Rattle.runs.proofs.Carry.{said, carried, fed_said, placed_take, read_back, LeftWell, left_well}

-- Behind bytes put at the start of an output it is as it was.
placed_drop : (out es : List ℕ) → drop (length es) (placed out 0 es) ≡ drop (length es) out
unfolding placed
placed_drop out es =
    let same : 0 + length es ≡ length es = omega arith in
    drop_at es (drop (0 + length es) out) (length es) refl ∙ ap (λ (k : ℕ). drop k out) same

-- What is to be shown of an accepted call, from entries that have bytes and are read back, and a sound record.
kept_by : (out : List ℕ) (es : List Entry) (rec' : List ℕ) → 256 ≤ length out → length (layout es) ≤ 256 → AllValid es
    → entries_of (take (length (layout es)) (placed out 0 (layout es))) ≡ es → lent_is rec' ≡ Sound
    → Kept out (length (layout es)) rec' (placed out 0 (layout es))
kept_by out es rec' room few valid read sound = record {
  sound = sound;
  valid = subst AllValid (sym read) valid;
  entries = ap layout read ∙ sym (placed_take out (layout es));
  few = few;
  size = length_placed out 0 (layout es) (omega arith);
  beyond = placed_drop out (layout es);
}

-- ---- what a call comes to

-- An accepted call on bytes: the accepted call that they say, on contents that a vault may have.
record Accepts (rec out : List ℕ) (a : ByteCall) : Type 0 where
  before : Option Record
  fine : (r : Record) → before ≡ some r → Fine r
  fed : Fed before (said rec a)
  o : Out
  room : 256 ≤ length out
  answered : answer before (said rec a) ≡ accepted o
  is : leaves rec a out ≡ left_after rec out (accepted o)

-- The call is refused, with record and output unchanged, or accepted.
abbrev Goes : List ℕ → List ℕ → ByteCall → Type 0
Goes rec out a = ((k : ℕ) × (leaves rec a out ≡ gave k rec out)) ⊎ Accepts rec out a

-- On bytes that spell something.
spelled_goes : (rec out : List ℕ) (a : ByteCall) → Bytes rec → InWidth a → (b : Option Record) → Spells rec b → Goes rec out a
spelled_goes rec out a bytes low b spells = ⊎_elim inl (λ (o, room, answered, is). inr (record {
  before = b;
  fine = spelled_fine rec b bytes spells;
  fed = fed_said rec b a spells low;
  o = o;
  room = room;
  answered = answered;
  is = is;
})) (carried rec out b a spells)

-- On an unsound record every call is refused.
unsound_called : (k : ℕ) (rec out : List ℕ) (a : by.Call) → lent_is rec ≡ Unsound → (j : ℕ) × (called k rec out a ≡ gave j rec out)
unfolding called
unsound_called k rec out a bad = go (ltb (length out) 256) (lent_is rec) bad
  where
    go : (t : Bool) (u : Lent) → u ≡ Unsound
        → (j : ℕ) × (cond t (gave 1 rec out) (left_after rec out (on_lent u k (contents (decode_record rec)) a)) ≡ gave j rec out)
    go true u e = (1, refl)
    go false u e = (k, ap (λ (u : Lent). left_after rec out (on_lent u k (contents (decode_record rec)) a)) e)

-- So each call on an unsound record is refused, whichever it is.
unsound_goes : (rec out : List ℕ) (a : ByteCall) → lent_is rec ≡ Unsound → Goes rec out a
unfolding start_left frame_left timer_left
unsound_goes rec out (start set plan) bad = inl (unsound_called 4 rec out (said rec (start set plan)) bad)
unsound_goes rec out (frame link bytes) bad = inl (unsound_called 3 rec out (said rec (frame link bytes)) bad)
unsound_goes rec out (timer view) bad = inl (unsound_called 3 rec out (said rec (timer view)) bad)

-- Whatever record is lent.
goes : (rec out : List ℕ) (a : ByteCall) → Bytes rec → InWidth a → Goes rec out a
goes rec out a bytes low = go (lent_is rec) refl
  where
    go : (u : Lent) → lent_is rec ≡ u → Goes rec out a
    go Blank is = spelled_goes rec out a bytes low none is
    go Unsound is = unsound_goes rec out a is
    go Sound is = spelled_goes rec out a bytes low (some (contents (decode_record rec))) (record { sound = is; holds = refl })

-- ---- what it leaves

module _ {rec out : List ℕ} {a : ByteCall} (w : Accepts rec out a) where
  -- What an accepted call leaves, by contents and by bytes.
  well : LeftWell rec out w.o
  well = left_well rec out w.before (said rec a) w.fine w.fed w.o w.answered

  -- An accepted call leaves a sound record and an output of entries.
  accepted_leaves_well : LeavesWell rec out (left_after rec out (accepted w.o))
  accepted_leaves_well =
      kept_by out w.o.wrote (record_in (left_after rec out (accepted w.o))) w.room well.short well.valid well.entries well.held.sound

  -- The settings that are read are those of the contents left, and the entries that are read are those written.
  accepted_reads_back : ReadsBack (left_after rec out (accepted w.o))
  unfolding contents
  accepted_reads_back =
      let settings = ap (λ (r : Record). r.set) well.held.holds in
      subst (λ (s : Settings). ReadBy s (entries_in (left_after rec out (accepted w.o)))) (sym settings)
      (subst (ReadBy w.o.left.set) (sym well.entries)
      (protocol.call_reads_back w.before (said rec a) (λ r e. ((w.fine r e).sound, (w.fine r e).ranged)) w.fed w.o w.answered))

-- So does every call that is not refused, and a refused one changes nothing.
pub call_leaves_well : AlwaysLeavesWell
call_leaves_well rec out a bytes low = ⊎_elim
    (λ (k, is). subst (LeavesWell rec out) (sym is) (refl, refl))
    (λ w. subst (LeavesWell rec out) (sym w.is) (accepted_leaves_well w))
    (goes rec out a bytes low)

-- The record that a call leaves is bytes, where the one before is.
pub call_leaves_bytes : (rec out : List ℕ) (a : ByteCall) → Bytes rec → InWidth a → Bytes (record_in (leaves rec a out))
call_leaves_bytes rec out a bytes low = ⊎_elim
    (λ (k, is). subst (λ (l : Left). Bytes (record_in l)) (sym is) bytes)
    (λ w. subst (λ (l : Left). Bytes (record_in l)) (sym w.is) (fine_bytes w.o.left (well w).fine))
    (goes rec out a bytes low)

-- The frames that a call writes are read back by each other vault that they are for.
pub call_reads_back : AlwaysReadsBack
call_reads_back rec out a bytes low =
    ⊎_elim (λ (k, is). subst ReadsBack (sym is) tt) (λ w. subst ReadsBack (sym w.is) (accepted_reads_back w)) (goes rec out a bytes low)

-- ---- the two calls on remnants

-- A restart that is not refused leaves the sound record that it made, and its timer entry.
pub restart_leaves_well : RestartLeavesWell
unfolding over
restart_leaves_well rec remnant out bytes = ⊎_elim
    (λ (k, is). subst (LeavesWell rec out) (sym is) (refl, refl))
    (λ (room, sound, is). subst (LeavesWell rec out) (sym is) (kept_by out es (encode_record (restored remnant)) room few valid (read_back out es valid) sound))
    (restarted_any rec remnant out)
  where
    es : List Entry
    es = timer_back (restored remnant) ∷ []

    valid : AllValid es
    valid = ((number_below 4 remnant 4 bytes, omega (arith, delay_low (get_or remnant 3 0))), tt)

    few : length (layout es) ≤ 256
    few = let whole = append-nil (entry_bytes (timer_back (restored remnant))) in rw whole (omega (arith, (entry_span (timer_back (restored remnant))).1))

-- Writing a remnant leaves the record.
pub write_leaves_well : WriteLeavesWell
write_leaves_well rec out = ⊎_elim
    (λ (k, is). subst (CopiesWell rec out) (sym is) (refl, refl))
    (λ (room, sound, is). subst (CopiesWell rec out) (sym is) (record {
      sound = sound;
      same = refl;
      whole = refl;
      size = length_placed out 0 bytes (omega (arith, remnant_length (decode_record rec)));
      beyond = subst (λ (n : ℕ). drop n (placed out 0 bytes) ≡ drop n out) (remnant_length (decode_record rec)) (placed_drop out bytes);
    }))
    (written_any rec out)
  where
    bytes : List ℕ
    bytes = remnant_of (decode_record rec)
