-- A start (document 01, 'Refusals, place by place', rows 1 and 4 to 8; 'Start .. enters view 0 with a timer entry .., then goes on from
-- C'): what it leaves by the test that decides it, and that a fresh record with its timer entry is what the pass goes on from.
-- Assumes nothing.
use Prim.Native.Nat.{ℕ, ◌+◌, ◌^◌, ◌≤◌, ◌<◌}
use mathlib.Core.Path.{◌≡◌, sym, ◌∙◌, ap}
use mathlib.Core.Bool.{Bool, true, false, cond}
use mathlib.Core.List.{List, [], ◌∷◌, append-nil}
use mathlib.Core.Option.{none}
use native.Mathlib.Omega.{arith}
use lib.ListN.{length, length-append}
use Rattle.wire.specs.Placed.{placed}
use Rattle.frame.specs.Refusal.{first}
use Rattle.entry.specs.declared.Entry.{Entry}
use Rattle.entry.specs.Layout.{entry_bytes}
use Rattle.settings.specs.declared.Settings.{Settings}
use Rattle.settings.specs.Settings.{setting_rows}
use Rattle.record.specs.Slots as slots
use Rattle.record.specs.inside.Slots.{fresh_slots}
use Rattle.record.specs.Layout.{decode_record}
use Rattle.record.specs.Size.{record_size}
use Rattle.record.specs.inside.Layout.{HoldsRecord}
use Rattle.sound.specs.declared.Lent.TheVariants.{Blank, Unsound, Sound}
use Rattle.sound.specs.inside.Sound.{sound, lent_is}
use Rattle.sound.proofs.Laws.{lent_length, lent_blank, lent_other}
use Rattle.protocol.specs.Pass.{Out, pass, from_c, timer_entry}
use Rattle.protocol.specs.Calls as calls
use Rattle.protocol.specs.Calls.{started, start, unless, accepted, answer}
use Rattle.protocol.proofs.Sound.{Whole}
use Rattle.protocol.proofs.Proper.{fresh_whole}
use Rattle.contents.specs.Contents.{contents_in}
use Rattle.contents.specs.inside.Ready.{Ready}
use Rattle.contents.specs.Calls.{left_after, start_left}
use Rattle.contents.specs.Left.{gave}
use Rattle.contents.proofs.Parts.{contents_fresh, clean_fresh}
use Rattle.contents.proofs.Ready.{contents_held, ready_as}
use Rattle.pass.specs.inside.Steps.{Room, Ran}
use Rattle.pass.proofs.Runs.{room_next, ran_join}
use Rattle.vault.proofs.Laws.{accepted_room, refused_by, accepted_by, called_short, called_lent}

-- ---- the fresh record, its timer entry, and the pass

module _ (set : Settings) (plan : ℕ) (given : first (setting_rows set) ≡ 0) (low : plan < 2 ^ 64) (rec : List ℕ) (holds : HoldsRecord rec (fresh_slots set plan))
    (t : Entry) (et : t ≡ timer_entry (calls.fresh set plan) 0) (at : ℕ) (out out' : List ℕ)
    (put : (at ≡ 0 + length (entry_bytes t)) × (out' ≡ placed out 0 (entry_bytes t))) (room : 256 ≤ length out) where
  -- View 0 is entered: a fresh record, and its timer entry.
  abbrev entered : Out
  entered = record { left = calls.fresh set plan; wrote = timer_entry (calls.fresh set plan) 0 ∷ [] }

  -- The fresh record is one that calls leave.
  fresh_ready : Ready rec
  fresh_ready = ready_as holds (contents_fresh set plan) (clean_fresh set plan) whole.sound whole.ranged
    where
      whole : Whole (calls.fresh set plan)
      whole = fresh_whole set plan given low

  -- Its settings are those of the start.
  pub fresh_set : set ≡ (decode_record rec).set
  unfolding fresh_slots
  fresh_set = ap (λ (r : slots.Record). r.set) (sym holds.is)

  -- The bytes are the fresh record's, and the output has the timer entry.
  entered_ran : Ran entered 0 out out' at rec
  entered_ran = record {
    left = contents_held holds ∙ contents_fresh set plan;
    ready = fresh_ready;
    count = omega (arith, put.0, size, length-append (entry_bytes (timer_entry (calls.fresh set plan) 0)) []);
    bytes = put.1 ∙ ap (λ (e : Entry). placed out 0 (entry_bytes e)) et ∙ ap (placed out 0) (sym (append-nil _));
  }
    where
      size : length (entry_bytes t) ≡ length (entry_bytes (timer_entry (calls.fresh set plan) 0))
      size = ap (λ (e : Entry). length (entry_bytes e)) et

  -- An accepted start has room for all its entries.
  start_room : Room (started set plan) 0 out
  unfolding answer
  start_room = accepted_room none (start set plan) (started set plan) out (ap (λ (k : ℕ). unless k (started set plan)) given) room

  -- What `pass_from` asks for, to go on from C.
  pub begin_requires : Ready rec × (set ≡ (decode_record rec).set) × (2 ≤ 8) × Room (pass from_c (contents_in rec)) at out'
  unfolding started
  begin_requires = (fresh_ready, fresh_set, omega arith, room_next entered from_c 0 out start_room entered_ran)

  -- With that pass run, the whole start has run.
  pub begin_ran : (n : ℕ) (rec' out'' : List ℕ) → Ran (pass from_c (contents_in rec)) at out' out'' n rec' → Ran (started set plan) 0 out out'' n rec'
  unfolding started
  begin_ran n rec' out'' = ran_join entered from_c 0 out start_room entered_ran

-- ---- what a start leaves

module _ (rec : List ℕ) (set : Settings) (plan : ℕ) (out : List ℕ) where
  -- Output space below 256 bytes: 1.
  pub start_short : length out < 256 → gave 1 rec out ≡ start_left rec set plan out
  unfolding start_left
  start_short = called_short 4 rec out (start set plan)

  -- A record of another length is unsound: 4.
  pub start_length : 256 ≤ length out → (length rec ≡ record_size → ⊥) → gave 4 rec out ≡ start_left rec set plan out
  unfolding start_left
  start_length room other = called_lent 4 rec out (start set plan) room Unsound (lent_length rec other)

  -- A record that is not blank, sound or not: 4.
  pub start_held : 256 ≤ length out → length rec ≡ record_size → ((decode_record rec).set.n ≡ 0 → ⊥) → gave 4 rec out ≡ start_left rec set plan out
  unfolding start_left answer
  start_held room size held = go (sound (decode_record rec)) (lent_other rec size held)
    where
      go : (b : Bool) → lent_is rec ≡ cond b Sound Unsound → gave 4 rec out ≡ start_left rec set plan out
      go true e = called_lent 4 rec out (start set plan) room Sound e
      go false e = called_lent 4 rec out (start set plan) room Unsound e

  module _ (room : 256 ≤ length out) (size : length rec ≡ record_size) (blank : (decode_record rec).set.n ≡ 0) where
    -- A blank record: the start by contents decides.
    start_blank : left_after rec out (answer none (start set plan)) ≡ start_left rec set plan out
    unfolding start_left
    start_blank = called_lent 4 rec out (start set plan) room Blank (lent_blank rec size blank)

    -- The settings give a number: that is the answer, and nothing is changed.
    pub start_refused : (k : ℕ) → k ≡ first (setting_rows set) → (k ≡ 0 → ⊥) → gave k rec out ≡ start_left rec set plan out
    unfolding answer
    start_refused k is given = refused_by rec out (started set plan) (first (setting_rows set)) k is given ∙ start_blank

    -- The settings pass: the start is accepted.
    pub start_accepted : first (setting_rows set) ≡ 0 → left_after rec out (accepted (started set plan)) ≡ start_left rec set plan out
    unfolding answer
    start_accepted given = accepted_by rec out (started set plan) (first (setting_rows set)) given ∙ start_blank
