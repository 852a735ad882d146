-- A timer (document 01, 'Refusals, place by place', rows 18 and 19; 'An accepted timer broadcasts view-change .., then goes from A'):
-- the view that is asked for, read off the own view-change's slot; and what is left by the view that is named.
-- Assumes nothing.
use Prim.Native.Nat.{ℕ, ◌+◌, ◌^◌, ◌≤◌, ◌<◌}
use mathlib.Core.Path.{◌≡◌, refl, sym, ◌∙◌, ap, subst}
use mathlib.Core.Bool.{Bool, true, false, cond}
use mathlib.Core.List.{List}
use mathlib.Core.Option.{Option, none, some}
use native.Mathlib.Omega.{arith}
use native.Mathlib.Numerals.{add-one}
use lib.ListN.{length}
use borrow.Author.Tests.{lt-ltb, le-ltb, eq-eqb, ne_eqb, eqb-false}
use Rattle.frame.specs.declared.Report.{Report}
use Rattle.frame.specs.declared.Frame.{Frame}
use Rattle.frame.specs.Refusal.{first, present}
use Rattle.settings.specs.declared.Settings.{Settings}
use Rattle.record.specs.Slots as slots
use Rattle.record.specs.Slots.{rows, frame_slot, slot_of}
use Rattle.record.specs.Layout.{decode_record}
use Rattle.record.specs.Kept.{kept_in, frame_held}
use Rattle.sound.specs.declared.Lent.TheVariants.{Sound}
use Rattle.sound.specs.inside.Sound.{lent_is}
use Rattle.protocol.specs.Record.{Record, each, change_of}
use Rattle.protocol.specs.Pass.{Out, ask, taken, pass, from_a}
use Rattle.protocol.specs.Calls.{timer_rows, wanted_from, wanted, timed_out, timer, accepted, unless, answer}
use Rattle.protocol.proofs.Good.{does_set}
use Rattle.protocol.proofs.Went.{none_given, wanted_may}
use Rattle.contents.specs.Contents.{contents, contents_in}
use Rattle.contents.specs.inside.Ready.{Ready}
use Rattle.contents.specs.Calls.{left_after, timer_left}
use Rattle.contents.specs.Left.{gave}
use Rattle.contents.proofs.Clean.{kept_at}
use Rattle.contents.proofs.Ready.{ready_row}
use Rattle.pass.specs.inside.Steps.{Room, Ran}
use Rattle.pass.proofs.Runs.{joined, room_first, room_next, ran_join}
use Rattle.vault.specs.inside.Answers.{way_in, Held, TimerGives}
use Rattle.vault.proofs.Laws.{accepted_room, refused_by, accepted_by, called_lent, way_refused}

-- ---- the view that is asked for

-- What a slot of the view-changes asks for.
abbrev asks : Report → Option ℕ
asks x = cond (present x) (some x.view) none

-- The view for which a sender's view-change is, by contents, is what its slot asks for.
change_at : (r : slots.Record) (j : ℕ) → j < rows → change_of (contents r) j ≡ asks (slot_of r (frame_slot 6 j))
unfolding kept_in frame_held
change_at r j low =
    ap (λ (o : Option Frame). each o (λ f. some f.view)) (kept_at r 6 j (omega arith) (omega arith) low) ∙ go (present (slot_of r (frame_slot 6 j)))
  where
    go : (b : Bool) → each (cond b (some (frame_held (slot_of r) 6 j)) none) (λ (f : Frame). some f.view) ≡ cond b (some (slot_of r (frame_slot 6 j)).view) none
    go true = refl
    go false = refl

-- The own view-change stands in slot `at`, and is x.
module _ (rec : List ℕ) (id view at : ℕ) (row : id < rows) (place : at ≡ frame_slot 6 id) (x : Report) (own : x ≡ slot_of (decode_record rec) at) where
  -- w is the view that an accepted timer asks for.
  abbrev Wanted : ℕ → Type 0
  Wanted w = w ≡ wanted_from view (change_of (contents_in rec) id)

  -- What the own slot gives is that view.
  there : (w : ℕ) → w ≡ wanted_from view (asks x) → Wanted w
  there w e =
      e ∙ ap (λ (y : Report). wanted_from view (asks y)) (own ∙ ap (slot_of (decode_record rec)) place)
      ∙ ap (wanted_from view) (sym (change_at (decode_record rec) id row))

  -- No own view-change is kept: the next view.
  pub wanted_none : (x.mark ≡ 1 → ⊥) → Wanted (view + 1)
  wanted_none ne = there (view + 1) (rw (ne_eqb x.mark 1 ne) (add-one view))

  -- The own one is above the current view: it is repeated.
  pub wanted_own : x.mark ≡ 1 → view < x.view → Wanted x.view
  wanted_own is above = there x.view (rw (eq-eqb x.mark 1 is, lt-ltb view x.view above) refl)

  -- It is not: the next view.
  pub wanted_next : x.mark ≡ 1 → x.view ≤ view → Wanted (view + 1)
  wanted_next is low = there (view + 1) (rw (eq-eqb x.mark 1 is, le-ltb view x.view low) (add-one view))

-- ---- the refusals

module _ (current v : ℕ) where
  -- 'view named is not the current one': 18.
  pub not_current : (v ≡ current → ⊥) → TimerGives current v 18
  not_current ne r e = rw (e, ne_eqb v current ne) refl

  -- 'current view is 4,294,967,295': 19.
  pub last_view : v ≡ current → current ≡ 4294967295 → TimerGives current v 19
  last_view is last r e = rw (e, eq-eqb v current is, eq-eqb current 4294967295 last) refl

  -- Neither: none is given.
  pub may_time_out : v ≡ current → (current ≡ 4294967295 → ⊥) → TimerGives current v 0
  may_time_out is ne r e = rw (e, eq-eqb v current is, ne_eqb current 4294967295 ne) refl

-- ---- the view is asked for, and one pass from A

-- The own number has a row.
pub own_row : {rec : List ℕ} {set : Settings} → Held rec set → set.id < rows
own_row h = subst (λ (s : Settings). s.id < rows) (sym h.its) (ready_row h.ready)

module _ {rec : List ℕ} {set : Settings} (h : Held rec set) (view : ℕ) (current : view ≡ (decode_record rec).view)
    (low : view < 4294967295) (w : ℕ) (found : w ≡ wanted_from view (change_of (contents_in rec) set.id)) (out : List ℕ) (room : 256 ≤ length out) where
  -- The current view is not the last, so there is a next one.
  not_last : (contents_in rec).view ≡ 4294967295 → ⊥
  unfolding contents
  not_last e = omega (arith, e, low, current)

  -- w is the view that the record's contents want.
  wants : w ≡ wanted (contents_in rec)
  unfolding contents
  wants =
      found ∙ ap (λ (v : ℕ). wanted_from v (change_of (contents_in rec) set.id)) current
      ∙ ap (λ (s : Settings). wanted_from (decode_record rec).view (change_of (contents_in rec) s.id)) h.its

  -- It is above the current view, so it can be asked for.
  above : (decode_record rec).view < w
  unfolding contents
  above = omega (arith, wants, (wanted_may (contents_in rec) not_last).0)

  -- The view-change for w is broadcast.
  abbrev asking : Out
  asking = taken (contents_in rec) (some (ask w))

  -- An accepted timer is the asking, then the pass.
  timed_out_is : joined asking from_a ≡ timed_out (contents_in rec)
  unfolding timed_out
  timed_out_is = ap (λ (v : ℕ). joined (taken (contents_in rec) (some (ask v))) from_a) wants

  -- An accepted timer has room for all its entries.
  room_all : Room (joined asking from_a) 0 out
  unfolding answer
  room_all = subst (λ (o : Out). Room o 0 out) (sym timed_out_is)
      (accepted_room (some (contents_in rec)) (timer (contents_in rec).view) (timed_out (contents_in rec)) out
      (ap (λ (k : ℕ). unless k (timed_out (contents_in rec))) (sym (may_time_out (contents_in rec).view (contents_in rec).view refl not_last (contents_in rec) refl)))
      room)

  -- What `ask_for` asks for.
  pub ask_requires : Ready rec × (set ≡ (decode_record rec).set) × ((decode_record rec).view < w) × Room asking 0 out
  ask_requires = (h.ready, h.its, above, room_first asking from_a 0 out room_all)

  module _ (at : ℕ) (rec' out' : List ℕ) (ran : Ran asking 0 out out' at rec') where
    -- What `pass_from` asks for, to go from A.
    pub time_out_requires : Ready rec' × (set ≡ (decode_record rec').set) × (0 ≤ 8) × Room (pass from_a (contents_in rec')) at out'
    unfolding contents
    time_out_requires = (
      ran.ready,
      h.its ∙ sym (ap (λ (c : Record). c.set) ran.left ∙ does_set (contents_in rec) (ask w)),
      omega arith,
      room_next asking from_a 0 out room_all ran,
    )

    -- With that pass run, the whole timer has run.
    pub time_out_ran : (n : ℕ) (rec'' out'' : List ℕ) → Ran (pass from_a (contents_in rec')) at out' out'' n rec''
        → Ran (timed_out (contents_in rec)) 0 out out'' n rec''
    time_out_ran n rec'' out'' then =
        subst (λ (o : Out). Ran o 0 out out'' n rec'') timed_out_is (ran_join asking from_a 0 out room_all ran then)

-- ---- what a timer leaves

module _ (rec out : List ℕ) (sound : lent_is rec ≡ Sound) (room : 256 ≤ length out) (current : ℕ) (now : current ≡ (decode_record rec).view) (view k : ℕ)
    (given : TimerGives current view k) where
  -- The code's number is that of rows 18 and 19 on contents.
  rows' : k ≡ first (timer_rows (contents_in rec) view)
  unfolding contents
  rows' = given (contents_in rec) (sym now)

  -- On a sound record the timer by contents decides.
  answered : left_after rec out (answer (some (contents_in rec)) (timer view)) ≡ timer_left rec view out
  unfolding timer_left
  answered = called_lent 3 rec out (timer view) room Sound sound

  -- A number is given: that is the answer, record and output unchanged.
  pub timer_refused : (k ≡ 0 → ⊥) → gave k rec out ≡ timer_left rec view out
  unfolding answer
  timer_refused other = refused_by rec out (timed_out (contents_in rec)) (first (timer_rows (contents_in rec) view)) k rows' other ∙ answered

  -- None is given: the timer is accepted.
  pub timer_accepted : k ≡ 0 → left_after rec out (accepted (timed_out (contents_in rec))) ≡ timer_left rec view out
  unfolding answer
  timer_accepted e = accepted_by rec out (timed_out (contents_in rec)) (first (timer_rows (contents_in rec) view)) (sym rows' ∙ e) ∙ answered

  -- Then the current view is below the last, as `time_out` asks.
  pub view_below : Ready rec → k ≡ 0 → current < 4294967295
  unfolding contents
  view_below ready e =
      let other = (none_given (timer_rows (contents_in rec) view) (sym rows' ∙ e)).1.0 in
      let wide : (decode_record rec).view < 2 ^ 32 = ready.ranged.view in
      let ne : (decode_record rec).view ≡ 4294967295 → ⊥ = eqb-false (decode_record rec).view 4294967295 other in
      omega (arith, wide, ne, now)

-- Refusals 1 to 3: the number is the answer, record and output unchanged.
pub timer_shut : (rec : List ℕ) (view : ℕ) (out : List ℕ) (k : ℕ) → k ≡ way_in rec (length out) → (k ≡ 0 → ⊥) → gave k rec out ≡ timer_left rec view out
unfolding timer_left answer
timer_shut rec view out k way = way_refused rec out k way (timer view) refl
