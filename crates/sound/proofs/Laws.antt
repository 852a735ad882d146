-- Laws of the tests of soundness (01, 'What a vault keeps'): what each conjunction gives at the first part that fails and at its
-- last part, and a loop that stops at the first fault. The code returns in just these cases.
-- Assumes nothing.
use Prim.Native.Nat.{ℕ, zero, suc, ◌+◌, ◌<◌, ◌≤◌}
use mathlib.Core.Path.{◌≡◌, refl, ap, sym, subst, ◌∙◌}
use mathlib.Core.Logic.{⊎_elim}
use mathlib.Core.Bool.{Bool, true, false, not, ◌&&◌, cond}
use mathlib.Core.List.{List}
use native.Mathlib.Nat.{le_of_suc-le-suc, not-suc-le-zero, eq-or-lt_of_le}
use native.Mathlib.Numerals.{add-one}
use borrow.Author.Tests.{eq-eqb, ne_eqb, lt-ltb, le-ltb}
use lib.ListN.{length}
use Rattle.frame.specs.declared.Report.{Report}
use Rattle.frame.specs.declared.Frame.{Frame}
use Rattle.frame.specs.Refusal.{first, absent, bad_form}
use Rattle.settings.specs.declared.Settings.{Settings}
use Rattle.settings.specs.Settings.{setting_rows}
use Rattle.record.specs.Slots.{frame_slot, report_slot, decision_slot}
use Rattle.record.specs.Layout.{decode_record}
use Rattle.record.specs.Size.{record_size}
use Rattle.record.specs.Kept.{frame_held}
use Rattle.sound.specs.inside.Sound.{all, reports_absent, empty_at, no_plan, frame_sound, place_sound, previous_sound, votes_sound}
use Rattle.sound.specs.inside.Sound.{rows_sound, sound_in, sound, lent_is}
use Rattle.sound.specs.declared.Lent.TheVariants.{Blank, Unsound, Sound}

-- ---- flags

-- what a call ensures of its flag, where `if !flag` was taken, and where it was passed
pub off : {b x : Bool} → b ≡ x → b ≡ false → x ≡ false
off p q = sym p ∙ q

-- the same where `if !flag` was passed: the flag held
pub on : {b x : Bool} → b ≡ x → b ≡ true → x ≡ true
on p q = sym p ∙ q

-- a test denied twice is the test
not_not : (b : Bool) → not (not b) ≡ b
not_not true = refl
not_not false = refl

-- ---- slots

-- without a mark, well formed means absent
pub formed_other : (slot : Report) → (slot.mark ≡ 1 → ⊥) → not (bad_form slot) ≡ absent slot
unfolding bad_form
formed_other slot h = rw (ne_eqb slot.mark 1 h) (not_not (absent slot))

-- ---- conjunctions

module _ (slots : ℕ → Report) (kind sender : ℕ) where
  -- the highest report is not absent: so not all three are
  pub reports_highest : absent (slots (report_slot kind 0 sender)) ≡ false → reports_absent slots kind sender ≡ false
  unfolding reports_absent
  reports_highest a = rw a

  -- the highest is absent, the previous is not: so not all three are
  pub reports_previous : absent (slots (report_slot kind 0 sender)) ≡ true → absent (slots (report_slot kind 1 sender)) ≡ false
      → reports_absent slots kind sender ≡ false
  unfolding reports_absent
  reports_previous a b = rw (a, b)

  -- both are absent: the lock decides
  pub reports_lock : absent (slots (report_slot kind 0 sender)) ≡ true → absent (slots (report_slot kind 1 sender)) ≡ true
      → reports_absent slots kind sender ≡ absent (slots (report_slot kind 2 sender))
  unfolding reports_absent
  reports_lock a b = rw (a, b)

  -- a frame's slot that is not absent: something is kept
  pub empty_frame : absent (slots (frame_slot kind sender)) ≡ false → empty_at slots kind sender ≡ false
  unfolding empty_at
  empty_frame a = rw a

  -- an absent slot of kinds 1 to 6: nothing is kept, as they have no reports
  pub empty_short : absent (slots (frame_slot kind sender)) ≡ true → kind < 7 → empty_at slots kind sender ≡ true
  unfolding empty_at
  empty_short a h = rw (a, lt-ltb kind 7 h)

  -- an absent slot of kinds 7 and 8: the reports decide
  pub empty_reports : absent (slots (frame_slot kind sender)) ≡ true → 7 ≤ kind → empty_at slots kind sender ≡ reports_absent slots kind sender
  unfolding empty_at
  empty_reports a h = rw (a, le-ltb kind 7 h)

module _ (set : Settings) (view : ℕ) (f : Frame) where
  -- a row at n or above: unsound, by 11
  pub frame_row : set.n ≤ f.sender → frame_sound set view f ≡ false
  unfolding frame_sound
  frame_row h = rw (le-ltb f.sender set.n h)

module _ (slots : ℕ → Report) (set : Settings) (view kind sender : ℕ) where
  -- no mark: the place is sound where nothing is kept
  pub place_empty : ((slots (frame_slot kind sender)).mark ≡ 1 → ⊥) → place_sound slots set view kind sender ≡ empty_at slots kind sender
  unfolding place_sound
  place_empty h = rw (ne_eqb (slots (frame_slot kind sender)).mark 1 h)

  -- a mark, and a plan that the kind has not: unsound
  pub place_plan : (slots (frame_slot kind sender)).mark ≡ 1 → no_plan kind (slots (frame_slot kind sender)).plan ≡ false
      → place_sound slots set view kind sender ≡ false
  unfolding place_sound
  place_plan h a = rw (eq-eqb (slots (frame_slot kind sender)).mark 1 h, a)

  -- a mark, and no such plan: the frame decides
  pub place_of_frame : (slots (frame_slot kind sender)).mark ≡ 1 → no_plan kind (slots (frame_slot kind sender)).plan ≡ true
      → place_sound slots set view kind sender ≡ frame_sound set view (frame_held slots kind sender)
  unfolding place_sound
  place_of_frame h a = rw (eq-eqb (slots (frame_slot kind sender)).mark 1 h, a)

module _ (slots : ℕ → Report) (id : ℕ) where
  -- the previous vote-1 does not stand to its highest
  pub votes_first : previous_sound slots id 2 ≡ false → votes_sound slots id ≡ false
  unfolding votes_sound
  votes_first a = rw a

  -- the previous vote-2 does not
  pub votes_second : previous_sound slots id 2 ≡ true → previous_sound slots id 3 ≡ false → votes_sound slots id ≡ false
  unfolding votes_sound
  votes_second a b = rw (a, b)

  -- both do: the form of the decision decides
  pub votes_decision : previous_sound slots id 2 ≡ true → previous_sound slots id 3 ≡ true → votes_sound slots id ≡ not (bad_form (slots decision_slot))
  unfolding votes_sound
  votes_decision a b = rw (a, b)

module _ (slots : ℕ → Report) (set : Settings) (view : ℕ) where
  -- settings that 5 to 8 refuse
  pub sound_settings : (first (setting_rows set) ≡ 0 → ⊥) → sound_in slots set view ≡ false
  unfolding sound_in
  sound_settings h = rw (ne_eqb (first (setting_rows set)) 0 h)

  -- settings that pass, and a fault in the rows
  pub sound_rows : first (setting_rows set) ≡ 0 → rows_sound slots set view ≡ false → sound_in slots set view ≡ false
  unfolding sound_in
  sound_rows h a = rw (eq-eqb (first (setting_rows set)) 0 h, a)

  -- both pass: the own votes and the decision decide
  pub sound_votes : first (setting_rows set) ≡ 0 → rows_sound slots set view ≡ true → sound_in slots set view ≡ votes_sound slots set.id
  unfolding sound_in
  sound_votes h a = rw (eq-eqb (first (setting_rows set)) 0 h, a)

-- ---- loops

-- before the first turn there is no fault
pub all_none : (test : ℕ → Bool) → all test 0 ≡ true
unfolding all
all_none test = refl

-- a turn without a fault
pub all_more : (test : ℕ → Bool) (n : ℕ) → all test n ≡ true → test n ≡ true → all test (n + 1) ≡ true
unfolding all
all_more test n h k = rw (add-one, h, k)

-- a test that fails decides
and_false : (b : Bool) → (b && false) ≡ false
and_false true = refl
and_false false = refl

-- a fault ends the loop, whatever follows
pub all_stop : (test : ℕ → Bool) (n i : ℕ) → i < n → test i ≡ false → all test n ≡ false
unfolding all
all_stop test zero i h e = absurd (not-suc-le-zero h)
all_stop test (suc n) i h e = ⊎_elim
    (λ (s : i ≡ n). ap (λ (b : Bool). all test n && b) (subst (λ (k : ℕ). test k ≡ false) s e) ∙ and_false (all test n))
    (λ (k : i < n). ap (λ (b : Bool). b && test n) (all_stop test n i k e))
    (eq-or-lt_of_le (le_of_suc-le-suc h))

-- ---- lent bytes

module _ (s : List ℕ) where
  -- another length: unsound
  pub lent_length : (length s ≡ record_size → ⊥) → lent_is s ≡ Unsound
  unfolding lent_is
  lent_length h = rw (ne_eqb (length s) record_size h)

  -- a record's length and n = 0: blank
  pub lent_blank : length s ≡ record_size → (decode_record s).set.n ≡ 0 → lent_is s ≡ Blank
  unfolding lent_is
  lent_blank h k = rw (eq-eqb (length s) record_size h, eq-eqb (decode_record s).set.n 0 k)

  -- a record's length and another n: sound or unsound, as the record is
  pub lent_other : length s ≡ record_size → ((decode_record s).set.n ≡ 0 → ⊥) → lent_is s ≡ cond (sound (decode_record s)) Sound Unsound
  unfolding lent_is
  lent_other h k = rw (eq-eqb (length s) record_size h, ne_eqb (decode_record s).set.n 0 k)
