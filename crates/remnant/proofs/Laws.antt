-- Laws of the two calls: the settings of a sound record, the record that a remnant makes, and what each call leaves by the test that decides it.
-- Assumes nothing.
use Prim.Native.Nat.{ℕ, zero, suc, ◌+◌, ◌*◌, ◌≤◌, ◌<◌}
use mathlib.Core.Path.{◌≡◌, refl, sym, ap, ◌∙◌}
use mathlib.Core.Bool.{Bool, true, false, cond, not, true≢false}
use mathlib.Core.List.{List, [], ◌∷◌, append-nil}
use native.Mathlib.Nat.{zero-add}
use native.Mathlib.Decide.{ℕ_discrete}
use native.Mathlib.Omega.{arith}
use lib.Dec.{ltb, eqb}
use lib.ListN.{length}
use borrow.Author.Tests.{lt-ltb, le-ltb, ltb-false, eq-eqb, ne_eqb}
use Rattle.wire.specs.Fields.{Bytes}
use Rattle.wire.specs.Placed.{placed}
use Rattle.frame.specs.declared.Report.{Report}
use Rattle.frame.specs.Refusal.{row, first}
use Rattle.frame.specs.Answers.{number_in}
use Rattle.entry.specs.declared.Entry.{Entry}
use Rattle.entry.specs.declared.Entry.TheVariants.{Timer}
use Rattle.entry.specs.Layout.{entry_bytes, layout}
use Rattle.entry.proofs.Theorems.{entry_span}
use Rattle.settings.specs.declared.Settings.{Settings}
use Rattle.settings.specs.Settings.{setting_rows, delay_of}
use Rattle.settings.proofs.Allowed.{allowed}
use Rattle.record.specs.Slots.{Record, rows, slot_of}
use Rattle.record.specs.Layout.{shared_of, encode_record, decode_record}
use Rattle.record.specs.Size.{record_size}
use Rattle.record.specs.inside.Slots.{fresh_slots}
use Rattle.record.specs.inside.Layout.{HoldsRecord}
use Rattle.record.proofs.Theorems.{encode_decode}
use Rattle.sound.specs.declared.Lent.{Lent}
use Rattle.sound.specs.declared.Lent.TheVariants.{Blank, Unsound, Sound}
use Rattle.sound.specs.inside.Sound.{sound, lent_refusal, lent_is}
use Rattle.sound.proofs.Laws.{sound_settings, lent_length, lent_blank, lent_other}
use Rattle.contents.specs.Left.{Left, wrote, gave}
use Rattle.own.specs.Size.{remnant_size}
use Rattle.own.specs.Part.{remnant_of, over, restored}
use Rattle.own.specs.inside.Own.{settings_in, view_in, plan_in, heard_in}
use Rattle.contents.specs.Which.{is_blank, is_sound}
use Rattle.contents.specs.Remnant.{unless_given, remnant_left, timer_back, made_back, restart_left}
use Rattle.remnant.specs.inside.Parts.{write_refusal, Fitting, Fresh}

-- ---- sound records

-- Settings that are refused are no sound record's.
pub refused_unsound : (s : List ℕ) → (first (setting_rows (decode_record s).set) ≡ 0 → ⊥) → is_sound (lent_is s) ≡ false
unfolding lent_is
refused_unsound s bad =
    rw (sound_settings (slot_of (decode_record s)) (decode_record s).set (decode_record s).view bad)
    (go (eqb (length s) record_size) (eqb (decode_record s).set.n 0))
  where
    go : (long blank : Bool) → is_sound (cond long (cond blank Blank (cond false Sound Unsound)) Unsound) ≡ false
    go true true = refl
    go true false = refl
    go false blank = refl

-- So those of a sound record pass,
pub sound_good : (s : List ℕ) → is_sound (lent_is s) ≡ true → first (setting_rows (decode_record s).set) ≡ 0
sound_good s is = go (ℕ_discrete (first (setting_rows (decode_record s).set)) 0)
  where
    go : Dec (first (setting_rows (decode_record s).set) ≡ 0) → first (setting_rows (decode_record s).set) ≡ 0
    go (yes good) = good
    go (no bad) = absurd (true≢false (sym is ∙ refused_unsound s bad))

-- and settings that pass have a row.
pub own_row : (set : Settings) → first (setting_rows set) ≡ 0 → set.id < rows
own_row set good = let a = allowed set good in omega (arith, a.own, a.most)

-- What is written has the settings of the remnant.
written_set : (s : List ℕ) → (decode_record (encode_record (restored s))).set ≡ settings_in s
unfolding decode_record encode_record shared_of over
written_set s = refl

-- Settings that are refused make no sound record,
pub back_refused : (s : List ℕ) → (first (setting_rows (settings_in s)) ≡ 0 → ⊥) → is_sound (lent_is (encode_record (restored s))) ≡ false
back_refused s bad =
    refused_unsound (encode_record (restored s)) (λ (e : first (setting_rows (decode_record (encode_record (restored s))).set) ≡ 0).
    bad (ap (λ (set : Settings). first (setting_rows set)) (sym (written_set s)) ∙ e))

-- and those of a remnant that makes one pass.
pub back_good : (s : List ℕ) {set : Settings} → set ≡ settings_in s → is_sound (lent_is (encode_record (restored s))) ≡ true → first (setting_rows set) ≡ 0
back_good s e is =
    ap (λ (x : Settings). first (setting_rows x)) (e ∙ sym (written_set s)) ∙ sound_good (encode_record (restored s)) is

-- ---- the record made

-- A record of the remnant's settings and starting plan in which nothing is kept.
pub fresh_held : (s rec : List ℕ) {set : Settings} {plan : ℕ} → Fitting s set → plan ≡ plan_in s → HoldsRecord rec (fresh_slots set plan) → Fresh s set rec
unfolding fresh_slots
fresh_held s rec {set} f ep held =
    let es = ap (λ (r : Record). r.set) held.is in
    record {
      fits = record {
        size = held.size;
        own = ap (λ (x : Settings). x.id) (sym es);
        row = own_row set f.good;
        set = sym f.is ∙ sym es;
        plan = sym ep ∙ sym (ap (λ (r : Record). r.plan) held.is);
      };
      none = ap (λ (r : Record). r.slots) held.is;
    }

-- 'that row and no others': the remnant's own part is put back to it.
pub back_held : (s rec made : List ℕ) {set : Settings} → Fresh s set rec → Bytes made → HoldsRecord made (over (heard_in rec) s)
    → made ≡ encode_record (restored s)
back_held s rec made fresh bytes back =
    sym (encode_decode made bytes back.size) ∙ ap encode_record (back.is ∙ ap (λ (heard : ℕ → Report). over heard s) fresh.none)

-- ---- what a write leaves

-- A number that is given.
given_as : (rec out : List ℕ) (left : Left) (k x : ℕ) → k ≡ x → (k ≡ 0 → ⊥) → gave k rec out ≡ unless_given x rec out left
given_as rec out left k zero is given = absurd (given is)
given_as rec out left k (suc j) is given = ap (λ (n : ℕ). gave n rec out) is

-- None is.
none_first : (short : Bool) (lent : Lent) → first (row 1 short ∷ row 2 (is_blank lent) ∷ row 3 (not (is_sound lent)) ∷ []) ≡ 0
    → (short ≡ false) × (lent ≡ Sound)
none_first true lent none = absurd (omega (arith, none))
none_first false Blank none = absurd (omega (arith, none))
none_first false Unsound none = absurd (omega (arith, none))
none_first false Sound none = (refl, refl)

-- The number of the refusal that lent bytes give.
pub lent_number : (l : Lent) → number_in (lent_refusal l) ≡ first (row 2 (is_blank l) ∷ row 3 (not (is_sound l)) ∷ [])
lent_number Blank = refl
lent_number Unsound = refl
lent_number Sound = refl

module _ (rec : List ℕ) where
  -- The refusal, by the space and by what the record is.
  pub write_short : (room : ℕ) → room < remnant_size → 1 ≡ write_refusal rec room
  unfolding write_refusal
  write_short room short = rw (lt-ltb room remnant_size short) refl

  -- Where there is room, by what the record is.
  pub write_lent : (room : ℕ) → remnant_size ≤ room → (lent : Lent) → lent_is rec ≡ lent
      → first (row 2 (is_blank lent) ∷ row 3 (not (is_sound lent)) ∷ []) ≡ write_refusal rec room
  unfolding write_refusal
  write_lent room long lent is = rw (le-ltb room remnant_size long, is) refl

  -- None is given of a sound record where there is room.
  pub write_sound : (room : ℕ) → write_refusal rec room ≡ 0 → (remnant_size ≤ room) × (lent_is rec ≡ Sound)
  unfolding write_refusal
  write_sound room none = let (long, is) = none_first (ltb room remnant_size) (lent_is rec) none in (ltb-false room remnant_size long, is)

  module _ (out : List ℕ) where
    -- A refusal changes nothing.
    pub write_refused : (k : ℕ) → k ≡ write_refusal rec (length out) → (k ≡ 0 → ⊥) → gave k rec out ≡ remnant_left rec out
    unfolding remnant_left write_refusal
    write_refused k is given = given_as rec out _ k _ is given

    -- Else the remnant is written.
    pub write_accepted : (left : List ℕ) → write_refusal rec (length out) ≡ 0 → left ≡ placed out 0 (remnant_of (decode_record rec))
        → wrote remnant_size rec left ≡ remnant_left rec out
    unfolding remnant_left write_refusal
    write_accepted left none is =
        ap (wrote remnant_size rec) is
        ∙ ap (λ (k : ℕ). unless_given k rec out (wrote remnant_size rec (placed out 0 (remnant_of (decode_record rec))))) (sym none)

-- ---- what a restart leaves

-- There is room for an entry.
pub entry_room : (e : Entry) (out : List ℕ) → 256 ≤ length out → 0 + length (entry_bytes e) ≤ length out
entry_room e out room = omega (arith, room, (entry_span e).1)

-- The record, and the timer entry of its current view.
pub back_made : (s made out left : List ℕ) (count : ℕ) {set : Settings} {view millis : ℕ} → set ≡ settings_in s → view ≡ view_in s
    → millis ≡ 9 * delay_of set.class → made ≡ encode_record (restored s)
    → (count ≡ 0 + length (entry_bytes (Timer view millis))) × (left ≡ placed out 0 (entry_bytes (Timer view millis)))
    → wrote count made left ≡ made_back (restored s) out
unfolding over
back_made s made out left count {set} {view} {millis} es ev em all put =
    let timer : Timer view millis ≡ timer_back (restored s) = (λ i. Timer (ev i) ((em ∙ ap (λ (x : Settings). 9 * delay_of x.class) es) i)) in
    let one : entry_bytes (Timer view millis) ≡ layout (timer_back (restored s) ∷ []) = ap entry_bytes timer ∙ sym (append-nil _) in
    let many : count ≡ length (layout (timer_back (restored s) ∷ [])) = put.0 ∙ zero-add _ ∙ ap length one in
    let bytes_left : left ≡ placed out 0 (layout (timer_back (restored s) ∷ [])) = put.1 ∙ ap (placed out 0) one in
    λ i. wrote (many i) (all i) (bytes_left i)

-- A record of its length whose n is 0 is blank.
pub blank_by : (rec : List ℕ) → length rec ≡ record_size → {set : Settings} → set ≡ (decode_record rec).set → set.n ≡ 0 → lent_is rec ≡ Blank
blank_by rec size is none = lent_blank rec size (sym (ap (λ (x : Settings). x.n) is) ∙ none)

module _ (rec s out : List ℕ) where
  -- Output space below 256 bytes.
  pub restart_short : length out < 256 → gave 1 rec out ≡ restart_left rec s out
  unfolding restart_left
  restart_short short = rw (lt-ltb (length out) 256 short) refl

  module _ (room : 256 ≤ length out) where
    -- A record that is not blank.
    restart_other : (lent : Lent) → is_blank lent ≡ false → lent_is rec ≡ lent → gave 4 rec out ≡ restart_left rec s out
    unfolding restart_left
    restart_other lent other is = rw (le-ltb (length out) 256 room, is, other) refl

    -- One of another length is unsound.
    pub restart_length : (length rec ≡ record_size → ⊥) → gave 4 rec out ≡ restart_left rec s out
    restart_length other = restart_other Unsound refl (lent_length rec other)

    -- One that has an n is sound or unsound.
    pub restart_held : length rec ≡ record_size → {set : Settings} → set ≡ (decode_record rec).set → (set.n ≡ 0 → ⊥) → gave 4 rec out ≡ restart_left rec s out
    restart_held size {set} is held =
        go (sound (decode_record rec)) (lent_other rec size (λ (e : (decode_record rec).set.n ≡ 0). held (ap (λ (x : Settings). x.n) is ∙ e)))
      where
        go : (b : Bool) → lent_is rec ≡ cond b Sound Unsound → gave 4 rec out ≡ restart_left rec s out
        go true is = restart_other Sound refl is
        go false is = restart_other Unsound refl is

    module _ (blank : lent_is rec ≡ Blank) where
      -- A remnant of another length.
      pub remnant_length : (length s ≡ remnant_size → ⊥) → gave 25 rec out ≡ restart_left rec s out
      unfolding restart_left
      remnant_length other = rw (le-ltb (length out) 256 room, blank, ne_eqb (length s) remnant_size other) refl

      -- One that makes no sound record.
      pub remnant_unsound : length s ≡ remnant_size → is_sound (lent_is (encode_record (restored s))) ≡ false → gave 26 rec out ≡ restart_left rec s out
      unfolding restart_left
      remnant_unsound size bad = rw (le-ltb (length out) 256 room, blank, eq-eqb (length s) remnant_size size, bad) refl

      -- One that does.
      pub remnant_taken : length s ≡ remnant_size → is_sound (lent_is (encode_record (restored s))) ≡ true → made_back (restored s) out ≡ restart_left rec s out
      unfolding restart_left
      remnant_taken size good = rw (le-ltb (length out) 256 room, blank, eq-eqb (length s) remnant_size size, good) refl
