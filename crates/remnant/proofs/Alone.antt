-- The record that a remnant makes has its own row alone (02, wish 6). What stands in that row is read off the remnant; every other place is empty, so nothing
-- is at fault there, and soundness asks the own row only. And what the record's bytes spell is that record, so the test may go by it.
-- Assumes nothing.
use Prim.Native.Nat.{ℕ, zero, suc, ◌+◌, ◌-◌, ◌*◌, ◌%◌, ◌≤◌, ◌<◌}
use mathlib.Core.Path.{◌≡◌, refl, sym, ap, subst, ◌∙◌}
use mathlib.Core.Logic.{◌≢◌}
use mathlib.Core.Bool.{Bool, true, false, cond, ◌&&◌}
use mathlib.Core.List.{List}
use native.Mathlib.Decide.{dec_lt, ℕ_discrete}
use native.Mathlib.Omega.{arith}
use lib.Dec.{eqb}
use lib.ListN.{length}
use Rattle.wire.specs.Fields.{Bytes}
use Rattle.wire.proofs.Laws.{number_below}
use Rattle.frame.specs.declared.Report.{Report}
use Rattle.frame.specs.Refusal.{first, absent}
use Rattle.settings.specs.declared.Settings.{Settings}
use Rattle.settings.specs.Settings.{setting_rows}
use Rattle.settings.proofs.Allowed.{allowed}
use Rattle.record.specs.Slots.{Record, rows, kinds, first_previous, frame_slot, report_slot, previous_slot, decision_slot, empty_slot}
use Rattle.record.specs.Layout.{encode_record, decode_record}
use Rattle.record.specs.inside.Layout.{Small, FitsBytes}
use Rattle.record.proofs.Laws.{small_in}
use Rattle.record.proofs.Theorems.{encode_size, decode_encode}
use Rattle.sound.specs.declared.Lent.TheVariants.{Unsound, Sound}
use Rattle.sound.specs.inside.Sound.{all, empty_at, place_sound, kind_sound, rows_sound, votes_sound, sound_in, sound, lent_is}
use Rattle.sound.proofs.Laws.{place_empty, empty_short, empty_reports, reports_lock, lent_other}
use Rattle.sound.proofs.All.{and_true, all_same}
use Rattle.own.specs.Size.{remnant_size}
use Rattle.own.specs.Part.{remnant_slots, remnant_place, own_slot, put_over, over, restored}
use Rattle.own.specs.inside.Own.{own_in, settings_in, view_in}
use Rattle.own.proofs.Slots.{own_head, own_report, own_last, own_is, own_below, over_else}
use Rattle.own.proofs.Changes.{slot_over}
use Rattle.contents.specs.Which.{is_sound}
use Rattle.remnant.specs.Sentences.{own_row_sound, OwnRowAlone}
use Rattle.remnant.specs.inside.Parts.{id_in, row_in, Fitting}
use Rattle.remnant.proofs.Laws.{own_row}

-- ---- the own row, read off the remnant

-- Its vault has a row.
pub fitting_row : (s : List ℕ) {set : Settings} → Fitting s set → id_in s < rows
fitting_row s {set} f = subst (λ (x : Settings). x.id < rows) f.is (own_row set f.good)

module _ (s : List ℕ) (size : length s ≡ remnant_size) (row : id_in s < rows) where
  -- Its slots are those of the record.
  there : (t : ℕ) → t < remnant_slots → {i : ℕ} → own_slot (id_in s) t ≡ i → own_in s t ≡ row_in s i
  there t low {i} is = sym (slot_over s size row (λ k. empty_slot) t low) ∙ ap (row_in s) is

  -- That of the frame of a kind.
  pub head_there : (kind : ℕ) → 1 ≤ kind → kind ≤ kinds → own_in s (kind - 1) ≡ row_in s (frame_slot kind (id_in s))
  head_there kind low high =
      there (kind - 1) (omega arith) (own_head (id_in s) (kind - 1) (omega arith) ∙ ap (λ (k : ℕ). frame_slot k (id_in s)) (omega arith))

  -- Those of the reports of a suggest or a proof.
  pub reports_there : (kind : ℕ) → 7 ≤ kind → kind ≤ 8 → (j : ℕ) → j < 3 → own_in s (8 + 3 * (kind - 7) + j) ≡ row_in s (report_slot kind j (id_in s))
  reports_there kind low high j three = there (8 + 3 * (kind - 7) + j) (omega arith) (own_report (id_in s) kind j low high three)

  -- The previous vote of a kind (2 is vote-1, 3 is vote-2), and the decision.
  pub last_there : (kind : ℕ) → 2 ≤ kind → kind ≤ 3 → own_in s (14 + (kind - 2)) ≡ row_in s (previous_slot kind)
  last_there kind low high = there (14 + (kind - 2)) (omega arith) (own_last (id_in s) (14 + (kind - 2)) (omega arith) ∙ omega arith)

  pub decision_there : own_in s 16 ≡ row_in s decision_slot
  decision_there = there 16 (omega arith) (own_last (id_in s) 16 (omega arith))

-- ---- all other rows

-- A test that holds of every number but one.
all_true : (f : ℕ → Bool) (n : ℕ) → ((j : ℕ) → j < n → f j ≡ true) → all f n ≡ true
unfolding all
all_true f zero h = refl
all_true f (suc n) h =
    let rest = all_true f n (λ (j : ℕ) (low : j < n). h j (omega arith)) in
    let last = h n (omega arith) in
    λ i. rest i && last i

pub all_only : (f : ℕ → Bool) (n i : ℕ) → i < n → ((j : ℕ) → j < n → j ≢ i → f j ≡ true) → all f n ≡ f i
unfolding all
all_only f zero i low h = absurd (omega arith)
all_only f (suc n) i low h = go (ℕ_discrete i n) (λ under. all_only f n i under (λ (j : ℕ) (b : j < n) (ne : j ≢ i). h j (omega arith) ne))
  where
    go : Dec (i ≡ n) → (i < n → all f n ≡ f i) → (all f n && f n) ≡ f i
    go (yes e) rest =
        let before = all_true f n (λ (j : ℕ) (b : j < n). h j (omega arith) (λ (g : j ≡ i). omega (arith, e, g, b))) in
        (λ k. before k && f (sym e k))
    go (no ne) rest =
        let last = h n (omega arith) (λ (g : n ≡ i). ne (sym g)) in
        let before = rest (omega arith) in
        (λ k. before k && last k) ∙ and_true (f i)

module _ (s : List ℕ) (row : id_in s < rows) where
  -- No other slot of a sender holds anything.
  else_empty : (i : ℕ) → i < first_previous → i % rows ≢ id_in s → row_in s i ≡ empty_slot
  unfolding over
  else_empty i low other =
      over_else (id_in s) row (λ k. empty_slot) (own_in s) remnant_slots i
      (λ t b e. other (subst (λ (k : ℕ). k < first_previous → k % rows ≡ id_in s) e (own_is (id_in s) row t) low))

  -- So the place of another sender is sound.
  other_sound : (set : Settings) (view kind sender : ℕ) → 1 ≤ kind → kind ≤ kinds → sender < rows → sender ≢ id_in s
      → place_sound (row_in s) set view kind sender ≡ true
  other_sound set view kind sender low high below ne =
      let head : row_in s (frame_slot kind sender) ≡ empty_slot =
      else_empty (frame_slot kind sender) (omega arith) (λ (e : frame_slot kind sender % rows ≡ id_in s). ne (omega arith)) in
      let none : absent (row_in s (frame_slot kind sender)) ≡ true = ap absent head in
      let blank : (row_in s (frame_slot kind sender)).mark ≡ 0 = ap (λ (x : Report). x.mark) head in
      place_empty (row_in s) set view kind sender (λ (e : (row_in s (frame_slot kind sender)).mark ≡ 1). omega (arith, blank, e)) ∙ go none (dec_lt kind 7)
    where
      told : (j : ℕ) → j < 3 → 7 ≤ kind → absent (row_in s (report_slot kind j sender)) ≡ true
      told j three seven =
          ap absent (else_empty (report_slot kind j sender) (omega arith) (λ (e : report_slot kind j sender % rows ≡ id_in s). ne (omega arith)))

      go : absent (row_in s (frame_slot kind sender)) ≡ true → Dec (kind < 7) → empty_at (row_in s) kind sender ≡ true
      go none (yes a) = empty_short (row_in s) kind sender none a
      go none (no a) =
          let seven : 7 ≤ kind = omega arith in
          empty_reports (row_in s) kind sender none seven
          ∙ reports_lock (row_in s) kind sender (told 0 (omega arith) seven) (told 1 (omega arith) seven) ∙ told 2 (omega arith) seven

  -- The places of a kind are the own one.
  kind_own : (set : Settings) (view kind : ℕ) → 1 ≤ kind → kind ≤ kinds → kind_sound (row_in s) set view kind ≡ place_sound (row_in s) set view kind (id_in s)
  unfolding kind_sound
  kind_own set view kind low high =
      all_only (place_sound (row_in s) set view kind) rows (id_in s) row (λ j b ne. other_sound set view kind j low high b ne)

  -- Those of all kinds are the own row.
  rows_own : (set : Settings) (view : ℕ) → rows_sound (row_in s) set view ≡ all (λ k. place_sound (row_in s) set view (k + 1) (id_in s)) kinds
  unfolding rows_sound
  rows_own set view =
      all_same (λ k. kind_sound (row_in s) set view (k + 1)) (λ k. place_sound (row_in s) set view (k + 1) (id_in s)) kinds
      (λ (k : ℕ) (b : k < kinds). kind_own set view (k + 1) (omega arith) (omega arith))

-- The record is sound just where its own row is.
pub own_row_alone : OwnRowAlone
unfolding sound_in own_row_sound over
own_row_alone s row =
    let set = settings_in s in
    let rest = rows_own s row set (view_in s) in
    λ i. eqb (first (setting_rows set)) 0 && (rest i && votes_sound (row_in s) (id_in s))

-- ---- what its bytes spell

module _ (s : List ℕ) (bytes : Bytes s) (row : id_in s < rows) where
  -- Its slots have their widths.
  small_over : (t i : ℕ) → Small (put_over (id_in s) (own_in s) (λ k. empty_slot) t i)
  unfolding put_over
  small_over zero i = record { mark = omega arith; view = omega arith; plan = omega arith }
  small_over (suc t) i = go (eqb (own_slot (id_in s) t) i) (small_over t i)
    where
      go : (b : Bool) → Small (put_over (id_in s) (own_in s) (λ k. empty_slot) t i)
          → Small (cond b (own_in s t) (put_over (id_in s) (own_in s) (λ k. empty_slot) t i))
      go true rest = small_in s (remnant_place t) bytes
      go false rest = rest

  -- So has the record,
  fits_back : FitsBytes (restored s)
  unfolding over
  fits_back = record {
    set = record { n = bytes 0; f = bytes 1; id = bytes 2; class = bytes 3 };
    view = number_below 4 s 4 bytes;
    plan = number_below 8 s 8 bytes;
    slots = small_over remnant_slots;
    beyond = λ i high. over_else (id_in s) row (λ k. empty_slot) (own_in s) remnant_slots i
        (λ (t : ℕ) (low : t < remnant_slots) (e : own_slot (id_in s) t ≡ i). omega (arith, high, e, own_below (id_in s) row t low));
  }

  -- and its bytes are sound just where its own row is.
  pub sound_back : first (setting_rows (settings_in s)) ≡ 0 → is_sound (lent_is (encode_record (restored s))) ≡ own_row_sound (restored s)
  unfolding over
  sound_back good =
      let made : List ℕ = encode_record (restored s) in
      let is = decode_encode (restored s) fits_back in
      let some : (decode_record made).set.n ≢ 0 = λ (e : (decode_record made).set.n ≡ 0). blank (ap (λ (r : Record). r.set.n) (sym is) ∙ e) in
      ap is_sound (lent_other made (encode_size (restored s)) some) ∙ told (sound (decode_record made)) ∙ ap (λ (r : Record). sound r) is ∙ own_row_alone s row
    where
      blank : (settings_in s).n ≢ 0
      blank e = let a = allowed (settings_in s) good in omega (arith, a.least, e)

      told : (b : Bool) → is_sound (cond b Sound Unsound) ≡ b
      told true = refl
      told false = refl

-- The tests of the code: with its settings and its view, and where these pass, by the own frames and then the own votes.
module _ (s : List ℕ) (bytes : Bytes s) {set : Settings} (f : Fitting s set) {view : ℕ} (ev : view ≡ view_in s) where
  own_told : is_sound (lent_is (encode_record (restored s)))
      ≡ (all (λ k. place_sound (row_in s) set view (k + 1) set.id) kinds && votes_sound (row_in s) (id_in s))
  unfolding own_row_sound over
  own_told =
      let es = f.is in
      let good = ap (λ (x : Settings). first (setting_rows x)) (sym es) ∙ f.good in
      sound_back s bytes (fitting_row s f) good
      ∙ (λ i. eqb (good i) 0 && (all (λ k. place_sound (row_in s) (sym es i) (sym ev i) (k + 1) (sym es i).id) kinds && votes_sound (row_in s) (id_in s)))

  -- A frame at fault.
  pub own_frames : all (λ k. place_sound (row_in s) set view (k + 1) set.id) kinds ≡ false → is_sound (lent_is (encode_record (restored s))) ≡ false
  own_frames bad = own_told ∙ ap (λ (b : Bool). b && votes_sound (row_in s) (id_in s)) bad

  -- None is: the votes decide.
  pub own_votes : all (λ k. place_sound (row_in s) set view (k + 1) set.id) kinds ≡ true
      → is_sound (lent_is (encode_record (restored s))) ≡ votes_sound (row_in s) (id_in s)
  own_votes fine = own_told ∙ ap (λ (b : Bool). b && votes_sound (row_in s) (id_in s)) fine
