-- Laws of the rows of a kind: where no frame is kept, and the 64 places as rows looked at one by one and a rest.
-- Assumes nothing.
use Prim.Native.Nat.{ℕ, zero, suc, ◌+◌, ◌-◌, ◌*◌, ◌≤◌, ◌<◌}
use mathlib.Core.Path.{◌≡◌, refl, ap, sym, ◌∙◌}
use mathlib.Core.Bool.{Bool, true, false, ◌&&◌, ◌||◌}
use native.Mathlib.Omega.{arith}
use borrow.Author.Tests.{eq-eqb, eqb-true, lt-ltb, le-ltb}
use lib.Dec.{eqb, ltb}
use Rattle.frame.specs.declared.Report.{Report}
use Rattle.frame.specs.Refusal.{absent}
use Rattle.frame.proofs.Laws.{both}
use Rattle.settings.specs.declared.Settings.{Settings}
use Rattle.record.specs.Slots.{rows, frame_slot, report_slot}
use Rattle.record.specs.Kept.{frame_held}
use Rattle.sound.specs.inside.Sound.{all, reports_absent, empty_at, no_plan, place_sound, kind_sound}
use Rattle.sound.specs.inside.Bulk.{absent_from, told_absent, empty_from}
use Rattle.sound.proofs.Laws.{place_empty, place_plan, place_of_frame, empty_frame, frame_row}
use Rattle.sound.proofs.All.{all_same, all_both, all_split, all_at, and_true, and_false}

-- ---- rows where nothing may be kept

module _ (slots : ℕ → Report) (set : Settings) (view kind sender : ℕ) where
  -- the frame of a place has the place's sender, so it too is at n or above
  own : set.n ≤ sender → set.n ≤ (frame_held slots kind sender).sender
  unfolding frame_held
  own h = h

  -- 'every kept frame passes .. 11 ..': a row at n or above keeps nothing
  place_beyond : set.n ≤ sender → place_sound slots set view kind sender ≡ empty_at slots kind sender
  place_beyond h = go (eqb (slots (frame_slot kind sender)).mark 1) refl
    where
      marked : (slots (frame_slot kind sender)).mark ≡ 1 → empty_at slots kind sender ≡ false
      marked m = empty_frame slots kind sender (rw m)

      at : (slots (frame_slot kind sender)).mark ≡ 1 → (b : Bool) → no_plan kind (slots (frame_slot kind sender)).plan ≡ b
          → place_sound slots set view kind sender ≡ false
      at m true e = place_of_frame slots set view kind sender m e ∙ frame_row set view (frame_held slots kind sender) (own h)
      at m false e = place_plan slots set view kind sender m e

      go : (b : Bool) → eqb (slots (frame_slot kind sender)).mark 1 ≡ b → place_sound slots set view kind sender ≡ empty_at slots kind sender
      go true e =
          let m = eqb-true (slots (frame_slot kind sender)).mark 1 e in
          at m (no_plan kind (slots (frame_slot kind sender)).plan) refl ∙ sym (marked m)
      go false e = place_empty slots set view kind sender
          (λ (m : (slots (frame_slot kind sender)).mark ≡ 1). let z : true ≡ false = sym (eq-eqb (slots (frame_slot kind sender)).mark 1 m) ∙ e in
          let y : ◌≡◌ {A = ℕ} 0 1 = cc in omega arith)

  -- where the frame's slot is absent, only reports could be kept
  place_absent : absent (slots (frame_slot kind sender)) ≡ true
      → place_sound slots set view kind sender ≡ (ltb kind 7 || reports_absent slots kind sender)
  unfolding empty_at
  place_absent e =
      let z = eqb-true (slots (frame_slot kind sender)).mark 0 (both (eqb (slots (frame_slot kind sender)).mark 0) _ e).0 in
      place_empty slots set view kind sender (λ (g : (slots (frame_slot kind sender)).mark ≡ 1). omega (arith, z, g))
      ∙ ap (λ (b : Bool). b && (ltb kind 7 || reports_absent slots kind sender)) e

-- ---- a kind without a frame

-- the reports that are absent, or that a kind has not
abbrev pub no_report : (ℕ → Report) → ℕ → ℕ → Bool
no_report slots kind sender = ltb kind 7 || reports_absent slots kind sender

-- a test that always holds
every : (k : ℕ) → all (λ i. true) k ≡ true
unfolding all
every zero = refl
every (suc k) = rw (every k)

module _ (slots : ℕ → Report) (kind : ℕ) where
  -- with no frame kept for a kind, only the reports are left to ask
  pub kind_absent : (set : Settings) (view : ℕ) → all (absent_from slots (frame_slot kind 0)) rows ≡ true
      → kind_sound slots set view kind ≡ all (no_report slots kind) rows
  unfolding kind_sound
  kind_absent set view e =
      all_same (place_sound slots set view kind) (no_report slots kind) rows
      (λ i k. place_absent slots set view kind i
      (ap (λ (x : ℕ). absent (slots x)) (at i) ∙ all_at (absent_from slots (frame_slot kind 0)) rows i e k))
    where
      at : (i : ℕ) → frame_slot kind i ≡ frame_slot kind 0 + i
      at i = omega arith

  -- kinds 1 to 6 have no reports to ask
  pub reports_short : kind < 7 → (count : ℕ) → all (no_report slots kind) count ≡ true
  reports_short h count = all_same (no_report slots kind) (λ i. true) count (λ i k. rw (lt-ltb kind 7 h)) ∙ every count

-- ---- a rest that is empty

module _ (slots : ℕ → Report) (kind n count : ℕ) where
  -- whether row n + i has no report
  others : ℕ → Bool
  others i = no_report slots kind (n + i)

  -- an empty rest is absent frames and absent reports, each tested as one run
  rest_parts : all (empty_from slots kind n) count ≡ (all (absent_from slots (frame_slot kind 0 + n)) count && all others count)
  unfolding empty_at others
  rest_parts =
      all_both (λ i. absent (slots (frame_slot kind (n + i)))) others count
      ∙ ap (λ (b : Bool). b && all others count)
      (all_same (λ i. absent (slots (frame_slot kind (n + i)))) (absent_from slots (frame_slot kind 0 + n)) count
      (λ i k. ap (λ (x : ℕ). absent (slots x)) (at i)))
    where
      at : (i : ℕ) → frame_slot kind (n + i) ≡ frame_slot kind 0 + n + i
      at i = omega arith

  -- a frame's slot there is not absent: the rest is not empty
  pub rest_frames : all (absent_from slots (frame_slot kind 0 + n)) count ≡ false → all (empty_from slots kind n) count ≡ false
  rest_frames e = rest_parts ∙ rw e

  -- the frames' slots there are absent, kinds 1 to 6: the rest is empty
  pub rest_short : all (absent_from slots (frame_slot kind 0 + n)) count ≡ true → kind < 7 → all (empty_from slots kind n) count ≡ true
  unfolding others
  rest_short e h = rest_parts ∙ rw e (all_same others (λ i. true) count (λ i k. rw (lt-ltb kind 7 h)) ∙ every count)

  -- the reports of some rows stand in three groups
  groups : 7 ≤ kind → all others count ≡ told_absent slots (report_slot kind 0 0 + n) count
  unfolding others told_absent reports_absent
  groups h =
      all_same others (λ i. reports_absent slots kind (n + i)) count (λ i k. rw (le-ltb kind 7 h))
      ∙ all_both (λ i. absent (slots (report_slot kind 0 (n + i))))
      (λ i. absent (slots (report_slot kind 1 (n + i))) && absent (slots (report_slot kind 2 (n + i)))) count
      ∙ ap (λ (b : Bool). all (λ i. absent (slots (report_slot kind 0 (n + i)))) count && b)
      (all_both (λ i. absent (slots (report_slot kind 1 (n + i)))) (λ i. absent (slots (report_slot kind 2 (n + i)))) count)
      ∙ (λ t. group 0 (report_slot kind 0 0 + n) (λ i. omega arith) t && (group 1 (report_slot kind 0 0 + n + rows) (λ i. omega arith) t
      && group 2 (report_slot kind 0 0 + n + 2 * rows) (λ i. omega arith) t))
    where
      group : (which base : ℕ) → ((i : ℕ) → report_slot kind which (n + i) ≡ base + i)
          → all (λ i. absent (slots (report_slot kind which (n + i)))) count ≡ all (absent_from slots base) count
      group which base p = all_same (λ i. absent (slots (report_slot kind which (n + i)))) (absent_from slots base) count
          (λ i k. ap (λ (x : ℕ). absent (slots x)) (p i))

  -- the frames' slots there are absent, kinds 7 and 8: the reports decide, in their three groups
  pub rest_told : all (absent_from slots (frame_slot kind 0 + n)) count ≡ true → 7 ≤ kind
      → all (empty_from slots kind n) count ≡ told_absent slots (report_slot kind 0 0 + n) count
  rest_told e h = rest_parts ∙ rw e (groups h)

-- ---- three groups of reports

module _ (slots : ℕ → Report) (from count : ℕ) where
  -- some highest report is not absent: so not all are
  pub told_first : all (absent_from slots from) count ≡ false → told_absent slots from count ≡ false
  unfolding told_absent
  told_first a = rw a

  -- the highest are absent, some previous one is not: so not all are
  pub told_second : all (absent_from slots from) count ≡ true → all (absent_from slots (from + rows)) count ≡ false
      → told_absent slots from count ≡ false
  unfolding told_absent
  told_second a b = rw (a, b)

  -- both are absent: the locks decide
  pub told_third : all (absent_from slots from) count ≡ true → all (absent_from slots (from + rows)) count ≡ true
      → told_absent slots from count ≡ all (absent_from slots (from + 2 * rows)) count
  unfolding told_absent
  told_third a b = rw (a, b)

-- the reports of all 64 rows lie together
pub told_whole : (slots : ℕ → Report) (kind : ℕ) → 7 ≤ kind
    → all (absent_from slots (report_slot kind 0 0)) (3 * rows) ≡ all (no_report slots kind) rows
unfolding told_absent others
told_whole slots kind h =
    let f = absent_from slots (report_slot kind 0 0) in
    let g : ℕ → Bool = λ i. f (rows + i) in
    let first = all_same f (absent_from slots (report_slot kind 0 0 + 0)) rows (λ i k. ap (λ (x : ℕ). absent (slots x)) (near i)) in
    let second = all_same g (absent_from slots (report_slot kind 0 0 + 0 + rows)) rows (λ i k. ap (λ (x : ℕ). absent (slots x)) (on i)) in
    let third = all_same (λ i. g (rows + i)) (absent_from slots (report_slot kind 0 0 + 0 + 2 * rows)) rows
    (λ i k. ap (λ (x : ℕ). absent (slots x)) (far i)) in
    all_split f rows (2 * rows) ∙ ap (λ (b : Bool). all f rows && b) (all_split g rows rows) ∙ (λ i. first i && (second i && third i))
    ∙ sym (groups slots kind 0 rows h)
    ∙ all_same (others slots kind 0 rows) (no_report slots kind) rows (λ i k. ap (no_report slots kind) (none i))
  where
    near : (i : ℕ) → report_slot kind 0 0 + i ≡ report_slot kind 0 0 + 0 + i
    near i = omega arith

    on : (i : ℕ) → report_slot kind 0 0 + (rows + i) ≡ report_slot kind 0 0 + 0 + rows + i
    on i = omega arith

    far : (i : ℕ) → report_slot kind 0 0 + (rows + (rows + i)) ≡ report_slot kind 0 0 + 0 + 2 * rows + i
    far i = omega arith

    none : (i : ℕ) → 0 + i ≡ i
    none i = omega arith

-- ---- the 64 places

module _ (slots : ℕ → Report) (set : Settings) (view kind : ℕ) (small : set.n ≤ rows) where
  -- the 64 places of a kind are the n rows, and the rest where nothing may be kept
  kind_parts : kind_sound slots set view kind
      ≡ (all (place_sound slots set view kind) set.n && all (empty_from slots kind set.n) (rows - set.n))
  unfolding kind_sound
  kind_parts =
      let f = place_sound slots set view kind in
      let e : rows ≡ set.n + (rows - set.n) = omega arith in
      ap (all f) e ∙ all_split f set.n (rows - set.n)
      ∙ ap (λ (b : Bool). all f set.n && b) (all_same (λ i. f (set.n + i)) (empty_from slots kind set.n) (rows - set.n)
      (λ i k. place_beyond slots set view kind (set.n + i) (omega arith)))

  -- something in the rest: the kind is unsound
  pub kind_rest : all (empty_from slots kind set.n) (rows - set.n) ≡ false → kind_sound slots set view kind ≡ false
  kind_rest e = kind_parts ∙ rw e (and_false (all (place_sound slots set view kind) set.n))

  -- an empty rest: the n rows decide
  pub kind_places : all (empty_from slots kind set.n) (rows - set.n) ≡ true
      → kind_sound slots set view kind ≡ all (place_sound slots set view kind) set.n
  kind_places e = kind_parts ∙ rw e (and_true (all (place_sound slots set view kind) set.n))
