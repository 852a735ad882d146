-- What is asked of a kept frame, by its form (01, Frames and Refusals): of a vote, that its own row is not above the current view; of a
-- proposal also its leader; of a view-change a view above 0; of a suggest or a proof all of them, and its reports.
-- Assumes nothing.
use Prim.Native.Nat.{ℕ, ◌≤◌, ◌<◌}
use mathlib.Core.Path.{◌≡◌, refl, ap, sym, ◌∙◌}
use mathlib.Core.Bool.{Bool, true, false, not, ◌&&◌, ◌||◌, cond, or-false}
use mathlib.Core.List.{[], ◌∷◌, ◌++◌}
use native.Mathlib.Omega.{arith}
use borrow.Author.Tests.{eq-eqb, ne_eqb, eqb-true, eqb-false, lt-ltb, le-ltb, ltb-true, ltb-false, lt-leb, le-leb, not-true}
use lib.Dec.{eqb, ltb, leb}
use Rattle.frame.specs.declared.Report.{Report}
use Rattle.frame.specs.declared.Reports.{Reports}
use Rattle.frame.specs.Format.{within, three_reports}
use Rattle.frame.specs.Refusal.{row, first, absent, bad_form, too_high, bad_previous, report_rows, leader_of, view_missing, misled}
use Rattle.frame.proofs.Laws.{both, bounds, under, inside, first_some, first_none}
use Rattle.settings.specs.declared.Settings.{Settings}
use Rattle.record.specs.Slots.{frame_slot}
use Rattle.record.specs.Kept.{reports_in, frame_held}
use Rattle.record.proofs.Forms.{body_plan, body_bare, body_reports}
use Rattle.sound.specs.declared.Head.{Head}
use Rattle.sound.specs.inside.Sound.{no_plan, ahead, frame_sound, place_sound}
use Rattle.sound.specs.inside.Bulk.{Marked, plan_frame, bare_frame, told_frame, report_fits}
use Rattle.sound.proofs.Laws.{place_plan, place_of_frame, formed_other}
use Rattle.sound.proofs.All.{and_true, and_false}

-- a row that is not given leaves 0
cond15 : (b : Bool) → eqb (cond b 15 0) 0 ≡ not b
cond15 true = refl
cond15 false = refl

-- the same for row 13
cond13 : (b : Bool) → eqb (cond b 13 0) 0 ≡ not b
cond13 true = refl
cond13 false = refl

-- a test denied twice is the test
twice : (b : Bool) → not (not b) ≡ b
twice true = refl
twice false = refl

-- a frame of the own row above the current view
abbrev pub own : Settings → ℕ → Head → Bool
own set view head = eqb head.sender set.id && ltb view head.view

-- ---- frames

module _ (set : Settings) (view : ℕ) (head : Head) (low : 1 ≤ head.kind) (high : head.kind ≤ 5) (below : head.sender < set.n) (plan : ℕ) where
  -- what is left to ask of a proposal or a vote: its own row not above the current view, and a proposal's leader
  plan_rows : frame_sound set view (plan_frame head plan)
      ≡ (not (own set view head) && not (eqb head.kind 1 && not (eqb (leader_of head.view set.n) head.sender)))
  unfolding frame_sound ahead view_missing misled
  plan_rows =
      simp (
        lt-ltb head.sender set.n below,
        ne_eqb head.kind 6 (omega arith),
        under 6 8 head.kind (omega arith),
        ne_eqb head.kind 7 (omega arith),
        or-false,
      )
      (ap (λ (b : Bool). not (own set view head) && b) (cond15 (eqb head.kind 1 && not (eqb (leader_of head.view set.n) head.sender))))

  -- of the own row and above the current view, it is unsound
  pub plan_above : own set view head ≡ true → frame_sound set view (plan_frame head plan) ≡ false
  plan_above e = plan_rows ∙ rw e

  -- else a vote is sound
  pub plan_vote : own set view head ≡ false → (head.kind ≡ 1 → ⊥) → frame_sound set view (plan_frame head plan) ≡ true
  plan_vote e k = plan_rows ∙ rw (e, ne_eqb head.kind 1 k)

  -- and a proposal is where its sender leads its view
  pub plan_proposal : own set view head ≡ false → head.kind ≡ 1
      → frame_sound set view (plan_frame head plan) ≡ eqb (leader_of head.view set.n) head.sender
  plan_proposal e k = plan_rows ∙ rw (e, eq-eqb head.kind 1 k) (twice (eqb (leader_of head.view set.n) head.sender))

-- a view-change in a row below n is sound just where its view is not 0
pub bare_rows : (set : Settings) (view : ℕ) (head : Head) → head.kind ≡ 6 → head.sender < set.n
    → frame_sound set view (bare_frame head) ≡ not (eqb head.view 0)
unfolding frame_sound ahead view_missing misled
bare_rows set view head k below =
    simp (
      lt-ltb head.sender set.n below,
      eq-eqb head.kind 6 k,
      ne_eqb head.kind 1 (omega arith),
      ne_eqb head.kind 7 (omega arith),
      inside 6 8 head.kind (omega arith) (omega arith),
      and_false,
    ) (cond13 (eqb head.view 0))

-- ---- reports

-- the rows 14, 21 and 22 give nothing just where each report fits and previous stands to highest
table : (a b c x y z w : Bool)
    → eqb (cond (a || (b || (c || false))) 14 (cond (x || (y || (z || false))) 21 (cond w 22 0))) 0
    ≡ ((not a && not x) && ((not b && not y) && ((not c && not z) && not w)))
table true b c x y z w = refl
table false true c true y z w = refl
table false true c false y z w = refl
table false false true true y z w = refl
table false false true false true z w = refl
table false false true false false z w = refl
table false false false true y z w = refl
table false false false false true z w = refl
table false false false false false true w = refl
table false false false false false false true = refl
table false false false false false false false = refl

module _ (view : ℕ) (t : Reports) where
  -- the same of the three reports of a suggest or a proof
  reports_table : eqb (first (report_rows view (three_reports t))) 0
      ≡ (report_fits view t.highest
      && (report_fits view t.previous && (report_fits view t.lock && not (bad_previous t.highest t.previous))))
  unfolding report_fits
  reports_table =
      table (bad_form t.highest) (bad_form t.previous) (bad_form t.lock)
      (too_high view t.highest) (too_high view t.previous) (too_high view t.lock) (bad_previous t.highest t.previous)

  -- the highest does not fit: 14 or 21 is given
  pub fits_highest : report_fits view t.highest ≡ false → eqb (first (report_rows view (three_reports t))) 0 ≡ false
  fits_highest a = reports_table ∙ rw a

  -- the previous does not fit: 14 or 21 is given
  pub fits_previous : report_fits view t.highest ≡ true → report_fits view t.previous ≡ false
      → eqb (first (report_rows view (three_reports t))) 0 ≡ false
  fits_previous a b = reports_table ∙ rw (a, b)

  -- the lock does not fit: 14 or 21 is given
  pub fits_lock : report_fits view t.highest ≡ true → report_fits view t.previous ≡ true → report_fits view t.lock ≡ false
      → eqb (first (report_rows view (three_reports t))) 0 ≡ false
  fits_lock a b c = reports_table ∙ rw (a, b, c)

  -- all three fit: previous against highest decides
  pub fits_all : report_fits view t.highest ≡ true → report_fits view t.previous ≡ true → report_fits view t.lock ≡ true
      → eqb (first (report_rows view (three_reports t))) 0 ≡ not (bad_previous t.highest t.previous)
  fits_all a b c = reports_table ∙ rw (a, b, c)

-- a report without a mark fits where all its bytes are zero
pub report_absent : (view : ℕ) (r : Report) → (r.mark ≡ 1 → ⊥) → report_fits view r ≡ absent r
unfolding report_fits too_high
report_absent view r h = rw (formed_other r h, ne_eqb r.mark 1 h) (and_true (absent r))

-- a marked report fits where it is below the frame's view
pub report_present : (view : ℕ) (r : Report) → r.mark ≡ 1 → report_fits view r ≡ ltb r.view view
unfolding report_fits bad_form too_high
report_present view r h = rw (eq-eqb r.mark 1 h) (go (ltb r.view view) refl)
  where
    go : (b : Bool) → ltb r.view view ≡ b → not (leb view r.view) ≡ ltb r.view view
    go true e = rw (e, lt-leb view r.view (ltb-true r.view view e))
    go false e = rw (e, le-leb view r.view (ltb-false r.view view e))

module _ (set : Settings) (view : ℕ) (head : Head) (t : Reports) (low : 7 ≤ head.kind) (high : head.kind ≤ 8) (below : head.sender < set.n) where
  -- row 13 of a suggest or a proof: its view is 0
  missing : view_missing head.kind head.view ≡ eqb head.view 0
  unfolding view_missing
  missing = rw (inside 6 8 head.kind (omega arith) high)

  -- row 15 asks only a suggest: whether this vault leads its view
  led : misled head.kind head.sender head.view set.n set.id ≡ (eqb head.kind 7 && not (eqb (leader_of head.view set.n) set.id))
  unfolding misled
  led = rw (ne_eqb head.kind 1 (omega arith))

  -- what is left to ask of a suggest or a proof: its own row, its view, its reports, and a suggest's leader
  told_rows : frame_sound set view (told_frame head t)
      ≡ (not (own set view head)
      && eqb (cond (eqb head.view 0) 13 (first (report_rows head.view (three_reports t)
      ++ row 15 (eqb head.kind 7 && not (eqb (leader_of head.view set.n) set.id)) ∷ []))) 0)
  unfolding frame_sound ahead
  told_rows = simp (lt-ltb head.sender set.n below, ne_eqb head.kind 6 (omega arith), missing, led)

  -- of the own row and above the current view, it is unsound
  pub told_above : own set view head ≡ true → frame_sound set view (told_frame head t) ≡ false
  told_above e = told_rows ∙ rw e

  -- at view 0 it is unsound
  pub told_zero : own set view head ≡ false → head.view ≡ 0 → frame_sound set view (told_frame head t) ≡ false
  told_zero e z = told_rows ∙ rw (e, eq-eqb head.view 0 z)

  module _ (e : own set view head ≡ false) (z : head.view ≡ 0 → ⊥) where
    -- with a bad report it is unsound
    pub told_bad : eqb (first (report_rows head.view (three_reports t))) 0 ≡ false → frame_sound set view (told_frame head t) ≡ false
    told_bad b =
        told_rows ∙ rw (
          e,
          ne_eqb head.view 0 z,
          first_some (report_rows head.view (three_reports t)) (row 15 (eqb head.kind 7 && not (eqb (leader_of head.view set.n) set.id)) ∷ [])
              (eqb-false (first (report_rows head.view (three_reports t))) 0 b),
        ) b

    -- with good reports row 15 decides
    told_good : eqb (first (report_rows head.view (three_reports t))) 0 ≡ true
        → frame_sound set view (told_frame head t) ≡ not (eqb head.kind 7 && not (eqb (leader_of head.view set.n) set.id))
    told_good b =
        told_rows ∙ rw (
          e,
          ne_eqb head.view 0 z,
          first_none (report_rows head.view (three_reports t)) (row 15 (eqb head.kind 7 && not (eqb (leader_of head.view set.n) set.id)) ∷ [])
              (omega arith, (omega arith, (omega arith, tt))) (eqb-true (first (report_rows head.view (three_reports t))) 0 b),
        )
        (cond15 (eqb head.kind 7 && not (eqb (leader_of head.view set.n) set.id)))

    -- a proof with good reports is sound
    pub told_proof : eqb (first (report_rows head.view (three_reports t))) 0 ≡ true → (head.kind ≡ 7 → ⊥)
        → frame_sound set view (told_frame head t) ≡ true
    told_proof b k = told_good b ∙ rw (ne_eqb head.kind 7 k)

    -- a suggest with good reports is sound where this vault leads its view
    pub told_suggest : eqb (first (report_rows head.view (three_reports t))) 0 ≡ true → head.kind ≡ 7
        → frame_sound set view (told_frame head t) ≡ eqb (leader_of head.view set.n) set.id
    told_suggest b k = told_good b ∙ rw (eq-eqb head.kind 7 k) (twice (eqb (leader_of head.view set.n) set.id))

-- ---- places where a frame is kept

module _ (slots : ℕ → Report) (set : Settings) (view : ℕ) (head : Head) (m : Marked slots head) where
  -- a marked place of kinds 1 to 5 is sound where the proposal or vote with its plan is
  pub kept_plan : 1 ≤ head.kind → head.kind ≤ 5
      → place_sound slots set view head.kind head.sender ≡ frame_sound set view (plan_frame head (slots (frame_slot head.kind head.sender)).plan)
  unfolding no_plan frame_held
  kept_plan low high =
      let d = sym m.view in
      let body = body_plan slots head.kind head.sender low high in
      place_of_frame slots set view head.kind head.sender m.mark (rw (lt-ltb head.kind 6 (omega arith)))
      ∙ (λ i. frame_sound set view (record { kind = head.kind; sender = head.sender; view = d i; body = body i }))

  -- a plan beside a view-change, a suggest or a proof is unsound
  pub kept_planned : 6 ≤ head.kind → ((slots (frame_slot head.kind head.sender)).plan ≡ 0 → ⊥)
      → place_sound slots set view head.kind head.sender ≡ false
  unfolding no_plan
  kept_planned low p =
      place_plan slots set view head.kind head.sender m.mark
      (rw (le-ltb head.kind 6 low) (ne_eqb (slots (frame_slot head.kind head.sender)).plan 0 p))

  -- without a plan there, the frame alone decides
  none : 6 ≤ head.kind → (slots (frame_slot head.kind head.sender)).plan ≡ 0
      → no_plan head.kind (slots (frame_slot head.kind head.sender)).plan ≡ true
  unfolding no_plan
  none low p = rw (le-ltb head.kind 6 low) (eq-eqb (slots (frame_slot head.kind head.sender)).plan 0 p)

  -- a marked place of kind 6 without a plan is sound where the view-change is
  pub kept_bare : head.kind ≡ 6 → (slots (frame_slot head.kind head.sender)).plan ≡ 0
      → place_sound slots set view head.kind head.sender ≡ frame_sound set view (bare_frame head)
  unfolding frame_held
  kept_bare k p =
      let d = sym m.view in
      let body = body_bare slots head.kind head.sender k in
      place_of_frame slots set view head.kind head.sender m.mark (none (omega arith) p)
      ∙ (λ i. frame_sound set view (record { kind = head.kind; sender = head.sender; view = d i; body = body i }))

  -- a marked place of kinds 7 and 8 without a plan is sound where the suggest or proof with its three reports is
  pub kept_told : 7 ≤ head.kind → (slots (frame_slot head.kind head.sender)).plan ≡ 0
      → place_sound slots set view head.kind head.sender
      ≡ frame_sound set view (told_frame head (reports_in slots head.kind head.sender))
  unfolding frame_held
  kept_told low p =
      let d = sym m.view in
      let body = body_reports slots head.kind head.sender low in
      place_of_frame slots set view head.kind head.sender m.mark (none (omega arith) p)
      ∙ (λ i. frame_sound set view (record { kind = head.kind; sender = head.sender; view = d i; body = body i }))

-- a vote in a row that is not the own one
pub kept_free : (slots : ℕ → Report) (set : Settings) (view kind sender : ℕ) → (slots (frame_slot kind sender)).mark ≡ 1
    → (not (eqb sender set.id) && within 2 5 kind) ≡ true → sender < set.n → place_sound slots set view kind sender ≡ true
kept_free slots set view kind sender m f below =
    let h = both (not (eqb sender set.id)) (within 2 5 kind) f in
    let k = bounds 2 5 kind h.1 in
    let other : eqb sender set.id ≡ false = not-true (eqb sender set.id) h.0 in
    let low : 1 ≤ kind = omega arith in
    let head : Head = record { kind = kind; sender = sender; view = (slots (frame_slot kind sender)).view } in
    kept_plan slots set view head (record { mark = m; view = refl }) low k.1
    ∙ plan_vote set view head low k.1 below (slots (frame_slot kind sender)).plan (rw other) (λ (z : kind ≡ 1). omega arith)
