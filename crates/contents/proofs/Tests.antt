-- What the tests of soundness on slots say of one place (document 01, 'What a vault keeps'): a slot of good form is a vote or
-- nothing, and a kind and a sender hold a sound frame and just its slots, or nothing at all.
-- Each test is taken apart, and put together again from what it says.
-- Assumes nothing.
use Prim.Native.Nat.{ℕ, zero, suc, ◌≤◌, ◌<◌}
use mathlib.Core.Path.{◌≡◌, refl, sym, ◌∙◌, ap, subst}
use mathlib.Core.Logic.{◌⊎◌, inl, inr}
use mathlib.Core.Bool.{Bool, true, false, cond, ◌&&◌, ◌||◌}
use mathlib.Core.Option.{Option, none, some}
use native.Mathlib.Omega.{arith}
use native.Mathlib.Decide.{dec_lt}
use lib.Dec.{ltb, eqb}
use borrow.Author.Tests.{eqb-true, eq-eqb, lt-ltb, le-ltb, not-false}
use Rattle.rules.proofs.Bools.{which, clash, both_split, both_join, or_left, or_right}
use Rattle.rules.specs.Rules.{Vote}
use Rattle.wire.specs.Fields as wire
use Rattle.frame.specs.declared.Report.{Report}
use Rattle.frame.specs.declared.Body.{Body}
use Rattle.frame.specs.declared.Frame.{Frame}
use Rattle.frame.specs.Format.{body_fields}
use Rattle.frame.specs.Valid.{fits, Valid}
use Rattle.frame.specs.Refusal.{present, absent, bad_form}
use Rattle.frame.proofs.Laws.{Form, plan, bare, reports, inside}
use Rattle.record.specs.Slots.{rows, kinds, frame_slot, report_slot, empty_slot}
use Rattle.record.specs.inside.Layout.{Small}
use Rattle.record.specs.Kept.{reports_in, body_in, frame_held, kept_in, plan_of}
use Rattle.record.proofs.Forms.{body_plan, body_bare, body_reports, kept_there, kept_nothing}
use Rattle.sound.specs.inside.Sound.{all, reports_absent, empty_at, no_plan}
use Rattle.sound.proofs.Laws.{all_stop}
use Rattle.protocol.specs.Record.{reported, spelt}
use Rattle.contents.specs.Contents.{head_of, nth, report_of_body, report_of_frame}

-- ---- a test of all numbers below n

-- Where all numbers pass, each does.
pub all_at : (test : ℕ → Bool) (n i : ℕ) → all test n ≡ true → i < n → test i ≡ true
all_at test n i h low = go (which (test i))
  where
    go : (test i ≡ true) ⊎ (test i ≡ false) → test i ≡ true
    go (inl e) = e
    go (inr e) = absurd (clash h (all_stop test n i low e))

-- And back.
pub all_of : (test : ℕ → Bool) (n : ℕ) → ((i : ℕ) → i < n → test i ≡ true) → all test n ≡ true
unfolding all
all_of test zero h = refl
all_of test (suc n) h = both_join (all test n) (test n) (all_of test n (λ i low. h i (omega arith))) (h n (omega arith))

-- ---- a slot

-- 'Absent means all 13 bytes zero': a slot that tests as absent is the empty one.
pub absent_is : (x : Report) → absent x ≡ true → x ≡ empty_slot
absent_is x h =
    let (a, t) = both_split (eqb x.mark 0) (eqb x.view 0 && eqb x.plan 0) h in
    let (b, c) = both_split (eqb x.view 0) (eqb x.plan 0) t in
    let m = eqb-true x.mark 0 a in
    let v = eqb-true x.view 0 b in
    let p = eqb-true x.plan 0 c in
    λ i. record { mark = m i; view = v i; plan = p i }

-- What the slot reports, its mark being known.
read_as : (x : Report) {b : Bool} → eqb x.mark 1 ≡ b → spelt (cond b (some (record { view = x.view; plan = x.plan })) none) ≡ spelt (reported x)
read_as x e = ap (λ (b : Bool). spelt (cond b (some (record { view = x.view; plan = x.plan })) none)) (sym e)

-- A slot of good form holds a vote or nothing.
pub formed_is : (x : Report) → bad_form x ≡ false → x ≡ spelt (reported x)
unfolding bad_form
formed_is x h = go (which (present x))
  where
    go : (present x ≡ true) ⊎ (present x ≡ false) → x ≡ spelt (reported x)
    go (inl e) = (let m = eqb-true x.mark 1 e in λ i. record { mark = m i; view = x.view; plan = x.plan }) ∙ read_as x e
    go (inr e) = absent_is x (ap (λ (b : Bool). b || absent x) (sym e) ∙ not-false (present x || absent x) h) ∙ read_as x e

-- And back.
pub formed_of : (x : Report) → x ≡ spelt (reported x) → bad_form x ≡ false
unfolding bad_form
formed_of x e = ap bad_form e ∙ go (reported x)
  where
    go : (o : Option Vote) → bad_form (spelt o) ≡ false
    go none = refl
    go (some v) = refl

-- ---- the slots of a kind and a sender

-- They hold what is read off them.
pub record Held (s : ℕ → Report) (k j : ℕ) : Type 0 where
  pub head : s (frame_slot k j) ≡ head_of (kept_in s k j)
  pub told : (w : ℕ) → w < 3 → 7 ≤ k → s (report_slot k w j) ≡ report_of_frame w (kept_in s k j)

module _ (s : ℕ → Report) (k j : ℕ) where
  -- The frame's own slot.
  abbrev x : Report
  x = s (frame_slot k j)

  -- The frame that the slots say.
  abbrev f : Frame
  f = frame_held s k j

  -- The table's column 'Rest': only kinds 1 to 5 have a plan.
  plan_is : Form k → no_plan k x.plan ≡ true → x.plan ≡ plan_of (body_in s k j)
  unfolding no_plan
  plan_is (plan low high) h = sym (ap plan_of (body_plan s k j low high))
  plan_is (bare e) h = eqb-true x.plan 0 (ap (λ (b : Bool). b || eqb x.plan 0) (sym (le-ltb k 6 (omega arith))) ∙ h) ∙ sym (ap plan_of (body_bare s k j e))
  plan_is (reports low high) h = eqb-true x.plan 0 (ap (λ (b : Bool). b || eqb x.plan 0) (sym (le-ltb k 6 (omega arith))) ∙ h)
      ∙ sym (ap plan_of (body_reports s k j low))

  -- And back: a slot whose plan is the body's passes the test.
  pub plan_only : Form k → x.plan ≡ plan_of (body_in s k j) → no_plan k x.plan ≡ true
  unfolding no_plan
  plan_only (plan low high) h = or_left (ltb k 6) (eqb x.plan 0) (lt-ltb k 6 (omega arith))
  plan_only (bare e) h = or_right (ltb k 6) (eqb x.plan 0) (eq-eqb x.plan 0 (h ∙ ap plan_of (body_bare s k j e)))
  plan_only (reports low high) h = or_right (ltb k 6) (eqb x.plan 0) (eq-eqb x.plan 0 (h ∙ ap plan_of (body_reports s k j low)))

  -- A report's slot is that report of the frame.
  nth_in : (w : ℕ) → w < 3 → s (report_slot k w j) ≡ nth w (reports_in s k j)
  nth_in zero low = refl
  nth_in (suc zero) low = refl
  nth_in (suc (suc zero)) low = refl
  nth_in (suc (suc (suc w))) low = absurd (omega arith)

  -- A slot that is marked, with a plan where its kind has one, holds the frame and nothing besides.
  pub held_there : Form k → x.mark ≡ 1 → no_plan k x.plan ≡ true → Held s k j
  unfolding frame_held
  held_there form e h =
      let p = plan_is form h in
      let kept = kept_there s k j e in
      record {
        head = (λ i. record { mark = e i; view = x.view; plan = p i }) ∙ ap head_of (sym kept);
        told = λ w lw seven. nth_in w lw ∙ ap (report_of_body w) (sym (body_reports s k j seven)) ∙ ap (report_of_frame w) (sym kept);
      }

  -- Slots that are all empty hold no frame and nothing besides.
  pub held_not : (x.mark ≡ 1 → ⊥) → empty_at s k j ≡ true → Held s k j
  unfolding empty_at reports_absent
  held_not e h =
      let kept = kept_nothing s k j e in
      let (a, b) = both_split (absent x) (ltb k 7 || reports_absent s k j) h in
      record {
        head = absent_is x a ∙ ap head_of (sym kept);
        told = λ w lw seven. absent_is (s (report_slot k w j)) (each w lw (ap (λ (b : Bool). b || reports_absent s k j) (sym (le-ltb k 7 (omega arith))) ∙ b))
            ∙ ap (report_of_frame w) (sym kept);
      }
    where
      each : (w : ℕ) → w < 3 → reports_absent s k j ≡ true → absent (s (report_slot k w j)) ≡ true
      each w low all =
          let (a, t) = both_split (absent (s (report_slot k 0 j))) (absent (s (report_slot k 1 j)) && absent (s (report_slot k 2 j))) all in
          let (b, c) = both_split (absent (s (report_slot k 1 j))) (absent (s (report_slot k 2 j))) t in
          pick w low a b c
        where
          pick : (w : ℕ) → w < 3 → absent (s (report_slot k 0 j)) ≡ true → absent (s (report_slot k 1 j)) ≡ true → absent (s (report_slot k 2 j)) ≡ true
              → absent (s (report_slot k w j)) ≡ true
          pick zero low a b c = a
          pick (suc zero) low a b c = b
          pick (suc (suc zero)) low a b c = c
          pick (suc (suc (suc w))) low a b c = absurd (omega arith)

  -- And back: slots that hold no frame, and nothing besides, are all empty.
  pub empty_of : (x.mark ≡ 1 → ⊥) → Held s k j → empty_at s k j ≡ true
  unfolding empty_at reports_absent
  empty_of e h =
      let kept = kept_nothing s k j e in
      both_join (absent x) (ltb k 7 || reports_absent s k j) (ap absent (h.head ∙ ap head_of kept))
      (go (dec_lt k 7) (λ w lw seven. ap absent (h.told w lw seven ∙ ap (report_of_frame w) kept)))
    where
      go : Dec (k < 7) → ((w : ℕ) → w < 3 → 7 ≤ k → absent (s (report_slot k w j)) ≡ true) → (ltb k 7 || reports_absent s k j) ≡ true
      go (yes low) told = or_left (ltb k 7) (reports_absent s k j) (lt-ltb k 7 low)
      go (no over) told =
          or_right (ltb k 7) (reports_absent s k j)
          (both_join (absent (s (report_slot k 0 j))) (absent (s (report_slot k 1 j)) && absent (s (report_slot k 2 j))) (told 0 (omega arith) (omega arith))
          (both_join (absent (s (report_slot k 1 j))) (absent (s (report_slot k 2 j))) (told 1 (omega arith) (omega arith)) (told 2 (omega arith) (omega arith))))

  -- A frame that slots of their widths hold has bytes.
  pub valid_in : Form k → k ≤ kinds → j < rows → ((i : ℕ) → Small (s i)) → Valid f
  unfolding frame_held
  valid_in form high row small = record { shape = shape form; sized = (omega arith, (omega arith, ((small (frame_slot k j)).view, sized form))) }
    where
      shape : Form k → fits k (body_in s k j) ≡ true
      shape (plan low high) = ap (fits k) (body_plan s k j low high) ∙ inside 1 5 k low high
      shape (bare e) = ap (fits k) (body_bare s k j e) ∙ eq-eqb k 6 e
      shape (reports low high) = ap (fits k) (body_reports s k j low) ∙ inside 7 8 k low high

      sized : Form k → wire.Sized (body_fields (body_in s k j))
      sized (plan low high) = subst (λ (b : Body). wire.Sized (body_fields b)) (sym (body_plan s k j low high)) ((small (frame_slot k j)).plan, tt)
      sized (bare e) = subst (λ (b : Body). wire.Sized (body_fields b)) (sym (body_bare s k j e)) tt
      sized (reports low high) = subst (λ (b : Body). wire.Sized (body_fields b)) (sym (body_reports s k j low))
          (let a = small (report_slot k 0 j) in
          let b = small (report_slot k 1 j) in
          let c = small (report_slot k 2 j) in
          (a.mark, (a.view, (a.plan, (b.mark, (b.view, (b.plan, (c.mark, (c.view, (c.plan, tt))))))))))
