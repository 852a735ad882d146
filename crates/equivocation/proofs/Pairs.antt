-- Pairs of slots that differ (document 02, wish 5: 'every vault that appears in them with two different plans for one view and one kind').
-- The definition goes over all pairs of kept frames, the code over each slot and the earlier ones. Slots that differ do so either way round,
-- and none differs from itself, so both find the same; and a vote's slot holds its view and its plan.
-- Assumes nothing.
use Prim.Native.Nat.{ℕ, zero, suc, ◌+◌, ◌≤◌, ◌<◌}
use mathlib.Core.Path.{◌≡◌, refl, ap, sym, ◌∙◌}
use mathlib.Core.Bool.{Bool, true, false, not, ◌&&◌, ◌||◌, cond, and_assoc, and_comm}
use mathlib.Core.List.{List}
use mathlib.Core.Option.{none, some}
use native.Mathlib.Omega.{arith}
use native.Mathlib.Decide.{dec_lt}
use borrow.Author.Tests.{eq-eqb, eqb-true}
use lib.Dec.{eqb}
use lib.ListN.{length, get_or}
use Rattle.rules.specs.inside.Bools.{any_below}
use Rattle.rules.proofs.Bools.{clash, not_true, same_test, any_at, any_where}
use Rattle.frame.specs.declared.Report.{Report}
use Rattle.frame.specs.declared.Frame.{Frame}
use Rattle.frame.specs.Refusal.{present}
use Rattle.record.specs.Slots.{Record, frame_slot, slot_of}
use Rattle.record.specs.Kept.{frame_held, kept_in, kept_frame, plan_of}
use Rattle.record.proofs.Forms.{body_plan}
use Rattle.equivocation.specs.Named.{any, differ, two_plans, vote_kinds}
use Rattle.equivocation.specs.inside.Records.{slots_differ}
use Rattle.equivocation.proofs.Lists.{any_is}

-- ---- some of a list, and some below a number

-- Tests that agree below k give the same.
pub any_same : (f g : ℕ → Bool) (k : ℕ) → ((i : ℕ) → i < k → f i ≡ g i) → any_below f k ≡ any_below g k
unfolding any_below
any_same f g zero h = refl
any_same f g (suc k) h =
    let rest = any_same f g k (λ i low. h i (omega arith)) in
    let last = h k (omega arith) in
    λ i. rest i || last i

-- Where none below k passes, none does at a number.
pub none_at : (f : ℕ → Bool) (k i : ℕ) → any_below f k ≡ false → i < k → f i ≡ false
none_at f k i off low = not_true (f i) (λ e. clash (any_at f k i low e) off)

-- The kinds of vote-1 to vote-4 are the four from 2 on.
pub votes_are : (test : ℕ → Bool) → any test vote_kinds ≡ any_below (λ v. test (2 + v)) 4
unfolding any_below
votes_are test = any_is test vote_kinds 0

-- ---- pairs

-- What holds either way round, and of nothing with itself, holds of two numbers just where it holds of one and an earlier one.
pub earlier_enough : (c : ℕ → ℕ → Bool) (n : ℕ) → ((i j : ℕ) → c i j ≡ c j i) → ((i : ℕ) → c i i ≡ false)
    → any_below (λ i. any_below (c i) i) n ≡ any_below (λ i. any_below (c i) n) n
earlier_enough c n swap self = same_test (any_below (λ i. any_below (c i) i) n) (any_below (λ i. any_below (c i) n) n) to from
  where
    to : any_below (λ i. any_below (c i) i) n ≡ true → any_below (λ i. any_below (c i) n) n ≡ true
    to h =
        let (i, low, here) = any_where (λ i. any_below (c i) i) n h in
        let (j, less, there) = any_where (c i) i here in
        any_at (λ i. any_below (c i) n) n i low (any_at (c i) n j (omega arith) there)

    order : (i j : ℕ) → i < n → j < n → c i j ≡ true → Dec (j < i) → Dec (i < j) → any_below (λ i. any_below (c i) i) n ≡ true
    order i j low less there (yes before) later = any_at (λ i. any_below (c i) i) n i low (any_at (c i) i j before there)
    order i j low less there (no before) (yes behind) =
        any_at (λ i. any_below (c i) i) n j less (any_at (c j) j i behind (swap j i ∙ there))
    order i j low less there (no before) (no behind) =
        let e : j ≡ i = omega arith in
        absurd (clash there (ap (c i) e ∙ self i))

    from : any_below (λ i. any_below (c i) n) n ≡ true → any_below (λ i. any_below (c i) i) n ≡ true
    from h =
        let (i, low, here) = any_where (λ i. any_below (c i) n) n h in
        let (j, less, there) = any_where (c i) n here in
        order i j low less there (dec_lt j i) (dec_lt i j)

-- ---- two slots

-- Equal either way round.
eqb_swap : (a b : ℕ) → eqb a b ≡ eqb b a
eqb_swap a b = same_test (eqb a b) (eqb b a) (λ e. eq-eqb b a (sym (eqb-true a b e))) (λ e. eq-eqb a b (sym (eqb-true b a e)))

-- Three tests, the first two exchanged.
and_swap : (a b c : Bool) → (a && (b && c)) ≡ (b && (a && c))
and_swap a b c = sym (and_assoc a b c) ∙ ap (λ (x : Bool). x && c) (and_comm a b) ∙ and_assoc b a c

-- Slots differ either way round.
differ_swap : (x y : Report) → slots_differ x y ≡ slots_differ y x
unfolding slots_differ
differ_swap x y =
    let view = eqb_swap x.view y.view in
    let plan = eqb_swap x.plan y.plan in
    and_swap (present x) (present y) (eqb x.view y.view && not (eqb x.plan y.plan))
    ∙ (λ i. present y && (present x && (view i && not (plan i))))

-- A last test that fails decides.
and_none : (a b : Bool) → (a && (a && (b && false))) ≡ false
and_none true true = refl
and_none true false = refl
and_none false b = refl

-- No slot differs from itself.
differ_self : (x : Report) → slots_differ x x ≡ false
unfolding slots_differ
differ_self x =
    ap (λ (b : Bool). present x && (present x && (eqb x.view x.view && not b))) (eq-eqb x.plan x.plan refl)
    ∙ and_none (present x) (eqb x.view x.view)

-- Kept frames that differ, by the marks of their slots.
differ_marked : (a b : Bool) (f g : Frame) → differ (cond a (some f) none) (cond b (some g) none)
    ≡ (a && (b && (eqb f.view g.view && not (eqb (plan_of f.body) (plan_of g.body)))))
differ_marked true true f g = refl
differ_marked true false f g = refl
differ_marked false b f g = refl

-- Kept frames of kinds 1 to 5 differ just where their slots do.
frames_differ : (x y : Record) (k s : ℕ) → 1 ≤ k → k ≤ 5
    → differ (kept_frame x k s) (kept_frame y k s) ≡ slots_differ (x.slots (frame_slot k s)) (y.slots (frame_slot k s))
unfolding kept_in frame_held slots_differ
frames_differ x y k s low high =
    let a : Report = x.slots (frame_slot k s) in
    let b : Report = y.slots (frame_slot k s) in
    let p = ap plan_of (body_plan (slot_of x) k s low high) in
    let q = ap plan_of (body_plan (slot_of y) k s low high) in
    differ_marked (present a) (present b) (frame_held (slot_of x) k s) (frame_held (slot_of y) k s)
    ∙ (λ i. present a && (present b && (eqb a.view b.view && not (eqb (p i) (q i)))))

-- Two records of a list differ in a kept vote just where the vote's slot of one differs from that of an earlier one.
pub pairs_differ : (rs : List Record) (d : Record) (k s : ℕ) → 1 ≤ k → k ≤ 5
    → two_plans rs k s
    ≡ any_below (λ i. any_below (λ j. slots_differ ((get_or rs i d).slots (frame_slot k s)) ((get_or rs j d).slots (frame_slot k s))) i) (length rs)
unfolding two_plans
pairs_differ rs d k s low high =
    any_is (λ x. any (λ y. differ (kept_frame x k s) (kept_frame y k s)) rs) rs d
    ∙ any_same (λ i. any (λ y. differ (kept_frame (get_or rs i d) k s) (kept_frame y k s)) rs) (λ i. any_below (pair i) (length rs)) (length rs) inner
    ∙ sym (earlier_enough pair (length rs) (λ i j. differ_swap (slot i) (slot j)) (λ i. differ_self (slot i)))
  where
    slot : ℕ → Report
    slot i = (get_or rs i d).slots (frame_slot k s)

    pair : ℕ → ℕ → Bool
    pair i j = slots_differ (slot i) (slot j)

    inner : (i : ℕ) → i < length rs → any (λ y. differ (kept_frame (get_or rs i d) k s) (kept_frame y k s)) rs ≡ any_below (pair i) (length rs)
    inner i _ =
        any_is (λ y. differ (kept_frame (get_or rs i d) k s) (kept_frame y k s)) rs d
        ∙ any_same (λ j. differ (kept_frame (get_or rs i d) k s) (kept_frame (get_or rs j d) k s)) (pair i) (length rs)
        (λ j _. frames_differ (get_or rs i d) (get_or rs j d) k s low high)
