-- What document 02, wish 5, promises of the vaults named: 'Each one named has two such frames in the records handed in, and nobody with two is missed.
-- If two records show quorums of vote-4 for different plans in one view, at least n - 2f vaults are named.' An accepted call leaves the list `rising` of
-- those that spoke twice, as both of its rows pass (`accepted_as`). Whoever spoke twice has a row below n, since the records are sound (`row_below`). Each
-- member of both quorums spoke twice, and two quorums share what they weigh more than all: total - 2f.
-- Assumes nothing.
use Prim.Native.Nat.{ℕ, zero, suc, ◌+◌, ◌-◌, ◌*◌, ◌≤◌, ◌<◌}
use mathlib.Core.Path.{◌≡◌, refl, sym, ◌∙◌, ap, subst}
use mathlib.Core.Logic.{◌≢◌, ◌⊎◌, inl, inr}
use mathlib.Core.Bool.{Bool, true, false, not, cond, ◌&&◌, ◌||◌}
use mathlib.Core.List.{List, [], ◌++◌, map, Memᴰ}
use mathlib.Core.Option.{Option, none, some, some-injective}
use native.Mathlib.Omega.{arith}
use lib.Dec.{ltb, eqb}
use lib.ListN.{length, get_or, take, drop, length-map, get_or-map, get_or-append}
use lib.Seq.{take-append_seam}
use borrow.Author.Tests.{eq-eqb, ne_eqb, eqb-true, eqb-false, not-true, not-false}
use Rattle.rules.specs.Sets.{Set, size, total}
use Rattle.rules.proofs.Bools.{which, clash, both_split, both_join, any_at, any_where}
use Rattle.rules.proofs.Reports.{none≢some}
use Rattle.rules.proofs.Quorums.{quorum_weighs, weigh_shared, weigh_mono, total_equals}
use Rattle.wire.specs.Placed.{placed}
use Rattle.frame.specs.declared.Body.TheVariants.{Plan}
use Rattle.frame.specs.declared.Frame.{Frame}
use Rattle.frame.specs.Format.{within}
use Rattle.frame.specs.Refusal.{first, present}
use Rattle.frame.proofs.Laws as laws
use Rattle.frame.proofs.Laws.{bounds, neither}
use Rattle.settings.specs.declared.Settings.{Settings}
use Rattle.settings.specs.Vaults.{vaults_of}
use Rattle.record.specs.Slots.{rows, Record, frame_slot, slot_of}
use Rattle.record.specs.Layout.{decode_record}
use Rattle.record.specs.Kept.{body_in, frame_held, kept_frame, plan_of}
use Rattle.record.proofs.Forms.{body_plan, kept_there, kept_nothing}
use Rattle.sound.specs.declared.Lent.{Lent}
use Rattle.sound.specs.declared.Lent.TheVariants.{Blank, Unsound, Sound}
use Rattle.sound.specs.inside.Sound.{lent_is}
use Rattle.contents.specs.Left.{Left, wrote, gave}
use Rattle.equivocation.specs.Named.{any, differ, two_plans, spoke_twice, rising, named}
use Rattle.contents.specs.Which.{is_sound}
use Rattle.equivocation.specs.Call.{handed_in, sum, unlike, mixed, unfit, misfit, collection_rows, left_with, equivocators_left}
use Rattle.equivocation.specs.Sentences.{record_at, Keeps, Twice, Accepted, NamedIff, NamedRise, QuorumsNamed, QuorumsCounted}
use Rattle.equivocation.proofs.Sound.{sound_pass, size_most, sender_below}
use Rattle.equivocation.proofs.Lists.{any_get, any_find, any_none, rising_in, rising_has, rising_length, rising_most, rising_rises}
use Rattle.equivocation.proofs.Lists.{handed_length, names_of, named_of}
use Rattle.equivocation.proofs.Pairs.{votes_are}

-- ---- kept votes

module _ (r : Record) (k s : ℕ) (x : Frame) (kept : kept_frame r k s ≡ some x) where
  -- What is kept stands in its slot.
  kept_was : (present (slot_of r (frame_slot k s)) ≡ true) × (frame_held (slot_of r) k s ≡ x)
  kept_was = go (which (present (slot_of r (frame_slot k s))))
    where
      go : (present (slot_of r (frame_slot k s)) ≡ true) ⊎ (present (slot_of r (frame_slot k s)) ≡ false)
          → (present (slot_of r (frame_slot k s)) ≡ true) × (frame_held (slot_of r) k s ≡ x)
      go (inl p) =
          let there = kept_there (slot_of r) k s (eqb-true (slot_of r (frame_slot k s)).mark 1 p) in
          (p, some-injective (frame_held (slot_of r) k s) x (sym there ∙ kept))
      go (inr p) = absurd (none≢some (sym (kept_nothing (slot_of r) k s (eqb-false (slot_of r (frame_slot k s)).mark 1 p)) ∙ kept))

  -- A kept proposal or vote is a plan of its kind and sender.
  kept_keeps : 1 ≤ k → k ≤ 5 → Keeps r k s x.view (plan_of x.body)
  unfolding frame_held
  kept_keeps low high =
      let body : body_in (slot_of r) k s ≡ Plan (plan_of (body_in (slot_of r) k s)) =
      body_plan (slot_of r) k s low high ∙ ap (λ (p : ℕ). Plan p) (ap plan_of (sym (body_plan (slot_of r) k s low high))) in
      let is : frame_held (slot_of r) k s ≡ x = kept_was.1 in
      kept ∙ subst (λ (y : Frame). some y ≡ some (record { kind = k; sender = s; view = y.view; body = Plan (plan_of y.body) })) is
      (λ i. some (record { kind = k; sender = s; view = (slot_of r (frame_slot k s)).view; body = body i }))

-- Kept frames that differ are both kept, for one view and with different plans.
differ_was : (a b : Option Frame) → differ a b ≡ true
    → (x : Frame) × (y : Frame) × (a ≡ some x) × (b ≡ some y) × (x.view ≡ y.view) × (plan_of x.body ≢ plan_of y.body)
differ_was none b e = absurd (clash e refl)
differ_was (some x) none e = absurd (clash e refl)
differ_was (some x) (some y) e =
    let (view, plan) = both_split (eqb x.view y.view) (not (eqb (plan_of x.body) (plan_of y.body))) e in
    let plans = eqb-false (plan_of x.body) (plan_of y.body) (not-true (eqb (plan_of x.body) (plan_of y.body)) plan) in
    (x, y, refl, refl, eqb-true x.view y.view view, plans)

-- Plans of one view that are different differ.
differ_keeps : (a b : Record) (k s v p q : ℕ) → p ≢ q → Keeps a k s v p → Keeps b k s v q → differ (kept_frame a k s) (kept_frame b k s) ≡ true
differ_keeps a b k s v p q ne here there =
    (λ i. differ (here i) (there i)) ∙ both_join (eqb v v) (not (eqb p q)) (eq-eqb v v refl) (ap not (ne_eqb p q ne))

-- ---- who spoke twice

-- Records x and y keep of s, in kind k, frames that differ.
abbrev pair : ℕ → ℕ → Record → Record → Bool
pair s k x y = differ (kept_frame x k s) (kept_frame y k s)

module _ (bs : List (List ℕ)) where
  -- The records that the bytes spell.
  abbrev spelt : List Record
  spelt = map decode_record bs

  -- Record i of them.
  spelt_at : (i : ℕ) → get_or spelt i (decode_record []) ≡ record_at bs i
  spelt_at i = get_or-map decode_record bs i []

  -- Frames of one kind that differ in two of the records.
  differ_plans : (i j kind s : ℕ) → i < length bs → j < length bs → pair s kind (record_at bs i) (record_at bs j) ≡ true → two_plans spelt kind s ≡ true
  unfolding two_plans
  differ_plans i j kind s li lj h =
      let long : length spelt ≡ length bs = length-map bs decode_record in
      let both : pair s kind (get_or spelt i (decode_record [])) (get_or spelt j (decode_record [])) ≡ true = (λ t. pair s kind (spelt_at i t) (spelt_at j t)) ∙ h in
      any_get (λ x. any (pair s kind x) spelt) spelt (decode_record []) i (omega arith)
      (any_get (pair s kind (get_or spelt i (decode_record []))) spelt (decode_record []) j (omega arith) both)

  -- Where there are such, they are found.
  plans_differ : (kind s : ℕ) → two_plans spelt kind s ≡ true
      → (i : ℕ) × (j : ℕ) × (i < length bs) × (j < length bs) × (pair s kind (record_at bs i) (record_at bs j) ≡ true)
  unfolding two_plans
  plans_differ kind s h =
      let long : length spelt ≡ length bs = length-map bs decode_record in
      let (i, li, first) = any_find (λ x. any (pair s kind x) spelt) spelt (decode_record []) h in
      let (j, lj, both) = any_find (pair s kind (get_or spelt i (decode_record []))) spelt (decode_record []) first in
      (i, j, omega arith, omega arith, (λ t. pair s kind (sym (spelt_at i) t) (sym (spelt_at j) t)) ∙ both)

  -- Two plans for one view and one kind of vote: it spoke twice.
  keeps_spoke : (i j kind s v p q : ℕ) → i < length bs → j < length bs → 2 ≤ kind → kind ≤ 5 → p ≢ q
      → Keeps (record_at bs i) kind s v p → Keeps (record_at bs j) kind s v q → spoke_twice spelt s ≡ true
  unfolding spoke_twice
  keeps_spoke i j kind s v p q li lj low high ne here there =
      let e : kind ≡ 2 + (kind - 2) = omega arith in
      let plans = differ_plans i j kind s li lj (differ_keeps (record_at bs i) (record_at bs j) kind s v p q ne here there) in
      votes_are (λ k. two_plans spelt k s)
      ∙ any_at (λ vote. two_plans spelt (2 + vote) s) 4 (kind - 2) (omega arith) (subst (λ (k : ℕ). two_plans spelt k s ≡ true) e plans)

  -- Frames of a vote that differ in two of the records are two plans for one view.
  differ_twice : (i j kind s : ℕ) → i < length bs → j < length bs → s < rows → 2 ≤ kind → kind ≤ 5
      → pair s kind (record_at bs i) (record_at bs j) ≡ true → Twice bs s
  differ_twice i j kind s li lj row low high h =
      let (x, y, here, there, views, plans) = differ_was (kept_frame (record_at bs i) kind s) (kept_frame (record_at bs j) kind s) h in
      let q : ℕ = plan_of y.body in
      record {
        i = i;
        j = j;
        kind = kind;
        view = x.view;
        p = plan_of x.body;
        q = q;
        records = (li, lj);
        row = row;
        vote = (low, high);
        plans = plans;
        here = kept_keeps (record_at bs i) kind s x here (omega arith) high;
        there = subst (λ (v : ℕ). Keeps (record_at bs j) kind s v q) (sym views) (kept_keeps (record_at bs j) kind s y there (omega arith) high);
      }

  -- So whoever spoke twice has two plans for one view and one kind of vote.
  spoke_keeps : (s : ℕ) → s < rows → spoke_twice spelt s ≡ true → Twice bs s
  unfolding spoke_twice
  spoke_keeps s row h =
      let (vote, low, plans) = any_where (λ vote. two_plans spelt (2 + vote) s) 4 (sym (votes_are (λ k. two_plans spelt k s)) ∙ h) in
      let (i, j, li, lj, both) = plans_differ (2 + vote) s plans in
      differ_twice i j (2 + vote) s li lj row (omega arith) (omega arith) both

  -- And conversely.
  twice_spoke : (s : ℕ) → Twice bs s → spoke_twice spelt s ≡ true
  twice_spoke s t =
      keeps_spoke t.i t.j t.kind s t.view t.p t.q t.records.0 t.records.1 t.vote.0 t.vote.1 t.plans t.here t.there

-- ---- an accepted call

-- Records that row 24 lets pass: some, sound, and of one n.
record Fit (bs : List (List ℕ)) : Type 0 where
  some_one : 1 ≤ length bs
  passed : (i : ℕ) → i < length bs → is_sound (lent_is (get_or bs i [])) ≡ true
  alike : (i : ℕ) → i < length bs → (record_at bs i).set.n ≡ (record_at bs 0).set.n

-- A call on such records that wrote their names at the start of the output.
record Wrote (bs : List (List ℕ)) (left : List ℕ) (count : ℕ) : Type 0 where
  fit : Fit bs
  rest : List ℕ
  counted : count ≡ length (names_of bs)
  written : left ≡ names_of bs ++ rest

-- Where no two settings are unlike, n is the same in all.
alike_of : (bs : List (List ℕ)) → 1 ≤ length bs → mixed (map decode_record bs) ≡ false
    → (i : ℕ) → i < length bs → (record_at bs i).set.n ≡ (record_at bs 0).set.n
unfolding mixed
alike_of bs one unmixed i low =
    let long : length (map decode_record bs) ≡ length bs = length-map bs decode_record in
    let rs : List Record = map decode_record bs in
    let first : any (λ y. unlike (get_or rs i (decode_record [])).set y.set) rs ≡ false =
    any_none (λ x. any (λ y. unlike x.set y.set) rs) rs (decode_record []) i unmixed (omega arith) in
    let second : unlike (get_or rs i (decode_record [])).set (get_or rs 0 (decode_record [])).set ≡ false =
    any_none (λ y. unlike (get_or rs i (decode_record [])).set y.set) rs (decode_record []) 0 first (omega arith) in
    let is : unlike (record_at bs i).set (record_at bs 0).set ≡ false = (λ t. unlike (sym (spelt_at bs i) t).set (sym (spelt_at bs 0) t).set) ∙ second in
    let same = (neither (not (eqb (record_at bs i).set.n (record_at bs 0).set.n)) (not (eqb (record_at bs i).set.f (record_at bs 0).set.f)) is).0 in
    eqb-true (record_at bs i).set.n (record_at bs 0).set.n (not-false (eqb (record_at bs i).set.n (record_at bs 0).set.n) same)

-- Records that are not unfit are fit.
fit_of : (bs : List (List ℕ)) → unfit bs ≡ false → Fit bs
unfolding unfit
fit_of bs e =
    let (number, rest) = neither (not (within 2 64 (length bs))) (any (λ b. not (is_sound (lent_is b))) bs || mixed (map decode_record bs)) e in
    let (sounds, mix) = neither (any (λ b. not (is_sound (lent_is b))) bs) (mixed (map decode_record bs)) rest in
    let (low, high) = bounds 2 64 (length bs) (not-false (within 2 64 (length bs)) number) in
    let one : 1 ≤ length bs = omega arith in
    record {
      some_one = one;
      passed = λ i l. not-false (is_sound (lent_is (get_or bs i []))) (any_none (λ b. not (is_sound (lent_is b))) bs [] i sounds l);
      alike = alike_of bs one mix;
    }

-- How many bytes a call wrote.
abbrev count_of : Left → ℕ
count_of (wrote count bytes out) = count
count_of (gave number bytes out) = 0

-- The output that it left.
abbrev out_of : Left → List ℕ
out_of (wrote count bytes out) = out
out_of (gave number bytes out) = out

-- An accepted call had fit records, and wrote their names.
accepted_as : (records lengths out left : List ℕ) (count : ℕ) → Accepted records lengths out count left → Wrote (handed_in lengths records) left count
unfolding equivocators_left misfit placed
accepted_as records lengths out left count e = go (handed_in lengths records) refl (first (collection_rows records lengths out)) refl e
  where
    go : (bs : List (List ℕ)) → handed_in lengths records ≡ bs → (k : ℕ) → first (collection_rows records lengths out) ≡ k
        → left_with k (named (map decode_record bs)) records out ≡ wrote count records left → Wrote bs left count
    go bs handed zero is e =
        let more = (laws.none (ltb (length out) 256) 1 (cond (misfit records lengths) 24 0) (omega arith) is).1 in
        let fits = (laws.none (misfit records lengths) 24 0 (omega arith) more).0 in
        let fine = (neither (not (eqb (sum lengths) (length records))) (unfit (handed_in lengths records)) fits).1 in
        let fit : Fit bs = fit_of bs (ap unfit (sym handed) ∙ fine) in
        let rest : List ℕ = drop (0 + length (named (map decode_record bs))) out in
        let same : named (map decode_record bs) ≡ names_of bs = named_of bs fit.some_one in
        record {
          fit = fit;
          rest = rest;
          counted = sym (ap count_of e) ∙ ap length same;
          written = sym (ap out_of e) ∙ ap (λ (l : List ℕ). l ++ rest) same;
        }
    go bs handed (suc k) is e = let z : ◌≡◌ {A = ℕ} 0 1 = cc in absurd (omega arith)

module _ (bs : List (List ℕ)) (left : List ℕ) (count : ℕ) (w : Wrote bs left count) where
  -- The bytes that were written are the names.
  taken_names : take count left ≡ names_of bs
  taken_names = rw (w.counted, w.written) (take-append_seam (names_of bs) w.rest)

  -- n is at most 64.
  most_names : (record_at bs 0).set.n ≤ 64
  most_names = size_most (record_at bs 0) (sound_pass (get_or bs 0 []) (w.fit.passed 0 w.fit.some_one))

  -- Whoever has two plans has a row below n.
  row_below : (s : ℕ) → Twice bs s → s < (record_at bs 0).set.n
  row_below s t =
      let there = (kept_was (record_at bs t.i) t.kind s (record { kind = t.kind; sender = s; view = t.view; body = Plan t.p }) t.here).0 in
      let pass = sound_pass (get_or bs t.i []) (w.fit.passed t.i t.records.0) in
      let (low, high) = t.vote in
      let below : s < (record_at bs t.i).set.n =
      sender_below (record_at bs t.i) pass t.kind s (omega arith) (omega arith) t.row there in
      subst (λ (n : ℕ). s < n) (w.fit.alike t.i t.records.0) below

-- The test of a sound record passes for no other.
sound_is : (x : Lent) → is_sound x ≡ true → x ≡ Sound
sound_is Blank e = absurd (clash e refl)
sound_is Unsound e = absurd (clash e refl)
sound_is Sound e = refl

-- Each record of an accepted call is sound.
pub accepted_sound : (records lengths out left : List ℕ) (count i : ℕ) → Accepted records lengths out count left → i < length (handed_in lengths records)
    → lent_is (get_or (handed_in lengths records) i []) ≡ Sound
accepted_sound records lengths out left count i e low =
    sound_is (lent_is (get_or (handed_in lengths records) i [])) ((accepted_as records lengths out left count e).fit.passed i low)

-- ---- the promises

-- 'Each one named has two such frames in the records handed in, and nobody with two is missed.'
pub named_iff : NamedIff
named_iff records lengths out left count s e =
    let bs : List (List ℕ) = handed_in lengths records in
    let w : Wrote bs left count = accepted_as records lengths out left count e in
    let spoke : Set = spoke_twice (map decode_record bs) in
    let most : (record_at bs 0).set.n ≤ 64 = most_names bs left count w in (
      λ at.
          let (low, here) = rising_in spoke (record_at bs 0).set.n s (subst (λ (l : List ℕ). Memᴰ s l) (taken_names bs left count w) at) in
          spoke_keeps bs s (omega arith) here,
      λ t.
          subst (λ (l : List ℕ). Memᴰ s l) (sym (taken_names bs left count w))
          (rising_has spoke (record_at bs 0).set.n s (row_below bs left count w s t) (twice_spoke bs s t)),
    )

-- 'by rising number, one byte each', and at most n of them.
pub named_rise : NamedRise
named_rise records lengths out left count e =
    let bs : List (List ℕ) = handed_in lengths records in
    let w : Wrote bs left count = accepted_as records lengths out left count e in
    let spoke : Set = spoke_twice (map decode_record bs) in
    let counted : count ≡ length (names_of bs) = w.counted in
    let at : (i : ℕ) → i < count → get_or left i 0 ≡ get_or (names_of bs) i 0 =
    λ i low. ap (λ (l : List ℕ). get_or l i 0) w.written ∙ get_or-append (names_of bs) w.rest 0 i (subst (λ (n : ℕ). i < n) counted low) in (
      omega (arith, counted, rising_most spoke (record_at bs 0).set.n),
      most_names bs left count w,
      λ i j less low.
          let first : i < count = omega arith in
          rw (at i first, at j low) (rising_rises spoke (record_at bs 0).set.n i j less (subst (λ (n : ℕ). j < n) counted low)),
    )

-- 'If two records show quorums of vote-4 for different plans in one view, at least n - 2f vaults are named', over any weights.
pub quorums_named : QuorumsNamed
quorums_named vs bs i j kind v p q li lj low high ne a b =
    let spoke : Set = spoke_twice (map decode_record bs) in
    let both : Set = λ s. a.who s && b.who s in
    let one : total vs ≤ size vs a.who + vs.f = (quorum_weighs vs a.who).0 a.large in
    let other : total vs ≤ size vs b.who + vs.f = (quorum_weighs vs b.who).0 b.large in
    let shared : size vs a.who + size vs b.who ≤ total vs + size vs both = weigh_shared vs.weight a.who b.who vs.n in
    let within : size vs both ≤ size vs spoke =
    weigh_mono vs.weight both spoke vs.n (λ s row h. let (x, y) = both_split (a.who s) (b.who s) h in
    keeps_spoke bs i j kind s v p q li lj low high ne (a.each s row x) (b.each s row y)) in
    omega (arith, one, other, shared, within)

-- The same of an accepted call: so many bytes were written.
pub quorums_counted : QuorumsCounted
quorums_counted records lengths out left count i j kind v p q e li lj low high ne set is a b =
    let bs : List (List ℕ) = handed_in lengths records in
    let w : Wrote bs left count = accepted_as records lengths out left count e in
    let spoke : Set = spoke_twice (map decode_record bs) in
    let long : length bs ≡ length lengths = handed_length lengths records in
    let large : total (vaults_of set) - 2 * set.f ≤ size (vaults_of set) spoke =
    quorums_named (vaults_of set) bs i j kind v p q (omega arith) (omega arith) low high ne a b in
    let all : total (vaults_of set) ≡ set.n = total_equals set.n set.f in
    let counted : count ≡ length (names_of bs) = w.counted in
    let members : length (rising spoke set.n) ≡ size (vaults_of set) spoke = rising_length spoke set.n in
    let same : length (names_of bs) ≡ length (rising spoke set.n) = ap (λ (x : Settings). length (rising spoke x.n)) (sym is) in
    omega (arith, large, all, counted, members, same)
