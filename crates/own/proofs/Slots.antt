-- The slots of an own part: which of a record's they are, and what they make when they are put over what was heard. They are just the slots of the own sender
-- and those behind the reports, each named once: where a slot stands tells its sender by division, for rows are 64 long.
-- Assumes nothing.
use Prim.Native.Nat.{ℕ, zero, suc, ◌+◌, ◌-◌, ◌*◌, ◌/◌, ◌%◌, ◌≤◌, ◌<◌}
use mathlib.Core.Path.{◌≡◌, refl, sym, ◌∙◌, ap, subst}
use mathlib.Core.Logic.{◌≢◌, ◌⊎◌, inl, inr}
use mathlib.Core.Bool.{Bool, true, false, cond}
use native.Mathlib.Numerals.{add-one}
use native.Mathlib.Omega.{arith}
use native.Mathlib.Decide.{dec_lt, ℕ_discrete}
use lib.Dec.{ltb, eqb}
use borrow.Author.Tests.{lt-ltb, le-ltb, eq-eqb, ne_eqb, eqb-true}
use Rattle.frame.specs.declared.Report.{Report}
use Rattle.record.specs.Slots.{rows, kinds, first_report, first_previous, slot_count, frame_slot, report_slot}
use Rattle.record.specs.inside.Slots.{slot_put}
use Rattle.own.specs.Part.{remnant_slots, own_slot, put_over}

-- ---- which slots they are

-- A slot of the own sender, or one that no sender has: a previous vote or the decision.
abbrev pub Own : ℕ → ℕ → Type 0
Own id i = i < first_previous → i % rows ≡ id

-- A slot is an own one or not.
pub whether : (id i : ℕ) → Own id i ⊎ (Own id i → ⊥)
whether id i = go (dec_lt i first_previous) (ℕ_discrete (i % rows) id)
  where
    go : Dec (i < first_previous) → Dec (i % rows ≡ id) → Own id i ⊎ (Own id i → ⊥)
    go (yes a) (yes b) = inl (λ _. b)
    go (yes a) (no b) = inr (λ own. b (own a))
    go (no a) b = inl (λ (c : i < first_previous). absurd (a c))

module _ (id : ℕ) where
  -- The first eight are those of the own frames,
  pub own_head : (t : ℕ) → t < kinds → own_slot id t ≡ frame_slot (suc t) id
  unfolding own_slot
  own_head t low = rw (lt-ltb t kinds low) refl

  -- six more those of the own reports,
  own_told : (t : ℕ) → kinds ≤ t → t < 14 → own_slot id t ≡ t * rows + id
  unfolding own_slot
  own_told t low high = rw (le-ltb t kinds low, lt-ltb t 14 high) (omega arith)

  -- the others those behind the reports.
  pub own_last : (t : ℕ) → 14 ≤ t → own_slot id t ≡ first_previous + (t - 14)
  unfolding own_slot
  own_last t low = rw (le-ltb t kinds (omega arith), le-ltb t 14 low)

  -- A report of the own suggest or proof, by its kind.
  pub own_report : (kind j : ℕ) → 7 ≤ kind → kind ≤ 8 → j < 3 → own_slot id (8 + 3 * (kind - 7) + j) ≡ report_slot kind j id
  own_report kind j low high three = own_told (8 + 3 * (kind - 7) + j) (omega arith) (omega arith) ∙ omega arith

  -- The same three cases, as the code has them.
  pub own_frame_at : (t : ℕ) {at : ℕ} → at ≡ frame_slot (t + 1) id → t < 8 → at ≡ own_slot id t
  own_frame_at t is low = is ∙ rw add-one (sym (own_head t low))

  pub own_report_at : (t : ℕ) {at : ℕ} → at ≡ report_slot (7 + (t - 8) / 3) ((t - 8) % 3) id → 8 ≤ t → t < 14 → at ≡ own_slot id t
  unfolding own_slot
  own_report_at t is low high = is ∙ rw (le-ltb t 8 low, lt-ltb t 14 high) refl

  -- What holds in these three cases holds of each.
  own_cases : (t : ℕ) (P : ℕ → Type 0) → (t < kinds → P (frame_slot (suc t) id)) → (kinds ≤ t → t < 14 → P (t * rows + id))
      → (14 ≤ t → P (first_previous + (t - 14))) → P (own_slot id t)
  own_cases t P head told last = go (dec_lt t kinds) (dec_lt t 14)
    where
      go : Dec (t < kinds) → Dec (t < 14) → P (own_slot id t)
      go (yes a) b = subst P (sym (own_head t a)) (head a)
      go (no a) (yes b) = subst P (sym (own_told t (omega arith) b)) (told (omega arith) b)
      go (no a) (no b) = subst P (sym (own_last t (omega arith))) (last (omega arith))

  -- Which of them an own slot is.
  abbrev number_of : ℕ → ℕ
  number_of i = cond (ltb i first_report) ((i / rows + 5) % kinds) (cond (ltb i first_previous) (i / rows) (14 + (i - first_previous)))

  module _ (row : id < rows) where
    -- Each is an own slot.
    pub own_is : (t : ℕ) → Own id (own_slot id t)
    own_is t = own_cases t (Own id) (λ (a : t < kinds) (b : frame_slot (suc t) id < first_previous). omega arith)
        (λ (a : kinds ≤ t) (b : t < 14) (c : t * rows + id < first_previous). omega arith)
        (λ (a : 14 ≤ t) (b : first_previous + (t - 14) < first_previous). omega arith)

    -- The seventeen are slots of a record.
    pub own_below : (t : ℕ) → t < remnant_slots → own_slot id t < slot_count
    own_below t low = own_cases t (λ i. i < slot_count) (λ (a : t < kinds). omega arith) (λ (a : kinds ≤ t) (b : t < 14). omega arith)
        (λ (a : 14 ≤ t). omega arith)

    -- The number of one is read off its place,
    own_number : (t : ℕ) → number_of (own_slot id t) ≡ t
    own_number t = own_cases t (λ i. number_of i ≡ t)
        (λ (a : t < kinds). rw (lt-ltb (frame_slot (suc t) id) first_report (omega arith)) (omega arith))
        (λ (a : kinds ≤ t) (b : t < 14). rw (le-ltb (t * rows + id) first_report (omega arith), lt-ltb (t * rows + id) first_previous (omega arith))
        (omega arith))
        (λ (a : 14 ≤ t). rw (le-ltb (first_previous + (t - 14)) first_report (omega arith), le-ltb (first_previous + (t - 14)) first_previous (omega arith))
        (omega arith))

    -- so no two are the same slot.
    pub own_apart : (t u : ℕ) → t ≢ u → own_slot id t ≢ own_slot id u
    own_apart t u ne e = ne (sym (own_number t) ∙ ap number_of e ∙ own_number u)

    -- Each own slot is one of the seventeen.
    pub own_at : (i : ℕ) → i < slot_count → Own id i → (t : ℕ) × (t < remnant_slots) × (own_slot id t ≡ i)
    own_at i low own = go (dec_lt i first_report) (dec_lt i first_previous)
      where
        go : Dec (i < first_report) → Dec (i < first_previous) → (t : ℕ) × (t < remnant_slots) × (own_slot id t ≡ i)
        go (yes a) b =
            let is : i % rows ≡ id = own (omega arith) in
            ((i / rows + 5) % kinds, omega arith, own_head ((i / rows + 5) % kinds) (omega arith) ∙ omega arith)
        go (no a) (yes b) =
            let is : i % rows ≡ id = own b in
            (i / rows, omega arith, own_told (i / rows) (omega arith) (omega arith) ∙ omega arith)
        go (no a) (no b) = (14 + (i - first_previous), omega arith, own_last (14 + (i - first_previous)) (omega arith) ∙ omega arith)

-- ---- slots put

module _ (z : ℕ → Report) (a : ℕ) where
  -- A slot put twice is the last that was put.
  put_twice : (y x : Report) → slot_put (slot_put z a y) a x ≡ slot_put z a x
  unfolding slot_put
  put_twice y x = λ j i. go (eqb a i) i j
    where
      go : (b : Bool) → (i : ℕ) → cond b x (cond b y (z i)) ≡ cond b x (z i)
      go true i = refl
      go false i = refl

  -- What stands there already.
  put_same : slot_put z a (z a) ≡ z
  unfolding slot_put
  put_same = λ j i. go i (eqb a i) refl j
    where
      go : (i : ℕ) → (b : Bool) → eqb a i ≡ b → cond b (z a) (z i) ≡ z i
      go i true e = ap z (eqb-true a i e)
      go i false e = refl

  -- Two slots, in either order.
  put_swap : (b : ℕ) (x y : Report) → a ≢ b → slot_put (slot_put z a x) b y ≡ slot_put (slot_put z b y) a x
  unfolding slot_put
  put_swap b x y ne = λ j i. go i (eqb b i) (eqb a i) refl refl j
    where
      go : (i : ℕ) → (p q : Bool) → eqb b i ≡ p → eqb a i ≡ q → cond p y (cond q x (z i)) ≡ cond q x (cond p y (z i))
      go i true true eb ea = absurd (ne (eqb-true a i ea ∙ sym (eqb-true b i eb)))
      go i true false eb ea = refl
      go i false true eb ea = refl
      go i false false eb ea = refl

  -- A slot put is there, and no other is.
  put_there : (x : Report) → slot_put z a x a ≡ x
  unfolding slot_put
  put_there x = ap (λ (b : Bool). cond b x (z a)) (eq-eqb a a refl)

  put_else : (x : Report) (i : ℕ) → a ≢ i → slot_put z a x i ≡ z i
  unfolding slot_put
  put_else x i ne = ap (λ (b : Bool). cond b x (z i)) (ne_eqb a i ne)

-- ---- own slots put over what was heard

-- One more is a slot put.
pub over_more : (id : ℕ) (own heard : ℕ → Report) (t : ℕ) → put_over id own heard (suc t) ≡ slot_put (put_over id own heard t) (own_slot id t) (own t)
unfolding put_over slot_put
over_more id own heard t = refl

module _ (id : ℕ) (row : id < rows) (heard : ℕ → Report) where
  -- Other slots that are the same give the same.
  pub over_same : (own own' : ℕ → Report) (m : ℕ) → ((t : ℕ) → t < m → own' t ≡ own t) → put_over id own' heard m ≡ put_over id own heard m
  unfolding put_over slot_put
  over_same own own' zero es = refl
  over_same own own' (suc m) es =
      let rest = over_same own own' m (λ (t : ℕ) (low : t < m). es t (omega arith)) in
      let last = es m (omega arith) in
      λ i. slot_put (rest i) (own_slot id m) (last i)

  -- One slot that is another is a slot put.
  pub over_put : (own own' : ℕ → Report) (t : ℕ) (x : Report) (m : ℕ) → t < m → own' t ≡ x → ((u : ℕ) → u < m → t ≢ u → own' u ≡ own u)
      → put_over id own' heard m ≡ slot_put (put_over id own heard m) (own_slot id t) x
  unfolding put_over slot_put
  over_put own own' t x zero low is es = absurd (omega arith)
  over_put own own' t x (suc m) low is es = go (ℕ_discrete t m)
      (λ under. over_put own own' t x m under is (λ (u : ℕ) (l : u < m) (ne : t ≢ u). es u (omega arith) ne))
    where
      go : Dec (t ≡ m) → (t < m → put_over id own' heard m ≡ slot_put (put_over id own heard m) (own_slot id t) x)
          → slot_put (put_over id own' heard m) (own_slot id m) (own' m) ≡ slot_put (slot_put (put_over id own heard m) (own_slot id m) (own m)) (own_slot id t) x
      go (yes e) rest =
          let before = over_same own own' m (λ (u : ℕ) (l : u < m). es u (omega arith) (λ (f : t ≡ u). omega (arith, e, f, l))) in
          let here : own' m ≡ x = subst (λ (k : ℕ). own' k ≡ x) e is in
          (λ i. slot_put (before i) (own_slot id m) (here i))
          ∙ sym (put_twice (put_over id own heard m) (own_slot id m) (own m) x)
          ∙ (λ i. slot_put (slot_put (put_over id own heard m) (own_slot id m) (own m)) (own_slot id (sym e i)) x)
      go (no ne) rest =
          let before = rest (omega arith) in
          let here = es m (omega arith) ne in
          (λ i. slot_put (before i) (own_slot id m) (here i))
          ∙ put_swap (put_over id own heard m) (own_slot id t) (own_slot id m) x (own m) (own_apart id row t m ne)

  -- What is put over is read there.
  pub over_own : (own : ℕ → Report) (m t : ℕ) → t < m → put_over id own heard m (own_slot id t) ≡ own t
  unfolding put_over slot_put
  over_own own zero t low = absurd (omega arith)
  over_own own (suc m) t low = go (ℕ_discrete m t) (λ under. over_own own m t under)
    where
      go : Dec (m ≡ t) → (t < m → put_over id own heard m (own_slot id t) ≡ own t) → put_over id own heard (suc m) (own_slot id t) ≡ own t
      go (yes e) rest = subst (λ (n : ℕ). put_over id own heard (suc m) (own_slot id n) ≡ own n) e (put_there (put_over id own heard m) (own_slot id m) (own m))
      go (no ne) rest = put_else (put_over id own heard m) (own_slot id m) (own m) (own_slot id t) (own_apart id row m t ne) ∙ rest (omega arith)

  -- Every other slot is what was heard.
  pub over_else : (own : ℕ → Report) (m i : ℕ) → ((t : ℕ) → t < m → own_slot id t ≢ i) → put_over id own heard m i ≡ heard i
  unfolding put_over slot_put
  over_else own zero i other = refl
  over_else own (suc m) i other =
      put_else (put_over id own heard m) (own_slot id m) (own m) i (other m (omega arith)) ∙ over_else own m i (λ t low. other t (omega arith))

  -- Put over itself it changes nothing.
  pub over_none : (own : ℕ → Report) (m : ℕ) → ((t : ℕ) → t < m → own t ≡ heard (own_slot id t)) → put_over id own heard m ≡ heard
  unfolding put_over slot_put
  over_none own zero es = refl
  over_none own (suc m) es =
      let rest = over_none own m (λ (t : ℕ) (low : t < m). es t (omega arith)) in
      let last = es m (omega arith) in
      (λ i. slot_put (rest i) (own_slot id m) (last i)) ∙ put_same heard (own_slot id m)
