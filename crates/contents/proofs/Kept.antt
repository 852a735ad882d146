-- To put a frame into its slots is to keep it (document 01, 'For each sender and kind it keeps one frame').
-- A kind and a sender have slots of their own: one for the frame's head, and in kinds 7 and 8 three for its reports. So the frame
-- that they hold is the one put there, and what other kinds and senders hold is as it was.
-- Assumes nothing.
use Prim.Native.Nat.{ℕ, zero, suc, ◌≤◌, ◌<◌}
use mathlib.Core.Path.{◌≡◌, refl, sym, ◌∙◌, ap, subst}
use mathlib.Core.Logic.{◌≢◌, ◌⊎◌, inl, inr}
use mathlib.Core.Bool.{Bool, true, false, ◌&&◌}
use mathlib.Core.Option.{Option, none, some}
use native.Mathlib.Omega.{arith}
use lib.Dec.{ltb, eqb}
use borrow.Author.Tests.{eqb-true, eq-eqb, ltb-true, lt-ltb}
use Rattle.rules.proofs.Bools.{which, clash, both_split, both_join, either}
use Rattle.frame.specs.declared.Report.{Report}
use Rattle.frame.specs.declared.Reports.{Reports}
use Rattle.frame.specs.declared.Body.{Body}
use Rattle.frame.specs.declared.Body.TheVariants.{Plan, Empty, Told}
use Rattle.frame.specs.declared.Frame.{Frame}
use Rattle.frame.specs.Format.{within}
use Rattle.frame.specs.Valid.{fits}
use Rattle.frame.proofs.Laws.{Form, plan, bare, reports, form, inside, bounds}
use Rattle.record.specs.Slots as slots
use Rattle.record.specs.Slots.{rows, kinds, first_previous, frame_slot, report_slot, previous_slot, decision_slot, slot_of}
use Rattle.record.specs.inside.Slots.{with_slot}
use Rattle.record.proofs.Slots.{slot_same, slot_other}
use Rattle.record.specs.Kept.{body_in, frame_held, kept_in, plan_of, head_slot}
use Rattle.record.specs.inside.Kept.{with_reports, with_body, keep_frame}
use Rattle.record.proofs.Forms.{body_plan, body_bare, body_reports, kept_there, fits_kind}
use Rattle.protocol.specs.Record.{when, reported, keeping}
use Rattle.protocol.specs.Pass.{has_previous}
use Rattle.protocol.specs.Calls.{keep}
use Rattle.contents.specs.Contents.{kept_of, previous_of, contents, nth, report_of_body}

-- ---- what slots hold

-- Slots that agree at the places of a kind and a sender hold the same there.
module _ (s t : ℕ → Report) (k j : ℕ) (head : s (frame_slot k j) ≡ t (frame_slot k j))
    (told : (w : ℕ) → w < 3 → 7 ≤ k → s (report_slot k w j) ≡ t (report_slot k w j)) where
  -- They hold the same body.
  body_same : Form k → body_in s k j ≡ body_in t k j
  body_same (plan low high) = body_plan s k j low high ∙ ap (λ (x : Report). Plan x.plan) head ∙ sym (body_plan t k j low high)
  body_same (bare e) = body_bare s k j e ∙ sym (body_bare t k j e)
  body_same (reports low high) =
      let e₀ = told 0 (omega arith) low in
      let e₁ = told 1 (omega arith) low in
      let e₂ = told 2 (omega arith) low in
      body_reports s k j low ∙ (λ i. Told (record { highest = e₀ i; previous = e₁ i; lock = e₂ i })) ∙ sym (body_reports t k j low)

  -- They hold the same frame.
  pub kept_same : 1 ≤ k → k ≤ kinds → kept_in s k j ≡ kept_in t k j
  unfolding kept_in frame_held
  kept_same low high = rw (head, body_same (form k low high))

-- Slots that hold a frame's head, and its reports where it has any, hold that frame.
module _ (s : ℕ → Report) (f : Frame) (fit : fits f.kind f.body ≡ true) (head : s (frame_slot f.kind f.sender) ≡ head_slot f)
    (told : (w : ℕ) → w < 3 → 7 ≤ f.kind → s (report_slot f.kind w f.sender) ≡ report_of_body w f.body) where
  -- The body that they hold is the frame's.
  body_is : body_in s f.kind f.sender ≡ f.body
  body_is = go f.body fit (ap (λ (x : Report). x.plan) head) told
    where
      go : (b : Body) → fits f.kind b ≡ true → (s (frame_slot f.kind f.sender)).plan ≡ plan_of b
          → ((w : ℕ) → w < 3 → 7 ≤ f.kind → s (report_slot f.kind w f.sender) ≡ report_of_body w b)
          → body_in s f.kind f.sender ≡ b
      go (Plan p) fit head told = let (low, high) = bounds 1 5 f.kind fit in body_plan s f.kind f.sender low high ∙ ap Plan head
      go Empty fit head told = body_bare s f.kind f.sender (eqb-true f.kind 6 fit)
      go (Told t) fit head told =
          let (low, high) = bounds 7 8 f.kind fit in
          let e₀ = told 0 (omega arith) low in
          let e₁ = told 1 (omega arith) low in
          let e₂ = told 2 (omega arith) low in
          body_reports s f.kind f.sender low ∙ (λ i. Told (record { highest = e₀ i; previous = e₁ i; lock = e₂ i }))

  -- They hold the frame.
  pub kept_is : kept_in s f.kind f.sender ≡ some f
  unfolding frame_held
  kept_is =
      let v : (s (frame_slot f.kind f.sender)).view ≡ f.view = ap (λ (x : Report). x.view) head in
      let b = body_is in
      kept_there s f.kind f.sender (ap (λ (x : Report). x.mark) head)
      ∙ (λ i. some (record { kind = f.kind; sender = f.sender; view = v i; body = b i }))

-- ---- the slots of a record with a frame put into its sender's row

module _ (r : slots.Record) (k j : ℕ) (t : Reports) where
  -- The record with the first report put in.
  abbrev one : slots.Record
  one = with_slot r (report_slot k 0 j) t.highest

  -- And with the second.
  abbrev two : slots.Record
  two = with_slot one (report_slot k 1 j) t.previous

  -- Three reports put in leave the other slots as they were.
  reports_other : (i : ℕ) → ((w : ℕ) → w < 3 → i ≢ report_slot k w j) → slot_of (with_reports r k j t) i ≡ slot_of r i
  unfolding with_reports
  reports_other i ne =
      slot_other two (report_slot k 2 j) t.lock i (ne 2 (omega arith))
      ∙ slot_other one (report_slot k 1 j) t.previous i (ne 1 (omega arith))
      ∙ slot_other r (report_slot k 0 j) t.highest i (ne 0 (omega arith))

  -- And each of them stands at its place.
  reports_there : 7 ≤ k → k ≤ kinds → j < rows → (w : ℕ) → w < 3 → slot_of (with_reports r k j t) (report_slot k w j) ≡ nth w t
  unfolding with_reports
  reports_there low high row zero lw =
      slot_other two (report_slot k 2 j) t.lock (report_slot k 0 j) (λ (e : report_slot k 0 j ≡ report_slot k 2 j). omega arith)
      ∙ slot_other one (report_slot k 1 j) t.previous (report_slot k 0 j) (λ (e : report_slot k 0 j ≡ report_slot k 1 j). omega arith)
      ∙ slot_same r (report_slot k 0 j) t.highest
  reports_there low high row (suc zero) lw =
      slot_other two (report_slot k 2 j) t.lock (report_slot k 1 j) (λ (e : report_slot k 1 j ≡ report_slot k 2 j). omega arith)
      ∙ slot_same one (report_slot k 1 j) t.previous
  reports_there low high row (suc (suc zero)) lw =
      slot_same two (report_slot k 2 j) t.lock
  reports_there low high row (suc (suc (suc w))) lw = absurd (omega arith)

-- Slots t are s with a head and a body put into the places of a kind and a sender.
pub record Puts (k j : ℕ) (x : Report) (b : Body) (s t : ℕ → Report) : Type 0 where
  pub head : t (frame_slot k j) ≡ x
  pub told : (w : ℕ) → w < 3 → 7 ≤ k → t (report_slot k w j) ≡ report_of_body w b
  pub other : (i : ℕ) → i ≢ frame_slot k j → ((w : ℕ) → w < 3 → 7 ≤ k → i ≢ report_slot k w j) → t i ≡ s i

module _ (r : slots.Record) (f : Frame) where
  -- The record with the frame's head put in.
  abbrev headed : slots.Record
  headed = with_slot r (frame_slot f.kind f.sender) (head_slot f)

  -- What is not in slots stays.
  pub rest_keep : {A : Type 0} (rest : slots.Record → A) → ((at : ℕ) (x : Report) (q : slots.Record) → rest (with_slot q at x) ≡ rest q)
      → rest (keep_frame r f.sender f) ≡ rest r
  unfolding keep_frame with_reports
  rest_keep {A} rest same = go f.body
    where
      go : (b : Body) → rest (with_body headed f.kind f.sender b) ≡ rest r
      go (Plan p) = same _ _ r
      go Empty = same _ _ r
      go (Told t) = same _ _ (two headed f.kind f.sender t) ∙ same _ _ (one headed f.kind f.sender t) ∙ same _ _ headed ∙ same _ _ r

  -- What keeping a frame does to the slots: its head and reports are put in, and other slots stay.
  pub puts_keep : f.sender < rows → fits f.kind f.body ≡ true
      → Puts f.kind f.sender (head_slot f) f.body (slot_of r) (slot_of (keep_frame r f.sender f))
  unfolding keep_frame
  puts_keep row fit = go f.body fit
    where
      here : slot_of headed (frame_slot f.kind f.sender) ≡ head_slot f
      here = slot_same r (frame_slot f.kind f.sender) (head_slot f)

      short : (b : Body) → f.kind < 7 → Puts f.kind f.sender (head_slot f) b (slot_of r) (slot_of headed)
      short b low = record {
        head = here;
        told = λ w lw high. absurd (omega arith);
        other = λ i ne more. slot_other r (frame_slot f.kind f.sender) (head_slot f) i ne;
      }

      go : (b : Body) → fits f.kind b ≡ true → Puts f.kind f.sender (head_slot f) b (slot_of r) (slot_of (with_body headed f.kind f.sender b))
      go (Plan p) is = let (low, high) = bounds 1 5 f.kind is in short (Plan p) (omega arith)
      go Empty is = let e : f.kind ≡ 6 = eqb-true f.kind 6 is in short Empty (omega arith)
      go (Told t) is = let (low, high) = bounds 7 8 f.kind is in record {
        head =
            reports_other headed f.kind f.sender t (frame_slot f.kind f.sender)
            (λ w lw (e : frame_slot f.kind f.sender ≡ report_slot f.kind w f.sender). omega arith)
            ∙ here;
        told = λ w lw seven. reports_there headed f.kind f.sender t low high row w lw;
        other = λ i ne more.
            reports_other headed f.kind f.sender t i (λ w lw. more w lw low) ∙ slot_other r (frame_slot f.kind f.sender) (head_slot f) i ne;
      }

-- ---- the contents

-- Where the guard holds, the two sides are equal.
pub guarded : {A : Type 0} (b : Bool) {x y : Option A} → (b ≡ true → x ≡ y) → when b x ≡ when b y
guarded true f = f refl
guarded false f = refl

-- Where the guard holds there is nothing: then there is nothing at all.
pub guarded_none : {A : Type 0} (b : Bool) {o : Option A} → (b ≡ true → o ≡ none) → when b o ≡ none
guarded_none true f = f refl
guarded_none false f = refl

-- Only vote-1 and vote-2 have a previous vote.
pub previous_bounds : (k : ℕ) → has_previous k ≡ true → (1 ≤ k) × (k ≤ 2)
previous_bounds k h = go (either (eqb k 1) (eqb k 2) h)
  where
    go : (eqb k 1 ≡ true) ⊎ (eqb k 2 ≡ true) → (1 ≤ k) × (k ≤ 2)
    go (inl e) = let is : k ≡ 1 = eqb-true k 1 e in (omega arith, omega arith)
    go (inr e) = let is : k ≡ 2 = eqb-true k 2 e in (omega arith, omega arith)

module _ (r : slots.Record) (f : Frame) (row : f.sender < rows) (fit : fits f.kind f.body ≡ true) where
  -- The record with the frame kept.
  abbrev after : slots.Record
  after = keep_frame r f.sender f

  -- What that did to its slots.
  abbrev puts : Puts f.kind f.sender (head_slot f) f.body (slot_of r) (slot_of after)
  puts = puts_keep r f row fit

  -- The kind and the sender hold the frame.
  pub kept_put : kept_in (slot_of after) f.kind f.sender ≡ some f
  kept_put = kept_is (slot_of after) f fit puts.head puts.told

  -- The slots of another kind or sender are as they were, and so is what they hold.
  module _ (k j : ℕ) (low : 1 ≤ k) (high : k ≤ kinds) (below : j < rows) (ne : ¬ ((f.kind ≡ k) × (f.sender ≡ j))) where
    -- The slot of its head stays.
    pub head_stays : slot_of after (frame_slot k j) ≡ slot_of r (frame_slot k j)
    head_stays =
        let (l, h) = fits_kind f.kind f.body fit in
        puts.other (frame_slot k j)
        (λ (e : frame_slot k j ≡ frame_slot f.kind f.sender). ne (omega arith, omega arith))
        (λ w lw seven (e : frame_slot k j ≡ report_slot f.kind w f.sender). omega arith)

    -- The slots of its reports stay.
    pub told_stays : (w : ℕ) → w < 3 → 7 ≤ k → slot_of after (report_slot k w j) ≡ slot_of r (report_slot k w j)
    told_stays w lw seven =
        let (l, h) = fits_kind f.kind f.body fit in
        puts.other (report_slot k w j)
        (λ (e : report_slot k w j ≡ frame_slot f.kind f.sender). omega arith)
        (λ w' lw' seven' (e : report_slot k w j ≡ report_slot f.kind w' f.sender). ne (omega arith, omega arith))

    -- So the frame that is kept there stays.
    pub kept_stays : kept_in (slot_of after) k j ≡ kept_in (slot_of r) k j
    kept_stays = kept_same (slot_of after) (slot_of r) k j head_stays told_stays low high

  -- Slots beyond those of kinds and senders are as they were.
  pub far_stays : (i : ℕ) → first_previous ≤ i → slot_of after i ≡ slot_of r i
  far_stays i far =
      let (l, h) = fits_kind f.kind f.body fit in
      puts.other i (λ (e : i ≡ frame_slot f.kind f.sender). omega arith) (λ w lw seven (e : i ≡ report_slot f.kind w f.sender). omega arith)

  -- A kind and a sender that the record has slots for are the frame's own, or others.
  pub by_place : {P : Type 0} (k j : ℕ) → ((eqb f.kind k && eqb f.sender j) ≡ true → f.kind ≡ k → f.sender ≡ j → P)
      → ((eqb f.kind k && eqb f.sender j) ≡ false → ¬ ((f.kind ≡ k) × (f.sender ≡ j)) → P) → P
  by_place {P} k j same other = go (which (eqb f.kind k && eqb f.sender j))
    where
      go : ((eqb f.kind k && eqb f.sender j) ≡ true) ⊎ ((eqb f.kind k && eqb f.sender j) ≡ false) → P
      go (inl e) = let (a, b) = both_split (eqb f.kind k) (eqb f.sender j) e in same e (eqb-true f.kind k a) (eqb-true f.sender j b)
      go (inr e) = other e (λ (a, b). clash (both_join (eqb f.kind k) (eqb f.sender j) (eq-eqb f.kind k a) (eq-eqb f.sender j b)) e)

  -- The kept frames, by contents, are the old ones with this one put in.
  kept_keep : (k j : ℕ) → kept_of after k j ≡ keeping f (kept_of r) k j
  unfolding kept_of
  kept_keep k j = by_place k j
      (λ e ek ej. rw (
        e,
        ← ek,
        ← ej,
        inside 1 kinds f.kind (fits_kind f.kind f.body fit).0 (fits_kind f.kind f.body fit).1,
        lt-ltb f.sender rows row,
      ) kept_put)
      (λ e ne. rw e (guarded (within 1 kinds k && ltb j rows) (λ g.
      let (gk, gj) = both_split (within 1 kinds k) (ltb j rows) g in
      let (low, high) = bounds 1 kinds k gk in
      kept_stays k j low high (ltb-true j rows gj) ne)))

  -- The previous votes are as they were.
  previous_keep : (k : ℕ) → previous_of after k ≡ previous_of r k
  unfolding previous_of
  previous_keep k = guarded (has_previous k) (λ g. let (low, high) = previous_bounds k g in ap reported (far_stays (previous_slot (suc k)) (omega arith)))

  -- So the contents are those with the frame kept.
  contents_row : contents after ≡ keep f (contents r)
  unfolding contents keep
  contents_row =
      let set = rest_keep r f (λ (q : slots.Record). q.set) (λ at x q. refl) in
      let start = rest_keep r f (λ (q : slots.Record). q.plan) (λ at x q. refl) in
      let view = rest_keep r f (λ (q : slots.Record). q.view) (λ at x q. refl) in
      let decision = ap reported (far_stays decision_slot (omega arith)) in
      λ i. record {
        set = set i;
        start = start i;
        view = view i;
        kept = λ k j. kept_keep k j i;
        previous = λ k. previous_keep k i;
        decision = decision i;
      }

-- To put a frame into its sender's row is to keep it.
module _ (r : slots.Record) (f : Frame) {j : ℕ} (is : f.sender ≡ j) where
  -- The same for a row that is known to be the sender's.
  pub contents_keep : j < rows → fits f.kind f.body ≡ true → contents (keep_frame r j f) ≡ keep f (contents r)
  contents_keep row fit = subst (λ (j : ℕ). contents (keep_frame r j f) ≡ keep f (contents r)) is (contents_row r f (rw is row) fit)
