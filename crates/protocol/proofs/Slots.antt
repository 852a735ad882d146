-- Frames that a vault sends pass rows 13 to 15, 21 and 22 and have bytes, and what it reads off kept frames has their widths.
-- Each is the table's row computed on the frame: a vote, a view-change, or a report of three votes below the frame's view.
-- Assumes nothing.
use Prim.Native.Nat.{ℕ, suc, ◌^◌, ◌<◌}
use mathlib.Core.Path.{◌≡◌, refl, sym, ◌∙◌, ap, subst}
use mathlib.Core.Logic.{◌≢◌, ◌⊎◌, inl, inr}
use mathlib.Core.Bool.{Bool, true, false, cond, true≢false}
use mathlib.Core.List.{List, [], ◌∷◌, ◌++◌}
use mathlib.Core.Option.{Option, none, some}
use native.Mathlib.Omega.{arith}
use lib.Dec.{leb, eqb}
use borrow.Author.Tests.{eq-eqb, ne_eqb, eqb-true, eqb-false, lt-leb, le-leb, leb-false}
use Rattle.rules.proofs.Bools.{which}
use Rattle.rules.specs.Rules.{Vote, Report, Rule, rule1, rule3}
use Rattle.rules.proofs.Reports.{none≢some}
use Rattle.wire.specs.Fields.{Field, Sized}
use Rattle.frame.specs.declared.Report as Slot
use Rattle.frame.specs.declared.Body.{Body}
use Rattle.frame.specs.declared.Body.TheVariants.{Plan, Empty, Told}
use Rattle.frame.specs.declared.Frame.{Frame}
use Rattle.frame.specs.Format.{within, head_fields, report_fields, body_fields}
use Rattle.frame.specs.Valid.{Valid}
use Rattle.frame.specs.Refusal.{first, bad_form, too_high, bad_previous, view_missing, misled, report_rows, content_rows, leader_rows, leader_of}
use Rattle.frame.proofs.Laws.{neither}
use Rattle.protocol.specs.Record.{reported, spelt, vote_by, report_by, kind_of}
use Rattle.protocol.specs.Pass.{shift}
use Rattle.protocol.specs.inside.Sound.{FitsVote}

-- ---- rows 14, 21 and 22 of spelt votes

-- The vote, if any, is below view w.
abbrev pub Under : ℕ → Option Vote → Type 0
Under w o = (x : Vote) → o ≡ some x → x.view < w

-- A spelt vote has a good form: its mark is 0 or 1, and an absent one is all zeros.
form_spelt : (o : Option Vote) → bad_form (spelt o) ≡ false
unfolding bad_form
form_spelt none = refl
form_spelt (some x) = refl

-- A spelt vote below view w passes 'view not below the frame's'.
under_spelt : (w : ℕ) (o : Option Vote) → Under w o → too_high w (spelt o) ≡ false
unfolding too_high
under_spelt w none low = refl
under_spelt w (some x) low = lt-leb w x.view (low x refl)

-- Rows 14, 21 and 22 pass three spelt votes below the frame's view, of which the previous one stands to the highest.
pub reports_pass : (w : ℕ) (h p l : Option Vote) → Under w h → Under w p → Under w l → bad_previous (spelt h) (spelt p) ≡ false
    → first (report_rows w (spelt h ∷ spelt p ∷ spelt l ∷ [])) ≡ 0
reports_pass w h p l uh up ul stands = rw (form_spelt h, form_spelt p, form_spelt l, under_spelt w h uh, under_spelt w p up, under_spelt w l ul, stands)

-- 'previous without highest, not below it, or for its plan' says of votes that there is a higher one for another plan.
abbrev pub Stands : Option Vote → Option Vote → Type 0
Stands top old = (x : Vote) → old ≡ some x → (y : Vote) × (top ≡ some y) × (x.view < y.view) × (y.plan ≢ x.plan)

-- What row 22 says of a previous vote that passes.
pub stands_of : (top old : Option Vote) → bad_previous (spelt top) (spelt old) ≡ false → Stands top old
unfolding bad_previous
stands_of none none e x is = absurd (none≢some is)
stands_of (some y) none e x is = absurd (none≢some is)
stands_of none (some x') e x is = absurd (true≢false e)
stands_of (some y) (some x') e x is =
    let same : x' ≡ x = cc in
    let low : leb y.view x.view ≡ false = rw same at (neither (leb y.view x'.view) (eqb y.plan x'.plan) e).0 in
    let other : eqb y.plan x.plan ≡ false = rw same at (neither (leb y.view x'.view) (eqb y.plan x'.plan) e).1 in
    (y, refl, leb-false y.view x.view low, eqb-false y.plan x.plan other)

-- And back: a previous vote that stands to the highest passes.
pub stands_to : (top old : Option Vote) → Stands top old → bad_previous (spelt top) (spelt old) ≡ false
unfolding bad_previous
stands_to none none s = refl
stands_to (some y) none s = refl
stands_to none (some x) s = let (y, is, low, other) = s x refl in absurd (none≢some is)
stands_to (some z) (some x) s =
    let (y, is, low, other) = s x refl in
    let same : z ≡ y = cc in
    rw (same, lt-leb y.view x.view low, ne_eqb y.plan x.plan other)

-- A vote for p in view v, above the highest so far, leaves a previous vote that stands to it.
pub shift_stands : (v p : ℕ) (top old : Option Vote) → Under v top → Stands top old → Stands (some (record { view = v; plan = p })) (shift p top old)
shift_stands v p none old low s x is = let (y, is-top, more, other) = s x is in absurd (none≢some is-top)
shift_stands v p (some z) old low s x is = go (which (eqb z.plan p))
  where
    go : (eqb z.plan p ≡ true) ⊎ (eqb z.plan p ≡ false)
        → (y : Vote) × (◌≡◌ {A = Option Vote} (some (record { view = v; plan = p })) (some y)) × (x.view < y.view) × (y.plan ≢ x.plan)
    go (inl same) =
        let was : old ≡ some x = rw same at is in
        let (y, top, more, other) = s x was in
        let zy : z ≡ y = cc in
        let zp : z.plan ≡ p = eqb-true z.plan p same in
        let above : z.view < v = low z refl in
        let under : x.view < z.view = rw (← zy) at more in
        let differs : z.plan ≢ x.plan = rw (← zy) at other in
        (record { view = v; plan = p }, refl, omega arith, λ (e : p ≡ x.plan). differs (zp ∙ e))
    go (inr other) =
        let zx : z ≡ x = some_is (rw other at is) in
        let above : z.view < v = low z refl in
        (record { view = v; plan = p }, refl, rw (← zx) above, λ (e : p ≡ x.plan). eqb-false z.plan p other (ap (λ (y : Vote). y.plan) zx ∙ sym e))
      where
        some_is : {y : Vote} → some z ≡ some y → z ≡ y
        some_is e = cc

-- ---- the frames sent

-- What a frame of sender i passes, at vault i of n: rows 13 to 15, 21 and 22, and it has bytes.
pub record Sendable (n i : ℕ) (x : Frame) : Type 0 where
  pub valid : Valid x
  pub content : first (content_rows x) ≡ 0
  pub leader : (x.kind ≡ 7 → leader_of x.view n ≡ i) → first (leader_rows x n i) ≡ 0

module _ (n i : ℕ) (small : i < 256) where
  -- A view-change for a view above 0 is sendable.
  pub change_sendable : (w : ℕ) → 0 < w → w < 2 ^ 32 → Sendable n i (record { kind = 6; sender = i; view = w; body = Empty })
  unfolding view_missing within misled
  change_sendable w some-view low = record {
    valid = record { shape = refl; sized = (omega arith, (omega arith, (low, tt))) };
    content = rw (ne_eqb w 0 (λ (e : w ≡ 0). omega arith));
    leader = λ led. refl;
  }

  -- A vote is sendable; a proposal where its sender leads the view.
  pub vote_sendable : (k v p : ℕ) → k < 5 → (k ≡ 0 → leader_of v n ≡ i) → v < 2 ^ 32 → p < 2 ^ 64
      → Sendable n i (record { kind = suc k; sender = i; view = v; body = Plan p })
  unfolding view_missing within misled
  vote_sendable k v p low led lv lp = record {
    valid = record { shape = rw (le-leb 1 (suc k) (omega arith), le-leb (suc k) 5 (omega arith)); sized = (omega arith, (omega arith, (lv, (lp, tt)))) };
    content = rw (lt-leb 6 (suc k) (omega arith));
    leader = λ suggest. go (which (eqb (suc k) 1));
  }
    where
      go : (eqb (suc k) 1 ≡ true) ⊎ (eqb (suc k) 1 ≡ false) → first (leader_rows (record { kind = suc k; sender = i; view = v; body = Plan p }) n i) ≡ 0
      go (inl one) =
          let is : suc k ≡ 1 = eqb-true (suc k) 1 one in
          rw (one, eq-eqb (leader_of v n) i (led (omega arith)), ne_eqb (suc k) 7 (λ (e : suc k ≡ 7). omega arith))
      go (inr other) = rw (other, ne_eqb (suc k) 7 (λ (e : suc k ≡ 7). omega arith))

  -- The fields of spelt votes have their widths.
  sized_spelt : (o : Option Vote) (fs : List Field) → ((x : Vote) → o ≡ some x → FitsVote x) → Sized fs → Sized (report_fields (spelt o) ++ fs)
  sized_spelt none fs fit rest = (omega arith, (omega arith, (omega arith, rest)))
  sized_spelt (some x) fs fit rest = (omega arith, ((fit x refl).0, ((fit x refl).1, rest)))

  -- A suggest or proof is sendable, where its votes are below its view and have their widths.
  pub report_sendable : (rule : Rule) (w : ℕ) (h p l : Option Vote) → 0 < w → w < 2 ^ 32 → Under w h → Under w p → Under w l
      → bad_previous (spelt h) (spelt p) ≡ false
      → ((x : Vote) → h ≡ some x → FitsVote x) → ((x : Vote) → p ≡ some x → FitsVote x) → ((x : Vote) → l ≡ some x → FitsVote x)
      → Sendable n i (record { kind = kind_of rule; sender = i; view = w; body = Told (record { highest = spelt h; previous = spelt p; lock = spelt l }) })
  unfolding view_missing within misled
  report_sendable rule w h p l some-view low uh up ul stands fh fp fl = by rule
    where
      sized : Sized (report_fields (spelt h) ++ (report_fields (spelt p) ++ report_fields (spelt l)))
      sized = sized_spelt h (report_fields (spelt p) ++ report_fields (spelt l)) fh (sized_spelt p (report_fields (spelt l)) fp (last l fl))
        where
          last : (l : Option Vote) → ((x : Vote) → l ≡ some x → FitsVote x) → Sized (report_fields (spelt l))
          last none fit = (omega arith, (omega arith, (omega arith, tt)))
          last (some x) fit = (omega arith, ((fit x refl).0, ((fit x refl).1, tt)))

      by : (rule : Rule)
          → Sendable n i (record { kind = kind_of rule; sender = i; view = w; body = Told (record { highest = spelt h; previous = spelt p; lock = spelt l }) })
      by rule1 = record {
        valid = record { shape = refl; sized = (omega arith, (omega arith, (low, sized))) };
        content = rw (ne_eqb w 0 (λ (e : w ≡ 0). omega arith)) (reports_pass w h p l uh up ul stands);
        leader = λ led. rw (eq-eqb (leader_of w n) i (led refl));
      }
      by rule3 = record {
        valid = record { shape = refl; sized = (omega arith, (omega arith, (low, sized))) };
        content = rw (ne_eqb w 0 (λ (e : w ≡ 0). omega arith)) (reports_pass w h p l uh up ul stands);
        leader = λ led. refl;
      }

-- ---- the widths of what is kept

-- The view of a frame that has bytes is 32 bits wide.
pub view_fits : (x : Frame) → Valid x → x.view < 2 ^ 32
view_fits x v = v.sized.1.1.0

-- The vote in a frame that has bytes has its widths.
pub vote_fits : (x : Frame) → Valid x → (y : Vote) → vote_by x.view x.body ≡ some y → FitsVote y
vote_fits x v y e = go x.body v.sized e
  where
    go : (b : Body) → Sized (head_fields x ++ body_fields b) → vote_by x.view b ≡ some y → FitsVote y
    go (Plan p) s e = let is : record { view = x.view; plan = p } ≡ y = cc in rw (← is) (s.1.1.0, s.1.1.1.0)
    go Empty s e = absurd (none≢some e)
    go (Told r) s e = absurd (none≢some e)

-- The vote that a report tells has the report's widths.
slot_fits : (z : Slot.Report) (y : Vote) → z.view < 2 ^ 32 → z.plan < 2 ^ 64 → reported z ≡ some y → FitsVote y
slot_fits z y lv lp e = go (eqb z.mark 1) e
  where
    go : (b : Bool) → cond b (some (record { view = z.view; plan = z.plan })) none ≡ some y → FitsVote y
    go true e = let is : record { view = z.view; plan = z.plan } ≡ y = cc in rw (← is) (lv, lp)
    go false e = absurd (none≢some e)

-- The votes of a report have their widths.
pub record ReportFits (r : Report) : Type 0 where
  pub highest : (y : Vote) → r.highest ≡ some y → FitsVote y
  pub previous : (y : Vote) → r.previous ≡ some y → FitsVote y
  pub lock : (y : Vote) → r.lock ≡ some y → FitsVote y

-- The votes in a suggest or proof that has bytes have their widths.
pub report_fits : (x : Frame) → Valid x → (r : Report) → report_by x.body ≡ some r → ReportFits r
report_fits x v r e = go x.body v.sized e
  where
    go : (b : Body) → Sized (head_fields x ++ body_fields b) → report_by b ≡ some r → ReportFits r
    go (Plan p) s e = absurd (none≢some e)
    go Empty s e = absurd (none≢some e)
    go (Told t) s e =
        let is : record { highest = reported t.highest; previous = reported t.previous; lock = reported t.lock } ≡ r = cc in
        let m = s.1.1.1 in
        subst ReportFits is (record {
          highest = λ y. slot_fits t.highest y m.1.0 m.1.1.0;
          previous = λ y. slot_fits t.previous y m.1.1.1.1.0 m.1.1.1.1.1.0;
          lock = λ y. slot_fits t.lock y m.1.1.1.1.1.1.1.0 m.1.1.1.1.1.1.1.1.0;
        })
