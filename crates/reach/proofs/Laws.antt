-- The wish's sentence is `reach`, and the leaf of crate claims computes it (document 02, wish 7). By 22 a previous vote is below its highest, so the larger
-- of both views is the highest's where that is for the plan; by 14 a report that is absent has view 0, so nothing is asked about its mark.
-- Assumes nothing.
use Prim.Native.Nat.{ℕ, zero, suc, ◌≤◌, ◌<◌, max}
use mathlib.Core.Path.{◌≡◌, refl, sym, ap, subst, subst⁻¹, ◌∙◌}
use mathlib.Core.Logic.{◌≢◌, ◌⊎◌, inl, inr, ◌↔◌}
use mathlib.Core.Bool.{Bool, true, false, cond, not, ◌&&◌, ◌||◌}
use mathlib.Core.Option.{none, some}
use native.Mathlib.Omega.{arith}
use mathlib.Core.List.{List}
use lib.Dec.{leb, eqb}
use lib.ListN.{length}
use borrow.Author.Tests.{leb-true, leb-false, le-leb, eqb-true, eq-eqb, ne_eqb, not-false}
use Rattle.rules.specs.Rules.{view_of, view_for, reach, claims}
use Rattle.rules.specs.Sentences.{Says}
use Rattle.rules.proofs.Bools.{which, clash, both_split}
use Rattle.rules.proofs.Single.{claims_says}
use Rattle.claims.proofs.Standing.{nothing}
use Rattle.frame.specs.declared.Report.{Report}
use Rattle.frame.specs.declared.Reports.{Reports}
use Rattle.frame.specs.Format.{three_reports, reports_at}
use Rattle.frame.specs.Refusal.{first, any, present, absent, bad_form, bad_previous, bad_previous_of}
use Rattle.frame.proofs.Laws as rows
use Rattle.frame.proofs.Laws.{neither}
use Rattle.protocol.specs.Record.{reported}
use Rattle.reach.specs.Call.{View, Refused}
use Rattle.reach.specs.Call.{told_rows, reach_rows, said_reach, answered, claim_reach}
use Rattle.reach.specs.Sentences.{votes_of, ReachIsSaid, ReachHighest, AnswerHighest}

-- ---- what the rows leave

-- Reports that pass 14 and 22 have neither fault.
pub passed : (t : Reports) → first (told_rows (three_reports t)) ≡ 0
    → (any bad_form (three_reports t) ≡ false) × (bad_previous_of (three_reports t) ≡ false)
passed t e =
    let a = rows.none (any bad_form (three_reports t)) 14 _ (omega arith) e in
    let b = rows.none (bad_previous_of (three_reports t)) 22 _ (omega arith) a.1 in
    (a.0, b.0)

-- ---- by 22

-- The larger of both views, where a previous vote stands below its highest, by who is there.
larger : (on there : Bool) (h q : Report) (p : ℕ) → (there && (not on || (leb h.view q.view || eqb h.plan q.plan))) ≡ false
    → max (view_for p (cond on (some (record { view = h.view; plan = h.plan })) none)) (view_of (cond there (some (record { view = q.view; plan = q.plan })) none))
    ≡ cond (on && eqb h.plan p) h.view (cond there q.view 0)
larger false false h q p e = refl
larger false true h q p e = absurd (clash refl e)
larger true false h q p e = top (cond (eqb h.plan p) h.view 0)
  where
    top : (x : ℕ) → max x 0 ≡ x
    top x = omega arith
larger true true h q p e = go (eqb h.plan p)
  where
    below : q.view < h.view
    below = leb-false h.view q.view (neither (leb h.view q.view) (eqb h.plan q.plan) e).0

    go : (b : Bool) → max (cond b h.view 0) q.view ≡ cond b h.view q.view
    go true = omega (arith, below)
    go false = omega arith

-- So the sentence is `reach`.
pub reach_is_said : ReachIsSaid
unfolding reach said_reach bad_previous
reach_is_said t p e = larger (present t.highest) (present t.previous) t.highest t.previous p e

-- And Rules 2 and 4 hold up to there.
pub reach_highest : ReachHighest
unfolding claims
reach_highest t p x e =
    let is = reach_is_said t p (passed t e).1 in
    let says = claims_says (votes_of t) p x in
    (λ h. subst (λ (m : ℕ). x ≤ m) is (leb-true x (reach (votes_of t) p) (says.1 h)), λ le. says.0 (le-leb x (reach (votes_of t) p) (subst⁻¹ (λ (m : ℕ). x ≤ m) is le)))

-- ---- by 14

-- A report that is absent has view 0.
view_absent : (x : Report) → bad_form x ≡ false → present x ≡ false → x.view ≡ 0
unfolding bad_form
view_absent x e off =
    let gone : absent x ≡ true = not-false (absent x) (subst (λ (b : Bool). not (b || absent x) ≡ false) off e) in
    eqb-true x.view 0 (both_split (eqb x.view 0) _ (both_split (eqb x.mark 0) _ gone).1).0

-- So its view is that of its vote.
view_is : (x : Report) → bad_form x ≡ false → view_of (reported x) ≡ x.view
view_is x e = go (which (present x))
  where
    go : (present x ≡ true) ⊎ (present x ≡ false) → view_of (reported x) ≡ x.view
    go (inl on) = rw on refl
    go (inr off) = rw off (sym (view_absent x e off))

-- And counts for a plan as its vote does.
view_for_is : (x : Report) (p : ℕ) → bad_form x ≡ false → view_for p (reported x) ≡ cond (eqb x.plan p) x.view 0
view_for_is x p e = go (which (present x))
  where
    go : (present x ≡ true) ⊎ (present x ≡ false) → view_for p (reported x) ≡ cond (eqb x.plan p) x.view 0
    go (inl on) = rw on refl
    go (inr off) = rw (off, view_absent x e off) (nothing (eqb x.plan p))

-- The leaf's answer is a view.
pub leaf_most : (b : Bool) (high before : ℕ) → high < 4294967296 → before < 4294967296 → max (cond b high 0) before < 4294967296
leaf_most true high before h k = omega arith
leaf_most false high before h k = omega arith

-- The leaf's answer is the wish's.
pub leaf_reach : (t : Reports) (p : ℕ) → first (told_rows (three_reports t)) ≡ 0
    → max (cond (eqb t.highest.plan p) t.highest.view 0) t.previous.view ≡ said_reach t p
unfolding reach
leaf_reach t p e =
    let (forms, odds) = passed t e in
    let (form, rest) = neither (bad_form t.highest) _ forms in
    let high = view_for_is t.highest p form in
    let before = view_is t.previous (neither (bad_form t.previous) _ rest).0 in
    (λ i. max (sym high i) (sym before i)) ∙ reach_is_said t p odds

-- ---- the answer

module _ (s : List ℕ) (p : ℕ) where
  -- Another length is 10.
  pub other_length : length s ≢ 39 → Refused 10 ≡ claim_reach s p
  unfolding claim_reach
  other_length other = rw (ne_eqb (length s) 39 other) refl

  module _ (t : Reports) (size : length s ≡ 39) (is : t ≡ reports_at s 0) where
    -- Else the rows on the reports decide.
    left : first (told_rows (three_reports t)) ≡ first (reach_rows s)
    left = ap (λ (x : Reports). first (told_rows (three_reports x))) is ∙ rw (eq-eqb (length s) 39 size) refl

    -- By the number that they give.
    pub refused_by : (k : ℕ) → first (told_rows (three_reports t)) ≡ k → k ≢ 0 → Refused k ≡ claim_reach s p
    unfolding claim_reach
    refused_by k number given = shown k given ∙ ap (λ (x : ℕ). answered x (said_reach (reports_at s 0) p)) (sym number ∙ left)
      where
        shown : (k : ℕ) → k ≢ 0 → Refused k ≡ answered k (said_reach (reports_at s 0) p)
        shown zero h = absurd (h refl)
        shown (suc k) h = refl

    -- Or by the view, where they give none.
    pub answered_by : (view : ℕ) → first (told_rows (three_reports t)) ≡ 0 → view ≡ said_reach t p → View view ≡ claim_reach s p
    unfolding claim_reach
    answered_by view free value = λ i. answered ((sym free ∙ left) i) ((value ∙ ap (λ (x : Reports). said_reach x p) is) i)

-- An answer that is a view is that of reports that pass.
answered_view : (k said view : ℕ) → answered k said ≡ View view → (k ≡ 0) × (said ≡ view)
answered_view zero said view e = (refl, cc)
answered_view (suc k) said view e = let z : ◌≡◌ {A = ℕ} 0 1 = cc in absurd (omega arith)

-- Up to it Rules 2 and 4 hold.
pub answer_highest : AnswerHighest
unfolding claim_reach
answer_highest s p view x e =
    let (free, said) = answered_view (first (reach_rows s)) (said_reach (reports_at s 0) p) view e in
    let left = (rows.none (not (eqb (length s) 39)) 10 _ (omega arith) free).1 in
    subst (λ (m : ℕ). Says (votes_of (reports_at s 0)) p x ↔ (x ≤ m)) said (reach_highest (reports_at s 0) p x left)
