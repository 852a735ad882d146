-- Laws on kinds, lengths and the table of refusals, from document 01's table of frames and its 'Checked downwards'. A kind is one
-- of four forms (a plan, nothing, reports, unknown), and each definition over the kind computes to one value on each form. A table
-- in two parts gives what its first part gives, unless that is 0. So every proof goes over the form, and none over the eight kinds.
-- Assumes nothing.
use Prim.Native.Nat.{ℕ, ◌≤◌, ◌<◌}
use mathlib.Core.Path.{◌≡◌, refl, sym, ◌∙◌}
use mathlib.Core.Bool.{Bool, true, false, not, ◌&&◌, ◌||◌, cond, or-false, true≢false}
use mathlib.Core.List.{List, [], ◌∷◌, ◌++◌}
use native.Mathlib.Omega.{arith}
use native.Mathlib.Decide.{dec_le}
use borrow.Author.Tests.{eq-eqb, ne_eqb, lt-ltb, le-ltb, le-leb, lt-leb, leb-true, eqb-true, not-false}
use lib.Dec.{leb, eqb}
use lib.ListN.{length, get_or}
use Rattle.std.specs.Prelude.{Result, Ok, Err}
use Rattle.std.specs.Result.{is_ok, is_err}
use Rattle.wire.specs.Digits.{number_at}
use Rattle.frame.specs.declared.Body.TheVariants.{Plan, Empty, Told}
use Rattle.frame.specs.Format.{within, length_of, reports_at, body_as}
use Rattle.frame.specs.inside.Reading.{Formed}
use Rattle.frame.specs.declared.Refusal.{Refusal}
use Rattle.frame.specs.declared.Refusal.TheVariants as why
use Rattle.frame.specs.Refusal.{Row, row, first, form_rows}
use Rattle.frame.specs.Numbers.{number_of}
use Rattle.frame.specs.Answers.{number_in}

-- what is known of two numbers, said of the tests on them: `search tests` decides a table's row from the branches on the way
pub ruleset tests = (eq-eqb, ne_eqb, lt-ltb, le-ltb, le-leb, lt-leb, or-false)

-- what a call's result was found to be, said of what it ensures
pub told {ℓ} : {A : Type ℓ} {a b c : A} → a ≡ b → a ≡ c → b ≡ c
told p q = sym p ∙ q

-- both tests hold where their conjunction does
pub both : (a b : Bool) → (a && b) ≡ true → (a ≡ true) × (b ≡ true)
both true b e = (refl, e)
both false b e = let z : ◌≡◌ {A = ℕ} 0 1 = cc in absurd (omega arith)

-- neither test holds where their disjunction fails
pub neither : (a b : Bool) → (a || b) ≡ false → (a ≡ false) × (b ≡ false)
neither true b e = let z : ◌≡◌ {A = ℕ} 0 1 = cc in absurd (omega arith)
neither false b e = (refl, e)

module _ (low high k : ℕ) where
  -- a number between both bounds is in the range
  pub inside : low ≤ k → k ≤ high → within low high k ≡ true
  unfolding within
  inside a b = simp (le-leb low k a, le-leb k high b)

  -- a number under the lower bound is out of the range
  pub under : k < low → within low high k ≡ false
  unfolding within
  under a = simp (lt-leb low k a)

  -- a number over the upper bound is out of the range
  pub over : low ≤ k → high < k → within low high k ≡ false
  unfolding within
  over a b = simp (le-leb low k a, lt-leb k high b)

  -- a number in the range is between both bounds
  pub bounds : within low high k ≡ true → (low ≤ k) × (k ≤ high)
  unfolding within
  bounds e = let h = both (leb low k) (leb k high) e in (leb-true low k h.0, leb-true k high h.1)

-- the forms of a kind: what its frames hold after the head
pub data Form (k : ℕ) : Type 0 where
  plan : 1 ≤ k → k ≤ 5 → Form k
  bare : k ≡ 6 → Form k
  reports : 7 ≤ k → k ≤ 8 → Form k

-- a kind of 1 to 8 has one of the three forms, so that proofs go by the form
pub form : (k : ℕ) → 1 ≤ k → k ≤ 8 → Form k
form k a b =
    elim (dec_le k 5) [
      | yes h ↦ plan a h
      | no g ↦ elim (dec_le k 6) [ yes h ↦ bare (omega arith) | no h ↦ reports (omega arith) b ]
    ]

-- the table's column 'Length', kinds 1 to 5: 14
pub length_plan : (k : ℕ) → 1 ≤ k → k ≤ 5 → length_of k ≡ 14
unfolding length_of
length_plan k a b = simp (inside 1 5 k a b)

-- the table's column 'Length', kind 6: 6
pub length_bare : (k : ℕ) → k ≡ 6 → length_of k ≡ 6
unfolding length_of within
length_bare k e = rw e

-- the table's column 'Length', kinds 7 and 8: 45
pub length_reports : (k : ℕ) → 7 ≤ k → k ≤ 8 → length_of k ≡ 45
unfolding length_of
length_reports k a b = simp (over 1 5 k (omega arith) (omega arith), ne_eqb k 6 (omega arith), inside 7 8 k a b)

-- kind 0 is in no row of the table, so it has no length
pub length_low : (k : ℕ) → k < 1 → length_of k ≡ 0
unfolding length_of
length_low k h = simp (under 1 5 k h, ne_eqb k 6 (omega arith), under 7 8 k (omega arith))

-- a kind above 8 is in no row of the table, so it has no length
pub length_high : (k : ℕ) → 8 < k → length_of k ≡ 0
unfolding length_of
length_high k h = simp (over 1 5 k (omega arith) (omega arith), ne_eqb k 6 (omega arith), over 7 8 k (omega arith) h)

-- what the bytes say after the head, by form
pub body_of_plan : (k : ℕ) (s : List ℕ) → 1 ≤ k → k ≤ 5 → body_as k s ≡ Plan (number_at 8 s 6)
unfolding body_as
body_of_plan k s a b = simp (inside 1 5 k a b)

-- nothing after the head of a view-change
pub body_of_bare : (k : ℕ) (s : List ℕ) → k ≡ 6 → body_as k s ≡ Empty
unfolding body_as within
body_of_bare k s e = rw e

-- three reports after the head of a suggest or a proof
pub body_of_reports : (k : ℕ) (s : List ℕ) → 7 ≤ k → body_as k s ≡ Told (reports_at s 6)
unfolding body_as
body_of_reports k s a = simp (over 1 5 k (omega arith) (omega arith), ne_eqb k 6 (omega arith))

-- a frame has at least its head
pub length_least : (k : ℕ) → Form k → 6 ≤ length_of k
length_least k (plan a b) = rw (length_plan k a b) (omega arith)
length_least k (bare e) = rw (length_bare k e) (omega arith)
length_least k (reports a b) = rw (length_reports k a b) (omega arith)

-- a kind without a length is unknown, and a kind with one is known
pub unknown : (k : ℕ) → length_of k ≡ 0 → within 1 8 k ≡ false
unknown k e =
    elim (dec_le 1 k) [
      | no g ↦ under 1 8 k (omega arith)
      | yes a ↦ elim (dec_le k 8) [ no g ↦ over 1 8 k a (omega arith) | yes b ↦ absurd (omega (arith, length_least k (form k a b))) ]
    ]

-- a kind with a length is one of 1 to 8: `form_refusal` tests the length where row 9 tests the kind
pub known : (k : ℕ) → (length_of k ≡ 0 → ⊥) → within 1 8 k ≡ true
known k e =
    elim (dec_le 1 k) [
      | no g ↦ absurd (e (length_low k (omega arith)))
      | yes a ↦ elim (dec_le k 8) [ no g ↦ absurd (e (length_high k (omega arith))) | yes b ↦ inside 1 8 k a b ]
    ]

-- the number of a row is never 0: 0 says that no row is given
abbrev pub Positive : List Row → Type 0
Positive [] = Unit {0}
Positive (row k t ∷ rows) = (0 < k) × Positive rows

-- a table in two parts: the first part gives a number, or the second part decides
pub first_some : (rows more : List Row) → (first rows ≡ 0 → ⊥) → first (rows ++ more) ≡ first rows
first_some [] more z = absurd (z refl)
first_some (row k true ∷ rows) more z = refl
first_some (row k false ∷ rows) more z = first_some rows more z

-- where the first part gives nothing, the second part decides
pub first_none : (rows more : List Row) → Positive rows → first rows ≡ 0 → first (rows ++ more) ≡ first more
first_none [] more p e = refl
first_none (row k true ∷ rows) more p e = absurd (omega arith)
first_none (row k false ∷ rows) more p e = first_none rows more p.1 e

-- where the whole table gives nothing, neither part does
pub first_both : (rows more : List Row) → Positive rows → first (rows ++ more) ≡ 0 → (first rows ≡ 0) × (first more ≡ 0)
first_both [] more p e = (refl, e)
first_both (row k true ∷ rows) more p e = absurd (omega arith)
first_both (row k false ∷ rows) more p e = first_both rows more p.1 e

-- a row that is not given, at the head of a table that gives nothing
pub none : (t : Bool) (k m : ℕ) → 0 < k → cond t k m ≡ 0 → (t ≡ false) × (m ≡ 0)
none true k m h e = absurd (omega arith)
none false k m h e = (refl, e)

-- bytes that pass 9 and 10
pub formed : (s : List ℕ) → first (form_rows s) ≡ 0 → Formed s
formed s e =
    let a = none (eqb (length s) 0 || not (within 1 8 (get_or s 0 0))) 9 _ (omega arith) e in
    let b = none (not (eqb (length s) (length_of (get_or s 0 0)))) 10 _ (omega arith) a.1 in
    record {
      kind = not-false _ (neither (eqb (length s) 0) _ a.0).1;
      size = eqb-true _ _ (not-false _ b.0);
    }

module _ (s : List ℕ) (f : Formed s) where
  -- bytes that pass 9 and 10 have a kind of a known form
  pub form_of : Form (get_or s 0 0)
  form_of = let h = bounds 1 8 (get_or s 0 0) f.kind in form (get_or s 0 0) h.0 h.1

  -- bytes that pass 9 and 10 have at least a head, so its six bytes can be read
  pub head_is_there : 6 ≤ length s
  head_is_there = rw f.size (length_least (get_or s 0 0) form_of)

  -- bytes of the form of a frame pass 9 and 10
  pub form_passes : first (form_rows s) ≡ 0
  form_passes =
      let e : length s ≡ 0 → ⊥ = λ z. omega (arith, head_is_there) in
      simp (ne_eqb (length s) 0 e, f.kind, eq-eqb (length s) (length_of (get_or s 0 0)) f.size)

-- Every refusal has a number above 0.
pub numbered : (why : Refusal) → number_of why ≡ 0 → ⊥
numbered why.Output e = absurd (omega arith)
numbered why.Blank e = absurd (omega arith)
numbered why.Unsound e = absurd (omega arith)
numbered why.Started e = absurd (omega arith)
numbered why.N e = absurd (omega arith)
numbered why.F e = absurd (omega arith)
numbered why.Id e = absurd (omega arith)
numbered why.Class e = absurd (omega arith)
numbered why.Kind e = absurd (omega arith)
numbered why.Length e = absurd (omega arith)
numbered why.Link e = absurd (omega arith)
numbered why.Sender e = absurd (omega arith)
numbered why.ViewZero e = absurd (omega arith)
numbered why.Report e = absurd (omega arith)
numbered why.Leader e = absurd (omega arith)
numbered why.Over e = absurd (omega arith)
numbered why.Kept e = absurd (omega arith)
numbered why.Timer e = absurd (omega arith)
numbered why.LastView e = absurd (omega arith)
numbered why.Line e = absurd (omega arith)
numbered why.ReportView e = absurd (omega arith)
numbered why.Previous e = absurd (omega arith)
numbered why.Name e = absurd (omega arith)
numbered why.Records e = absurd (omega arith)
numbered why.RemnantLength e = absurd (omega arith)
numbered why.RemnantUnsound e = absurd (omega arith)

-- A test that answers an error refuses: its table gives a number.
pub refuses : (answer : Result Unit Refusal) {k : ℕ} → is_err answer ≡ true → number_in answer ≡ k → k ≡ 0 → ⊥
refuses (Ok x) e table z = absurd (true≢false (sym e))
refuses (Err why) e table z = numbered why (table ∙ z)

-- One that answers none passes: its table gives 0.
pub passes : (answer : Result Unit Refusal) {k : ℕ} → is_err answer ≡ false → number_in answer ≡ k → k ≡ 0
passes (Ok x) e table = sym table
passes (Err why) e table = absurd (true≢false e)

-- Whether it passes, as the test on its number says.
pub passing : (answer : Result Unit Refusal) → is_ok answer ≡ eqb (number_in answer) 0
passing (Ok x) = refl
passing (Err why) = sym (ne_eqb (number_of why) 0 (numbered why))
