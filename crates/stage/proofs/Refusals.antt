-- Laws of the refusals of a rehearsal's lines (document 02, wish 2): 9, 10 and 23, 'after these'. A line that passes 9 and 10 is as long as its
-- kind asks, so that the bytes that name a frame and a vault can be read; a line that passes 23 too names a vault of the stage. They hold
-- because each row of the table computes from the kind.
-- Assumes nothing.
use Prim.Native.Nat.{ℕ, ◌<◌, ◌≤◌}
use mathlib.Core.Path.{◌≡◌}
use mathlib.Core.Bool.{false, not, ◌||◌}
use mathlib.Core.List.{List}
use native.Mathlib.Decide.{dec_le, ℕ_discrete}
use native.Mathlib.Omega.{arith}
use borrow.Author.Tests.{ne_eqb, lt-ltb, le-ltb, eqb-true, eqb-false, ltb-false, not-false}
use lib.Dec.{ltb, eqb}
use lib.ListN.{length}
use Rattle.frame.specs.Format.{within}
use Rattle.frame.specs.Refusal.{first}
use Rattle.frame.proofs.Laws.{told, neither, inside, over, bounds, none}
use Rattle.stage.specs.Lines.{kind_of, vault_in, wrong_length, no_vault, no_frame, second_liar, not_liar, misnamed, line_rows}
use Rattle.stage.specs.inside.Parts.{Formed, Named}

-- ---- the length that a kind asks

module _ (kind size : ℕ) where
  -- '00 start (vault, class, plan)': 11 bytes.
  pub start_length : kind ≡ 0 → wrong_length kind size ≡ not (eqb size 11)
  unfolding wrong_length
  start_length e = rw e

  -- '01 deliver (frame number, vault)': 3 bytes.
  pub deliver_length : kind ≡ 1 → wrong_length kind size ≡ not (eqb size 3)
  unfolding wrong_length
  deliver_length e = rw e

  -- '(vault declared, then 0 to 45 bytes)': 2 to 47 bytes.
  pub make_up_length : kind ≡ 4 → wrong_length kind size ≡ not (within 2 47 size)
  unfolding wrong_length
  make_up_length e = rw e

  -- The other kinds name one thing: 2 bytes.
  pub name_length : (kind ≡ 0 → ⊥) → (kind ≡ 1 → ⊥) → (kind ≡ 4 → ⊥) → wrong_length kind size ≡ not (eqb size 2)
  unfolding wrong_length
  name_length start deliver make_up = rw (ne_eqb kind 4 make_up, ne_eqb kind 0 start, ne_eqb kind 1 deliver)

  -- A length that is right for its kind is at least 2.
  right_two : wrong_length kind size ≡ false → 2 ≤ size
  right_two e =
      elim (ℕ_discrete kind 4) [
        | yes h ↦ (bounds 2 47 size (not-false _ (told (make_up_length h) e))).0
        | no make_up ↦ elim (ℕ_discrete kind 0) [
          | yes h ↦ omega (arith, eqb-true size 11 (not-false _ (told (start_length h) e)))
          | no start ↦ elim (ℕ_discrete kind 1) [
            | yes h ↦ omega (arith, eqb-true size 3 (not-false _ (told (deliver_length h) e)))
            | no deliver ↦ omega (arith, eqb-true size 2 (not-false _ (told (name_length start deliver make_up) e)))
          ]
        ]
      ]

-- Above the least length only the most is left to test.
pub above_most : (size : ℕ) → 2 ≤ size → ltb 47 size ≡ not (within 2 47 size)
above_most size low =
    elim (dec_le size 47) [
      | yes h ↦ rw (inside 2 47 size low h, le-ltb 47 size h)
      | no g ↦ let high : 47 < size = omega arith in rw (over 2 47 size low high, lt-ltb 47 size high)
    ]

-- ---- a line that passes 9 and 10

-- It has a byte behind its kind.
pub formed_two : {b : List ℕ} → Formed b → 2 ≤ length b
formed_two {b} f = right_two (kind_of b) (length b) f.size

-- A start is 11 bytes long.
pub formed_start : {b : List ℕ} → Formed b → kind_of b ≡ 0 → length b ≡ 11
formed_start {b} f e = eqb-true (length b) 11 (not-false _ (told (start_length (kind_of b) (length b) e) f.size))

-- A delivery is 3 bytes long.
pub formed_deliver : {b : List ℕ} → Formed b → kind_of b ≡ 1 → length b ≡ 3
formed_deliver {b} f e = eqb-true (length b) 3 (not-false _ (told (deliver_length (kind_of b) (length b) e) f.size))

-- A frame that is made up has at most 45 bytes.
pub formed_make_up : {b : List ℕ} → Formed b → kind_of b ≡ 4 → length b ≤ 47
formed_make_up {b} f e = (bounds 2 47 (length b) (not-false _ (told (make_up_length (kind_of b) (length b) e) f.size))).1

-- The tests that it passed.
pub formed : (b : List ℕ) → (length b ≡ 0 → ⊥) → kind_of b ≤ 5 → wrong_length (kind_of b) (length b) ≡ false → Formed b
formed b there kind size = record { there = omega (arith, there); kind = kind; size = size }

-- ---- a line that is not refused

module _ (s b : List ℕ) (e : first (line_rows s b) ≡ 0) where
  -- None of the rows is given.
  passed : ((eqb (length b) 0 || ltb 5 (kind_of b)) ≡ false) × (wrong_length (kind_of b) (length b) ≡ false) × (misnamed s b ≡ false)
  passed =
      let nine = none (eqb (length b) 0 || ltb 5 (kind_of b)) 9 _ (omega arith) e in
      let ten = none (wrong_length (kind_of b) (length b)) 10 _ (omega arith) nine.1 in
      (nine.0, ten.0, (none (misnamed s b) 23 _ (omega arith) ten.1).0)

  -- It passes 9 and 10.
  pub accepted_formed : Formed b
  accepted_formed =
      let nine = neither (eqb (length b) 0) (ltb 5 (kind_of b)) passed.0 in
      formed b (eqb-false (length b) 0 nine.0) (ltb-false 5 (kind_of b) nine.1) passed.1

  -- It names a vault of the stage, but for 02, which names none.
  pub accepted_named : (kind_of b ≡ 2 → ⊥) → Named b
  unfolding misnamed
  accepted_named g =
      let vault : no_vault b ≡ false = (neither (no_vault b) (no_frame s b || (second_liar s b || not_liar s b)) passed.2).0 in
      record { formed = accepted_formed; vault = ltb-false 3 (vault_in b) (rw (ne_eqb (kind_of b) 2 g) at vault) }
