-- What a line can mean: a call at one of the four vaults, with the settings of the rehearsal or a frame that waits; a made-up frame of the declared
-- vault, of at most 45 bytes; a liar where none, or the same, is declared.
-- Assumes nothing.
use Prim.Native.Nat.{ℕ, suc, ◌+◌, ◌^◌, ◌≤◌, ◌<◌}
use mathlib.Core.Path.{◌≡◌, refl, sym, ap, subst, ◌∙◌}
use mathlib.Core.Logic.{◌⊎◌, inl, inr, ⊎_elim}
use mathlib.Core.Bool.{Bool, true, false, not, ◌&&◌, ◌||◌, cond}
use mathlib.Core.List.{List}
use mathlib.Core.Option.{Option, none, some}
use native.Mathlib.Omega.{arith}
use lib.Dec.{ltb, eqb}
use borrow.Author.Tests.{eqb-true, ltb-false, ne_eqb}
use lib.ListN.{length, get_or, drop, length-drop}
use lib.Seq.{get_or-drop}
use Rattle.rules.proofs.Bools.{clash, either}
use Rattle.wire.specs.Digits.{number_at}
use Rattle.wire.specs.Fields.{Bytes}
use Rattle.wire.proofs.Laws.{number_below}
use Rattle.frame.specs.Format.{within}
use Rattle.frame.specs.Refusal.{first}
use Rattle.frame.proofs.Laws.{none as row_free, neither, inside, bounds}
use Rattle.lines.specs.Digits.{bytes_of}
use Rattle.lines.proofs.Spelled.{spelled_are_bytes}
use Rattle.runs.specs.Runs.{ByteCall, start, frame, timer}
use Rattle.stage.specs.Stage.{place_count, liar_in, is_liar, Waiting, is_free, waiting_at}
use Rattle.stage.specs.Lines.{Meant, refuse, call, free, declare, make_up, kind_of, vault_in, wrong_length, no_vault, no_frame}
use Rattle.stage.specs.Lines.{second_liar, not_liar, misnamed, line_rows, start_of, delivered, waiting_now, call_of, taken}
use Rattle.stage.specs.Lines.{meant, digit_limit, spelled_meant, line_meant}

-- The call that a line makes at vault v.
pub data CallWell (s : List ℕ) (v : ℕ) : ByteCall → Type 0 where
  by_start : (class plan : ℕ) → plan < 2 ^ 64 → CallWell s v (start (record { n = 4; f = 1; id = v; class = class }) plan)
  by_frame : (k : ℕ) (w : Waiting) → k < place_count → waiting_at s k ≡ some w → CallWell s v (frame w.writer w.bytes)
  by_timer : (view : ℕ) → CallWell s v (timer view)

-- What a line can mean on a stage.
abbrev pub MeantWell : List ℕ → Meant → Type 0
MeantWell s (refuse number) = Unit {0}
MeantWell s (call v a) = (v ≤ 3) × CallWell s v a
MeantWell s (free k) = k < place_count
MeantWell s (declare v) = (liar_in s ≡ 0) ⊎ (liar_in s ≡ suc v)
MeantWell s (make_up v bytes) = (liar_in s ≡ suc v) × Bytes bytes × (length bytes ≤ 45)

-- ---- what a line means

-- What holds of both choices holds of the one taken.
choice : {A : Type 0} (P : A → Type 0) (b : Bool) (x y : A) → (b ≡ true → P x) → (b ≡ false → P y) → P (cond b x y)
choice P true x y yes-holds no-holds = yes-holds refl
choice P false x y yes-holds no-holds = no-holds refl

-- A test that is not false is true.
only_true : (b : Bool) → not b ≡ false → b ≡ true
only_true true e = refl
only_true false e = absurd (clash refl e)

-- The second of two tests that do not both hold, where the first does.
second : (a b : Bool) → (a && b) ≡ false → a ≡ true → b ≡ false
second a b e is = ap (λ (c : Bool). c && b) (sym is) ∙ e

module _ (s b : List ℕ) (bytes : Bytes b) (accepted : first (line_rows s b) ≡ 0) where
  -- Rows 10 and 23 do not apply.
  rows : (wrong_length (kind_of b) (length b) ≡ false) × (misnamed s b ≡ false)
  rows =
      let (_, rest) = row_free (eqb (length b) 0 || ltb 5 (kind_of b)) 9 _ (omega arith) accepted in
      let (size, more) = row_free (wrong_length (kind_of b) (length b)) 10 _ (omega arith) rest in
      (size, (row_free (misnamed s b) 23 0 (omega arith) more).0)

  -- None of the four ways of 23 does.
  names : (no_vault b ≡ false) × ((no_frame s b ≡ false) × ((second_liar s b ≡ false) × (not_liar s b ≡ false)))
  unfolding misnamed
  names =
      let (one, rest) = neither (no_vault b) (no_frame s b || (second_liar s b || not_liar s b)) rows.1 in
      let (two, more) = neither (no_frame s b) (second_liar s b || not_liar s b) rest in
      (one, (two, neither (second_liar s b) (not_liar s b) more))

  -- A declared liar is the first one, or the same again.
  declares : eqb (kind_of b) 3 ≡ true → MeantWell s (declare (vault_in b))
  declares is =
      let may : (eqb (liar_in s) 0 || is_liar s (vault_in b)) ≡ true = only_true _ (second (eqb (kind_of b) 3) _ names.1.1.0 is) in
      ⊎_elim (λ none_yet. inl (eqb-true (liar_in s) 0 none_yet)) (λ again. inr (eqb-true (liar_in s) (suc (vault_in b)) again))
      (either (eqb (liar_in s) 0) (is_liar s (vault_in b)) may)

  -- A made-up frame is the liar's, and has at most 45 bytes.
  makes_up : eqb (kind_of b) 4 ≡ true → MeantWell s (make_up (vault_in b) (drop 2 b))
  unfolding wrong_length
  makes_up is =
      let lies : is_liar s (vault_in b) ≡ true = only_true _ (second (eqb (kind_of b) 4) _ names.1.1.1 is) in
      let size : not (within 2 47 (length b)) ≡ false =
      ap (λ (c : Bool). not (cond c (within 2 47 (length b)) (eqb (length b) (cond (eqb (kind_of b) 0) 11 (cond (eqb (kind_of b) 1) 3 2))))) (sym is) ∙ rows.0 in
      let (least, most) = bounds 2 47 (length b) (only_true (within 2 47 (length b)) size) in (
        eqb-true (liar_in s) (suc (vault_in b)) lies,
        λ i. subst (λ (n : ℕ). n < 256) (sym (get_or-drop 2 b i 0)) (bytes (2 + i)),
        omega (arith, length-drop 2 b),
      )

  -- The vault named is one of the four.
  names_vault : eqb (kind_of b) 2 ≡ false → vault_in b ≤ 3
  names_vault other = ltb-false 3 (vault_in b) (second (not (eqb (kind_of b) 2)) (ltb 3 (vault_in b)) names.0 (ap not other))

  -- A start brings the rehearsal's settings, and the vault's number.
  starts : eqb (kind_of b) 0 ≡ true → CallWell s (vault_in b) (start_of b)
  unfolding vault_in
  starts is =
      let zeroth : kind_of b ≡ 0 = eqb-true (kind_of b) 0 is in
      let other : eqb (kind_of b) 1 ≡ false = ne_eqb (kind_of b) 1 (λ (e : kind_of b ≡ 1). absurd (omega arith)) in
      let its : vault_in b ≡ get_or b 1 0 = ap (λ (c : Bool). cond c (get_or b 2 0) (get_or b 1 0)) other in
      subst (λ (v : ℕ). CallWell s v (start_of b)) (sym its) (by_start (get_or b 2 0) (number_at 8 b 3) (number_below 8 b 3 bytes))

  -- The frame delivered is one that waits.
  delivers : eqb (kind_of b) 1 ≡ true → CallWell s (vault_in b) (delivered (waiting_now s (get_or b 1 0)))
  unfolding waiting_at
  delivers is =
      let first_one : kind_of b ≡ 1 = eqb-true (kind_of b) 1 is in
      let taken-place : is_free s (get_or b 1 0) ≡ false =
      second (within 1 2 (kind_of b)) (is_free s (get_or b 1 0)) names.1.0 (inside 1 2 (kind_of b) (omega arith) (omega arith)) in
      by_frame (get_or b 1 0) (waiting_now s (get_or b 1 0)) (bytes 1)
      (ap (λ (c : Bool). cond c none (some (waiting_now s (get_or b 1 0)))) taken-place)

  -- The call of a line is one that it can make.
  calls : CallWell s (vault_in b) (call_of s b)
  unfolding call_of
  calls = choice (CallWell s (vault_in b)) (eqb (kind_of b) 0) _ _ starts
      (λ other. choice (CallWell s (vault_in b)) (eqb (kind_of b) 1) _ _ delivers (λ others. by_timer _))

  -- A line that is not refused means what it can mean.
  taken_well : MeantWell s (taken s b)
  unfolding taken
  taken_well = choice (MeantWell s) (eqb (kind_of b) 2) _ _ (λ is. bytes 1) (λ not-free.
      choice (MeantWell s) (eqb (kind_of b) 3) _ _ declares (λ not-declared.
      choice (MeantWell s) (eqb (kind_of b) 4) _ _ makes_up (λ not_made. (names_vault not-free, calls))))

-- So does every line.
pub meant_well : (s text : List ℕ) → MeantWell s (line_meant s text)
unfolding line_meant meant
meant_well s text = go (bytes_of digit_limit text) refl
  where
    go : (o : Option (List ℕ)) → bytes_of digit_limit text ≡ o → MeantWell s (spelled_meant s o)
    go none is = tt
    go (some b) is = choice (MeantWell s) (eqb (first (line_rows s b)) 0) _ _
        (λ fine. taken_well s b (spelled_are_bytes digit_limit text b is) (eqb-true (first (line_rows s b)) 0 fine)) (λ refused. tt)
