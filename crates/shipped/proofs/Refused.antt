-- Each number that a call gives is a refusal's: the rows of the papers' tables have such numbers and no others.
-- Assumes nothing.
use Prim.Native.Nat.{ℕ, zero, suc, ◌+◌, ◌≤◌}
use mathlib.Core.Path.{◌≡◌, refl, sym, ap, subst, ◌∙◌}
use mathlib.Core.Bool.{Bool, true, false, ◌||◌, true≢false}
use mathlib.Core.List.{List, [], ◌∷◌}
use native.Mathlib.Decide.{dec_le}
use native.Mathlib.Omega.{arith}
use Rattle.frame.specs.declared.Refusal.{Refusal}
use Rattle.frame.specs.declared.Refusal.TheVariants as why
use Rattle.frame.specs.Refusal.{Row, row, first}
use Rattle.frame.specs.Numbers.{number_of}
use Rattle.frame.specs.Format.{within}
use Rattle.frame.proofs.Laws.{bounds}
use Rattle.vault_c.specs.Refusals.{is_refusal}
use Rattle.vault_c.proofs.Small.{Small}
use Rattle.contents.specs.Left.{Left, wrote, gave}
use Rattle.contents.specs.Remnant.{unless_given, remnant_rows, remnant_left, restart_rows, restart_left}

-- A refusal has this number.
abbrev pub Numbers : ℕ → Type 0
Numbers k = (w : Refusal) × (number_of w ≡ k)

-- Every number up to n is a refusal's.
abbrev Up : ℕ → Type 0
Up n = (k : ℕ) → 1 ≤ k → k ≤ n → Numbers k

-- One more.
more : (n : ℕ) → Up n → (w : Refusal) → number_of w ≡ n + 1 → Up (n + 1)
more n below w e k low high = go (dec_le k n)
  where
    go : Dec (k ≤ n) → Numbers k
    go (yes h) = below k low h
    go (no h) = (w, e ∙ omega arith)

none_yet : Up 0
none_yet k low high = absurd (omega arith)

-- The calls' numbers, and those of a remnant.
numbers : Up 26
numbers =
    let up5 = more 4 (more 3 (more 2 (more 1 (more 0 none_yet why.Output refl) why.Blank refl) why.Unsound refl) why.Started refl) why.N refl in
    let up10 = more 9 (more 8 (more 7 (more 6 (more 5 up5 why.F refl) why.Id refl) why.Class refl) why.Kind refl) why.Length refl in
    let up15 = more 14 (more 13 (more 12 (more 11 (more 10 up10 why.Link refl) why.Sender refl) why.ViewZero refl) why.Report refl) why.Leader refl in
    let up20 = more 19 (more 18 (more 17 (more 16 (more 15 up15 why.Over refl) why.Kept refl) why.Timer refl) why.LastView refl) why.Line refl in
    let up25 = more 24 (more 23 (more 22 (more 21 (more 20 up20 why.ReportView refl) why.Previous refl) why.Name refl) why.Records refl) why.RemnantLength refl in
    more 25 up25 why.RemnantUnsound refl

-- What a call of a vault gives is such a number.
pub given_number : (k : ℕ) → is_refusal k ≡ true → Numbers k
given_number k e = go (within 1 19 k) (within 21 22 k) refl refl e
  where
    go : (a b : Bool) → within 1 19 k ≡ a → within 21 22 k ≡ b → (a || b) ≡ true → Numbers k
    go true b is other e = let h = bounds 1 19 k is in numbers k h.0 (omega arith)
    go false true is other e = let h = bounds 21 22 k other in numbers k (omega arith) (omega arith)
    go false false is other e = absurd (true≢false (sym e))

-- The same of what a call left, by a Left that is refused.
pub small_number : (k : ℕ) (rec out : List ℕ) (left : Left) → gave k rec out ≡ left → Small left → Numbers k
small_number k rec out left e small = given_number k (subst Small (sym e) small)

-- The rows of a table have refusals' numbers.
abbrev pub AllNumbers : List Row → Type 0
AllNumbers [] = Unit {0}
AllNumbers (row k given ∷ rows) = (1 ≤ k) × (k ≤ 26) × AllNumbers rows

-- What a table gives where it gives a number.
table_number : (rows : List Row) → AllNumbers rows → (first rows ≡ 0 → ⊥) → Numbers (first rows)
table_number [] all given = absurd (given refl)
table_number (row k true ∷ rows) all given = numbers k all.0 all.1
table_number (row k false ∷ rows) all given = table_number rows all.2 given

-- A call that its table decides, and that changes the record and the output where the table gives nothing.
pub unless_number : (rows : List Row) → AllNumbers rows → (k : ℕ) (rec out rec' out' rec'' out'' : List ℕ) (n : ℕ)
    → gave k rec' out' ≡ unless_given (first rows) rec out (wrote n rec'' out'') → Numbers k
unless_number rows all k rec out rec' out' rec'' out'' n e = go (first rows) refl e
  where
    number_left : Left → ℕ
    number_left (wrote n rec out) = 0
    number_left (gave k rec out) = k

    is_gave : Left → Bool
    is_gave (wrote n rec out) = false
    is_gave (gave k rec out) = true

    go : (j : ℕ) → first rows ≡ j → gave k rec' out' ≡ unless_given j rec out (wrote n rec'' out'') → Numbers k
    go zero is e = absurd (true≢false (ap is_gave e))
    go (suc j) is e =
        let number : first rows ≡ k = is ∙ sym (ap number_left e) in
        subst Numbers number (table_number rows all (λ z. absurd (omega (arith, z, is))))

-- A refused write has a refusal's number,
pub written_number : (k : ℕ) (rec' out' rec out : List ℕ) → gave k rec' out' ≡ remnant_left rec out → Numbers k
unfolding remnant_left
written_number k rec' out' rec out e =
    unless_number (remnant_rows rec out) (omega arith) k rec out rec' out' _ _ _ e

-- and so has a refused restart.
pub restarted_number : (k : ℕ) (rec' out' rec remnant out : List ℕ) → gave k rec' out' ≡ restart_left rec remnant out → Numbers k
unfolding restart_left
restarted_number k rec' out' rec remnant out e =
    unless_number (restart_rows rec remnant out) (omega arith) k rec out rec' out' _ _ _ e
