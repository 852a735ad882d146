-- Laws of texts: bytes are written whole where they fit, a number's sentence is the one that its arm copies, and other numbers have none.
-- Assumes nothing.
use Prim.Native.Nat.{ℕ, zero, suc, ◌+◌, ◌≤◌, ◌<◌}
use Prim.Native.String as text
use mathlib.Core.Path.{◌≡◌, refl, sym, ap, subst, ◌∙◌}
use mathlib.Core.Bool.{Bool, true, false, cond, ◌&&◌}
use mathlib.Core.List.{List, [], ◌∷◌, ◌++◌}
use native.Mathlib.Decide.{dec_lt}
use native.Mathlib.Omega.{arith}
use lib.Dec.{leb}
use borrow.Author.Tests.{leb-true, le-leb, lt-leb}
use lib.ListN.{length, get_or, take, drop}
use lib.Seq.{take_all}
use Rattle.rules.proofs.Bools.{both_split}
use Rattle.wire.specs.Placed.{placed}
use Rattle.wire.proofs.Output.{placed_none}
use Rattle.questions.specs.Texts.{sentences, text_bytes, sentence_of, ShortTexts, fitting, Written}

-- Where there is no room, nothing is written.
pub none_fits : (bytes out : List ℕ) → length out < length bytes → Written (fitting bytes (length out)) out out 0
unfolding fitting
none_fits bytes out h = rw (lt-leb (length bytes) (length out) h) (record { count = refl; left = sym (placed_none out 0) })

-- A copy to the start of the output.
copied : (bytes out : List ℕ) → take (length bytes) bytes ++ drop (length bytes) out ≡ placed out 0 bytes
unfolding placed
copied bytes out = let start : 0 + length bytes ≡ length bytes = omega arith in rw (take_all (length bytes) bytes (omega arith), start) refl

-- Where there is room, a copy writes them.
pub all_fit : (bytes out out' : List ℕ) (r : ℕ) → length bytes ≤ length out → r ≡ length bytes
    → out' ≡ take (length bytes) bytes ++ drop (length bytes) out → Written (fitting bytes (length out)) out out' r
unfolding fitting
all_fit bytes out out' r h e is = rw (le-leb (length bytes) (length out) h) (record { count = e; left = is ∙ copied bytes out })

-- An arm copies its own number's sentence.
pub said : (number k : ℕ) (bytes out out' : List ℕ) (r : ℕ) → Written (fitting bytes (length out)) out out' r → number ≡ k → bytes ≡ sentence_of k
    → Written (fitting (sentence_of number) (length out)) out out' r
said number k bytes out out' r w e same =
    subst (λ (s : List ℕ). Written (fitting s (length out)) out out' r) (same ∙ ap sentence_of (sym e)) w

-- Beyond a list there is no sentence.
beyond : (l : List text.String) (number : ℕ) → length l ≤ number → get_or l number text.[] ≡ text.[]
beyond [] number h = refl
beyond (x ∷ l) zero h = absurd (omega arith)
beyond (x ∷ l) (suc number) h = beyond l number (omega arith)

-- Nor has 0 one.
pub no_number : (number : ℕ) → (0 < number → 26 < number) → sentence_of number ≡ []
unfolding sentence_of text_bytes
no_number zero h = refl
no_number (suc k) h = ap text_bytes (beyond sentences (suc k) (h (omega arith)))

-- Beyond 22 only 24, 25 and 26 have a sentence.
pub beyond_last : (number : ℕ) → 22 < number → (number ≡ 24 → ⊥) → (number ≡ 25 → ⊥) → (number ≡ 26 → ⊥) → sentence_of number ≡ []
unfolding sentence_of text_bytes
beyond_last number past = go (dec_lt 26 number)
  where
    go : Dec (26 < number) → (number ≡ 24 → ⊥) → (number ≡ 25 → ⊥) → (number ≡ 26 → ⊥) → sentence_of number ≡ []
    go (yes beyond) records length content = no_number number (λ h. beyond)
    go (no within) records length content = let is : number ≡ 23 = omega arith in rw is refl

-- A number that is no refusal's.
pub none_said : (number : ℕ) (out : List ℕ) → sentence_of number ≡ [] → Written (fitting (sentence_of number) (length out)) out out 0
none_said number out e =
    subst (λ (s : List ℕ). Written (fitting s (length out)) out out 0) (sym e) (all_fit [] out out 0 (omega arith) refl refl)

-- ---- how long

-- A test that computes: each sentence of a list is short.
all_short : List text.String → Bool
all_short [] = true
all_short (x ∷ l) = leb (length (text_bytes x)) 120 && all_short l

-- So is the one of each number.
short_at : (l : List text.String) (number : ℕ) → all_short l ≡ true → length (text_bytes (get_or l number text.[])) ≤ 120
unfolding all_short text_bytes
short_at [] number e = omega arith
short_at (x ∷ l) zero e = leb-true (length (text_bytes x)) 120 (both_split (leb (length (text_bytes x)) 120) (all_short l) e).0
short_at (x ∷ l) (suc number) e = short_at l number (both_split (leb (length (text_bytes x)) 120) (all_short l) e).1

-- No sentence is longer than 120 bytes, by that test on the whole list.
pub short_texts : ShortTexts
unfolding sentence_of all_short text_bytes
short_texts number = short_at sentences number refl

-- What is written is no longer.
pub short_written : (bytes out out' : List ℕ) (r : ℕ) → length bytes ≤ 120 → Written (fitting bytes (length out)) out out' r → r ≤ 120
unfolding fitting
short_written bytes out out' r h w = go (leb (length bytes) (length out)) w.count
  where
    go : (b : Bool) → r ≡ length (cond b bytes []) → r ≤ 120
    go true e = omega arith
    go false e = omega arith
