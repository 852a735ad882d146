-- Laws of lines: what is kept of a line serves as the line, the first line of some input ends it or goes on, and input in two parts.
-- Assumes nothing.
use Prim.Native.Nat.{ℕ, zero, suc, ◌+◌, ◌≤◌, ◌<◌}
use mathlib.Core.Path.{◌≡◌, refl, sym, ap, ◌∙◌}
use mathlib.Core.Bool.{Bool, true, false, cond}
use mathlib.Core.List.{List, [], ◌∷◌, ◌++◌, append_assoc, append-nil}
use native.Mathlib.Omega.{arith}
use lib.Dec.{eqb}
use lib.ListN.{length, take, drop, length-drop}
use Rattle.lines.specs.Lines.{ended, begun, last_line, Program, after, prints}
use Rattle.lines.specs.inside.Lines.{first_line}
use Rattle.lines.specs.inside.Steps.{Enough}

-- A test's two outcomes.
either : (P : Bool → Type 0) → P true → P false → (t : Bool) → P t
either P a b true = a
either P a b false = b

-- ---- what is kept

-- What is cut off a line early makes no difference to what is kept of it in the end.
pub kept_more : (room : ℕ) (x z : List ℕ) → take room (take room x ++ z) ≡ take room (x ++ z)
kept_more zero x z = refl
kept_more (suc room) [] z = refl
kept_more (suc room) (b ∷ x) z = ap (λ (l : List ℕ). b ∷ l) (kept_more room x z)

-- Lines of which the same is kept stay so, whatever comes after them.
same_more : (room : ℕ) (x y z : List ℕ) → take room x ≡ take room y → take room (x ++ z) ≡ take room (y ++ z)
same_more room x y z same = sym (kept_more room x z) ∙ ap (λ (l : List ℕ). take room (l ++ z)) same ∙ kept_more room y z

-- ---- the first line

-- The first line ends within the input: where it is looked for there are bytes.
pub first_short : (s : List ℕ) → length (first_line s) ≤ length s
unfolding first_line
first_short [] = omega arith
first_short (b ∷ s) =
    either (λ (t : Bool). length (cond t [] (b ∷ first_line s)) ≤ suc (length s)) (omega arith) (omega (arith, first_short s)) (eqb b 10)

-- So a line that begins within a piece ends, or goes on, within it.
pub end_within : (piece : List ℕ) (i end : ℕ) → i ≤ length piece → end ≡ i + length (first_line (drop i piece)) → end ≤ length piece
end_within piece i end within is = omega (arith, first_short (drop i piece), length-drop i piece)

-- It ends here.
pub ended_first : (line s : List ℕ) → length (first_line s) < length s
    → ended line s ≡ (line ++ first_line s) ∷ ended [] (drop (suc (length (first_line s))) s)
unfolding ended first_line
ended_first line [] h = absurd (omega arith)
ended_first line (b ∷ s) h =
    either (λ (t : Bool). length (cond t [] (b ∷ first_line s)) < suc (length s) → cond t (line ∷ ended [] s) (ended (line ++ (b ∷ [])) s)
    ≡ (line ++ cond t [] (b ∷ first_line s)) ∷ ended [] (drop (suc (length (cond t [] (b ∷ first_line s)))) (b ∷ s)))
    (λ g. ap (λ (l : List ℕ). l ∷ ended [] s) (sym (append-nil line)))
    (λ (g : suc (length (first_line s)) < suc (length s)). ended_first (line ++ (b ∷ [])) s (omega arith)
    ∙ ap (λ (l : List ℕ). l ∷ ended [] (drop (suc (length (first_line s))) s)) (append_assoc line (b ∷ []) (first_line s)))
    (eqb b 10) h

-- It has ended, so nothing of it is begun after it.
pub begun_first : (line s : List ℕ) → length (first_line s) < length s → begun line s ≡ begun [] (drop (suc (length (first_line s))) s)
unfolding begun first_line
begun_first line [] h = absurd (omega arith)
begun_first line (b ∷ s) h =
    either (λ (t : Bool). length (cond t [] (b ∷ first_line s)) < suc (length s) → cond t (begun [] s) (begun (line ++ (b ∷ [])) s)
    ≡ begun [] (drop (suc (length (cond t [] (b ∷ first_line s)))) (b ∷ s)))
    (λ g. refl)
    (λ (g : suc (length (first_line s)) < suc (length s)). begun_first (line ++ (b ∷ [])) s (omega arith))
    (eqb b 10) h

-- It goes on.
pub ended_none : (line s : List ℕ) → length s ≤ length (first_line s) → ended line s ≡ []
unfolding ended first_line
ended_none line [] h = refl
ended_none line (b ∷ s) h =
    either (λ (t : Bool). suc (length s) ≤ length (cond t [] (b ∷ first_line s)) → cond t (line ∷ ended [] s) (ended (line ++ (b ∷ [])) s) ≡ [])
    (λ (g : suc (length s) ≤ 0). absurd (omega arith))
    (λ (g : suc (length s) ≤ suc (length (first_line s))). ended_none (line ++ (b ∷ [])) s (omega arith))
    (eqb b 10) h

-- It goes on, so all of it is the line that is begun.
pub begun_none : (line s : List ℕ) → length s ≤ length (first_line s) → begun line s ≡ line ++ first_line s
unfolding begun first_line
begun_none line [] h = sym (append-nil line)
begun_none line (b ∷ s) h =
    either (λ (t : Bool). suc (length s) ≤ length (cond t [] (b ∷ first_line s)) → cond t (begun [] s) (begun (line ++ (b ∷ [])) s)
    ≡ line ++ cond t [] (b ∷ first_line s))
    (λ (g : suc (length s) ≤ 0). absurd (omega arith))
    (λ (g : suc (length s) ≤ suc (length (first_line s))). begun_none (line ++ (b ∷ [])) s (omega arith) ∙ append_assoc line (b ∷ []) (first_line s))
    (eqb b 10) h

-- ---- input in two parts

-- The lines ended in two parts: those of the first, then those of the second that go on from the line begun.
pub ended_more : (line a b : List ℕ) → ended line (a ++ b) ≡ ended line a ++ ended (begun line a) b
unfolding ended begun
ended_more line [] b = refl
ended_more line (x ∷ a) b =
    either (λ (t : Bool). cond t (line ∷ ended [] (a ++ b)) (ended (line ++ (x ∷ [])) (a ++ b))
    ≡ cond t (line ∷ ended [] a) (ended (line ++ (x ∷ [])) a) ++ ended (cond t (begun [] a) (begun (line ++ (x ∷ [])) a)) b)
    (ap (λ (l : List (List ℕ)). line ∷ l) (ended_more [] a b)) (ended_more (line ++ (x ∷ [])) a b) (eqb x 10)

-- The line begun after two parts is the one begun by the second, from the one begun by the first.
pub begun_more : (line a b : List ℕ) → begun line (a ++ b) ≡ begun (begun line a) b
unfolding begun
begun_more line [] b = refl
begun_more line (x ∷ a) b =
    either (λ (t : Bool). cond t (begun [] (a ++ b)) (begun (line ++ (x ∷ [])) (a ++ b)) ≡ begun (cond t (begun [] a) (begun (line ++ (x ∷ [])) a)) b)
    (begun_more [] a b) (begun_more (line ++ (x ∷ [])) a b) (eqb x 10)

module _ {S : Type 0} (p : Program S) where
  -- The state after two lists of lines: the second goes on from the state after the first.
  pub after_more : (s : S) (a b : List (List ℕ)) → after p s (a ++ b) ≡ after p (after p s a) b
  unfolding after
  after_more s [] b = refl
  after_more s (l ∷ a) b = after_more (p.next s l) a b

  -- What two lists of lines print: the second is answered at the state after the first.
  pub prints_more : (s : S) (a b : List (List ℕ)) → prints p s (a ++ b) ≡ prints p s a ++ prints p (after p s a) b
  unfolding after prints
  prints_more s [] b = refl
  prints_more s (l ∷ a) b =
      ap (λ (x : List ℕ). p.says s l ++ x) (prints_more (p.next s l) a b)
      ∙ sym (append_assoc (p.says s l) (prints p (p.next s l) a) (prints p (after p (p.next s l) a) b))

-- ---- lines of which the same is kept are answered alike

module _ {S : Type 0} (p : Program S) (room : ℕ) (enough : Enough p room) where
  -- They leave the same state.
  next_same : (s : S) (x y : List ℕ) → take room x ≡ take room y → p.next s x ≡ p.next s y
  next_same s x y same = sym (enough.next s x) ∙ ap (λ (l : List ℕ). p.next s l) same ∙ enough.next s y

  -- They print the same.
  says_same : (s : S) (x y : List ℕ) → take room x ≡ take room y → p.says s x ≡ p.says s y
  says_same s x y same = sym (enough.says s x) ∙ ap (λ (l : List ℕ). p.says s l) same ∙ enough.says s y

  -- A piece that goes on from either leaves the same state.
  pub after_same : (s : S) (x y piece : List ℕ) → take room x ≡ take room y → after p s (ended x piece) ≡ after p s (ended y piece)
  unfolding after ended
  after_same s x y [] same = refl
  after_same s x y (b ∷ piece) same =
      either (λ (t : Bool). after p s (cond t (x ∷ ended [] piece) (ended (x ++ (b ∷ [])) piece))
      ≡ after p s (cond t (y ∷ ended [] piece) (ended (y ++ (b ∷ [])) piece)))
      (ap (λ (r : S). after p r (ended [] piece)) (next_same s x y same))
      (after_same s (x ++ (b ∷ [])) (y ++ (b ∷ [])) piece (same_more room x y (b ∷ []) same)) (eqb b 10)

  -- A piece that goes on from either prints the same.
  pub prints_same : (s : S) (x y piece : List ℕ) → take room x ≡ take room y → prints p s (ended x piece) ≡ prints p s (ended y piece)
  unfolding prints ended
  prints_same s x y [] same = refl
  prints_same s x y (b ∷ piece) same =
      either (λ (t : Bool). prints p s (cond t (x ∷ ended [] piece) (ended (x ++ (b ∷ [])) piece))
      ≡ prints p s (cond t (y ∷ ended [] piece) (ended (y ++ (b ∷ [])) piece)))
      (λ i. says_same s x y same i ++ prints p (next_same s x y same i) (ended [] piece))
      (prints_same s (x ++ (b ∷ [])) (y ++ (b ∷ [])) piece (same_more room x y (b ∷ []) same)) (eqb b 10)

-- And of the line begun after the piece the same is kept.
pub begun_same : (room : ℕ) (x y piece : List ℕ) → take room x ≡ take room y → take room (begun x piece) ≡ take room (begun y piece)
unfolding begun
begun_same room x y [] same = same
begun_same room x y (b ∷ piece) same =
    either (λ (t : Bool). take room (cond t (begun [] piece) (begun (x ++ (b ∷ [])) piece)) ≡ take room (cond t (begun [] piece) (begun (y ++ (b ∷ [])) piece)))
    refl (begun_same room (x ++ (b ∷ [])) (y ++ (b ∷ [])) piece (same_more room x y (b ∷ []) same)) (eqb b 10)

-- The last line, of which something is kept.
module _ {S : Type 0} (p : Program S) (room : ℕ) (enough : Enough p (suc room)) where
  -- It is answered at the input's end like the whole line: none is where none was, as at least one byte is kept.
  pub last_same : (s : S) (line : List ℕ) → prints p s (last_line (take (suc room) line)) ≡ prints p s (last_line line)
  unfolding prints
  last_same s [] = refl
  last_same s (b ∷ line) = ap (λ (l : List ℕ). l ++ []) (enough.says s (b ∷ line))
