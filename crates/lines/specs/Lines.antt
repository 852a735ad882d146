-- The lines of an input, and what a program prints that answers them one after the other (document 01, 'The line program').
-- Assumes nothing.
use Rattle.std.specs.Prelude.{ℕ, cond, List, [], ◌∷◌, ◌++◌, eqb}

-- 'A line ends at byte 0a': the lines that end in some input, where a line has begun already.
unfoldable pub ended : List ℕ → List ℕ → List (List ℕ)
ended line [] = []
ended line (b ∷ s) = cond (eqb b 10) (line ∷ ended [] s) (ended (line ++ (b ∷ [])) s)

-- The line that has then begun: what follows the last 0a.
unfoldable pub begun : List ℕ → List ℕ → List ℕ
begun line [] = line
begun line (b ∷ s) = cond (eqb b 10) (begun [] s) (begun (line ++ (b ∷ [])) s)

-- '.. or at the input's end; after a final 0a there is no further line'.
abbrev pub last_line : List ℕ → List (List ℕ)
last_line [] = []
last_line (b ∷ line) = (b ∷ line) ∷ []

-- The lines of an input.
abbrev pub lines_of : List ℕ → List (List ℕ)
lines_of input = ended [] input ++ last_line (begun [] input)

-- A program over lines: what a line's text makes of its state, and what it prints.
pub record Program (S : Type 0) : Type 0 where
  pub next : S → List ℕ → S
  pub says : S → List ℕ → List ℕ

module _ {S : Type 0} (p : Program S) where
  -- The state after lines.
  unfoldable pub after : S → List (List ℕ) → S
  after s [] = s
  after s (line ∷ lines) = after (p.next s line) lines

  -- What lines print, one after the other.
  unfoldable pub prints : S → List (List ℕ) → List ℕ
  prints s [] = []
  prints s (line ∷ lines) = p.says s line ++ prints (p.next s line) lines

  -- What the program prints for a whole input.
  abbrev pub answers : S → List ℕ → List ℕ
  answers s input = prints s (lines_of input)
