-- An input that is read in pieces: what feeding a piece does, and the input's end.
-- Assumes nothing.
use Rattle.std.specs.Prelude.{ℕ, ◌≡◌, List, [], ◌++◌, take}
use Rattle.lines.specs.Lines.{ended, begun, last_line, Program, after, prints}

module _ {S : Type 0} (p : Program S) where
  -- A piece of input fed, where a line has begun: the state afterwards, what is kept of the line that has then begun, and what is printed.
  pub record Fed (room : ℕ) (s : S) (line piece : List ℕ) (s' : S) (line' printed : List ℕ) : Type 0 where
    pub left : s' ≡ after p s (ended line piece)
    pub kept : line' ≡ take room (begun line piece)
    pub says : printed ≡ prints p s (ended line piece)

  -- The input's end: the line that has begun is answered.
  pub record Finished (s : S) (line : List ℕ) (s' : S) (printed : List ℕ) : Type 0 where
    pub left : s' ≡ after p s (last_line line)
    pub says : printed ≡ prints p s (last_line line)

  -- An input fed in pieces, each where the one before it ended: input and printed pages so far, state, and what is kept of the line begun.
  pub data Reads (room : ℕ) (s : S) : List ℕ → List ℕ → S → List ℕ → Type 0 where
    first : Reads room s [] [] s []
    and_then : {input pages : List ℕ} {s' : S} {line' piece page : List ℕ} {s'' : S} {line'' : List ℕ}
        → Reads room s input pages s' line' → Fed room s' line' piece s'' line'' page → Reads room s (input ++ piece) (pages ++ page) s'' line''
