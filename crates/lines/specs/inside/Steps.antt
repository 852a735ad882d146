-- What the parts of a program over lines promise each other: the count of bytes that a text spells, what is kept of a line, digits and
-- lines put on a page. And what follows for an input that is read in pieces (`AnySplit`).
-- Assumes nothing.
use Rattle.std.specs.Prelude.{Option as Answer, Some, None, ℕ, suc, ◌+◌, ◌/◌, ◌%◌, ◌≤◌, ◌<◌, ◌≡◌, List, [], ◌∷◌, ◌++◌, length, take}
use Rattle.std.proofs.Math.Option.{Option, none, some}
use Rattle.wire.specs.Placed.{placed}
use Rattle.lines.specs.Digits.{value_of, digit_of}
use Rattle.lines.specs.Lines.{ended, begun, Program, after, prints, answers}
use Rattle.lines.specs.Steps.{Finished, Reads}

-- What the function `value_of` answers of a byte: the digit's value, or None where the byte is none.
abbrev pub ValueOf : ℕ → Answer ℕ → Type 0
ValueOf b (Some v) = (v ≡ value_of b) × (v < 16)
ValueOf b None = value_of b ≡ 16

-- The bytes that an answer of `bytes_in` stands for: the first ones of those that it left.
abbrev pub spells : Answer ℕ → List ℕ → Option (List ℕ)
spells (Some n) bytes = some (take n bytes)
spells None bytes = none

-- How many there are.
abbrev pub spelling_count : Answer ℕ → ℕ
spelling_count (Some n) = n
spelling_count None = 0

-- Bytes as digits, two for each, without a line's end: the beginning of a line.
unfoldable pub digits_of : List ℕ → List ℕ
digits_of [] = []
digits_of (b ∷ s) = digit_of (b / 16) ∷ digit_of (b % 16) ∷ digits_of s

-- Lines put on the page: it holds them from a place on and is otherwise as it was; where they end.
pub record OnPage (lines page : List ℕ) (at : ℕ) (page' : List ℕ) (next : ℕ) : Type 0 where
  pub shown : page' ≡ placed page at lines
  pub ends : next ≡ at + length lines

-- The first len bytes of a text are what is kept of a line: as many of its bytes as the text has room for.
pub record KeptOf (line text : List ℕ) (len : ℕ) : Type 0 where
  pub kept : take len text ≡ take (length text) line
  pub few : len ≤ length text

module _ {S : Type 0} (p : Program S) where
  -- What is kept of a line is enough: the program answers it as the line.
  pub record Enough (room : ℕ) : Type 0 where
    pub next : (s : S) (line : List ℕ) → p.next s (take room line) ≡ p.next s line
    pub says : (s : S) (line : List ℕ) → p.says s (take room line) ≡ p.says s line

  -- A line answered: the state that it leaves, and what it prints, put on the page.
  pub record Answered (s : S) (text page : List ℕ) (at : ℕ) (s' : S) (page' : List ℕ) (next : ℕ) : Type 0 where
    pub left : s' ≡ p.next s text
    pub lines : OnPage (p.says s text) page at page' next

  -- However the input is split: pages, state and line are those of the input as a whole.
  pub record ReadsAs (room : ℕ) (s : S) (input pages : List ℕ) (s' : S) (line' : List ℕ) : Type 0 where
    pub left : s' ≡ after p s (ended [] input)
    pub kept : line' ≡ take room (begun [] input)
    pub says : pages ≡ prints p s (ended [] input)

  -- .. and with its last line answered, all is printed that the program prints for it. Proved as `any_split` in proofs/Whole.
  abbrev pub AnySplit : Type 0
  AnySplit = (room : ℕ) → Enough (suc room) → (s : S) (input pages : List ℕ) (s' : S) (line' : List ℕ) → Reads p (suc room) s input pages s' line'
      → ReadsAs (suc room) s input pages s' line' × ((s'' : S) (page : List ℕ) → Finished p s' line' s'' page → pages ++ page ≡ answers p s input)
