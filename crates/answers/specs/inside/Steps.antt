-- What the parts of a line's answer promise each other: sizes, and answers whose bytes can be printed.
-- Assumes nothing.
use Rattle.std.specs.Prelude.{Result, Ok, Err, ℕ, ◌+◌, ◌*◌, ◌≤◌, ◌≡◌, List, length, take}
use Rattle.entry.specs.Layout.{layout}
use Rattle.entry.specs.Valid.{AllValid}
use Rattle.entry.specs.Reading.{entries_of}
use Rattle.contents.specs.Left.{Left}
use Rattle.runs.specs.Runs.{record_in}
use Rattle.frame.specs.declared.Refusal.{Refusal}
use Rattle.lines.specs.inside.Steps.{OnPage}
use Rattle.answers.specs.Lines.{printed}

-- 'a zeroed 256-byte output array'.
abbrev pub output_size : ℕ
output_size = 256

-- The most that an answer takes of the page: three bytes for each of the output's.
abbrev pub answer_size : ℕ
answer_size = 3 * output_size

-- The most that it takes for each byte of its line and for the line's end: a line of fewer than ten digits is refused.
abbrev pub line_share : ℕ
line_share = 70

-- 'Entries lie end to end': some bytes are entries, and nothing besides.
pub record LaidOut (s : List ℕ) : Type 0 where
  pub valid : AllValid (entries_of s)
  pub entries : layout (entries_of s) ≡ s

-- An answer whose written bytes are entries.
abbrev pub Printable : Result ℕ Refusal → List ℕ → Type 0
Printable (Ok count) out = (count ≤ output_size) × (length out ≡ output_size) × LaidOut (take count out)
Printable (Err why) out = Unit {0}

-- What a call left, put on the page: the record's bytes afterwards, and what is printed.
pub record AnswerPut (left : Left) (page : List ℕ) (at : ℕ) (rec' page' : List ℕ) (next : ℕ) : Type 0 where
  pub kept : rec' ≡ record_in left
  pub lines : OnPage (printed left) page at page' next
  pub short : next ≤ at + answer_size
