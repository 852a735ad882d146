-- How much of a page a line of a rehearsal takes, and how long a piece of input and a page are.
-- Assumes nothing.
use Rattle.std.specs.Prelude.{ℕ}
use Rattle.lines.specs.inside.Sizes.{Sizes, page_of}
use Rattle.obey.specs.Steps.{kept_size}

-- The most that an answer takes of the page: three bytes for each of the output's 256.
abbrev pub answer_size : ℕ
answer_size = 768

-- The most that it takes for each byte of its line and for the line's end: a line of fewer than four digits is refused.
abbrev pub line_share : ℕ
line_share = 154

-- The bytes that are read at once.
abbrev pub piece_size : ℕ
piece_size = 1024

-- The numbers of the rehearsal, for the laws of a piece that is fed (crate lines, proofs/Paged).
abbrev pub stage_sizes : Sizes
stage_sizes = record { room = kept_size; piece = piece_size; share = line_share; answer = answer_size }

-- So the lines of a piece have room, and one answer more.
abbrev pub page_size : ℕ
page_size = page_of stage_sizes
