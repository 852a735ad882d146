-- How long a piece of input and a page are.
-- Assumes nothing.
use Rattle.std.specs.Prelude.{ℕ}
use Rattle.lines.specs.inside.Sizes.{Sizes, page_of}
use Rattle.answers.specs.Lines.{kept_size}
use Rattle.answers.specs.inside.Steps.{answer_size, line_share}

-- The bytes that are read at once.
abbrev pub piece_size : ℕ
piece_size = 4096

-- The numbers of the line program, for the laws of a piece that is fed (crate lines, proofs/Paged).
abbrev pub vault_sizes : Sizes
vault_sizes = record { room = kept_size; piece = piece_size; share = line_share; answer = answer_size }

-- So the lines of a piece have room, and one answer more.
abbrev pub page_size : ℕ
page_size = page_of vault_sizes
