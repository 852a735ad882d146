-- The numbers of a program over lines that is fed in pieces, and the page that is long enough for all that a piece's lines print.
-- Assumes nothing.
use Rattle.std.specs.Prelude.{ℕ, ◌+◌, ◌*◌}

-- What is kept of a line, the bytes that are read at once, the most that an answer takes of the page for each byte of its line and for the
-- line's end, and the most that it takes at all.
pub record Sizes : Type 0 where
  pub room : ℕ
  pub piece : ℕ
  pub share : ℕ
  pub answer : ℕ

-- So the lines of a piece have room, the one that had begun before it too, and one answer more.
abbrev pub page_of : Sizes → ℕ
page_of z = z.answer + z.share * (z.room + z.piece)
