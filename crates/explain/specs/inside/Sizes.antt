-- Sizes that inner functions promise to keep to.
-- Assumes nothing.
use Rattle.std.specs.Prelude.{ℕ}

-- The bytes of the longest line: fc, a frame's number, the recipient, and a frame of 45.
abbrev pub line_most : ℕ
line_most = 48

-- So much is kept of a line's text.
abbrev pub text_kept : ℕ
text_kept = 256
