-- How long a remnant is.
-- Assumes nothing.
use Rattle.std.specs.Prelude.{ℕ}

-- How many bytes a remnant has: 'a remnant of fixed length' (document 02, wish 6).
abbrev pub remnant_size : ℕ
remnant_size = 237
