-- How long a record is.
-- Assumes nothing.
use Rattle.std.specs.Prelude.{ℕ}

-- How many bytes a record has: 'A lent record of the wrong length .. is unsound and not blank.'
abbrev pub record_size : ℕ
record_size = 11703
