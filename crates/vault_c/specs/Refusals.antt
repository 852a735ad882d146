-- The numbers of the refusals that start, frame and timer give.
-- Assumes nothing.
use Rattle.std.specs.Prelude.{ℕ, Bool, ◌||◌}
use Rattle.frame.specs.Format.{within}

-- The table's column 'No.' at the three calls: 1 to 19 of document 01, and 21 and 22 of document 02, wish 1. 20 is a line's.
abbrev pub is_refusal : ℕ → Bool
is_refusal number = within 1 19 number || within 21 22 number
