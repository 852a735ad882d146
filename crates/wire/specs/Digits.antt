-- Big-endian numbers: the number that some bytes spell, and the bytes that spell a number.
-- Assumes nothing.
use Rattle.std.specs.Prelude.{ℕ, zero, suc, ◌+◌, ◌*◌, ◌/◌, ◌%◌, List, [], ◌∷◌, ◌++◌, get_or}

-- 'Numbers are big-endian': the number that the width bytes at a place spell.
unfoldable pub number_at : ℕ → List ℕ → ℕ → ℕ
number_at zero s at = 0
number_at (suc w) s at = number_at w s at * 256 + get_or s (at + w) 0

-- 'Numbers are big-endian': the bytes that spell a number in a given width, the first the most significant.
unfoldable pub digits : ℕ → ℕ → List ℕ
digits zero n = []
digits (suc w) n = digits w (n / 256) ++ (n % 256 ∷ [])
