-- The hexadecimal digits of document 01's line program: 'lower-case hex digits' in, 'Output digits are lower-case' out.
-- Assumes nothing.
use Rattle.std.specs.Prelude.{ℕ, ◌+◌, ◌*◌, ◌-◌, ◌/◌, ◌%◌, Bool, true, not, ◌&&◌, ◌||◌, cond, List, [], ◌∷◌, length, ltb, leb, eqb}
use Rattle.std.proofs.Math.Option.{Option, none, some}

-- A byte from one to another.
unfoldable pub between : ℕ → ℕ → ℕ → Bool
between low high b = leb low b && leb b high

-- The value of a byte that is a lower-case hex digit, 0 to 9 or a to f; 16 of any other byte.
unfoldable pub value_of : ℕ → ℕ
value_of b = cond (between 48 57 b) (b - 48) (cond (between 97 102 b) (b - 87) 16)

-- The lower-case digit of a number below 16.
unfoldable pub digit_of : ℕ → ℕ
digit_of x = cond (ltb x 10) (48 + x) (87 + x)

-- Bytes as digits, two for each, and the line's end.
unfoldable pub line_of : List ℕ → List ℕ
line_of [] = 10 ∷ []
line_of (b ∷ s) = digit_of (b / 16) ∷ digit_of (b % 16) ∷ line_of s

-- 'fd and the refusal number as one byte'.
abbrev pub refusal_line : ℕ → List ℕ
refusal_line number = line_of (253 ∷ number ∷ [])

-- 'lower-case hex digits': every byte of a text is one.
unfoldable pub all_digits : List ℕ → Bool
all_digits [] = true
all_digits (b ∷ s) = ltb (value_of b) 16 && all_digits s

-- 20: 'not an even count of lower-case hex digits, or over 90 digits', with the limit as the program has it.
unfoldable pub bad_line : ℕ → List ℕ → Bool
bad_line limit text = not (eqb (length text % 2) 0 && all_digits text) || ltb limit (length text)

-- The byte that each two digits spell.
unfoldable pub spelled : List ℕ → List ℕ
spelled [] = []
spelled (high ∷ []) = []
spelled (high ∷ low ∷ s) = (value_of high * 16 + value_of low) ∷ spelled s

-- The bytes that a line's text spells, where it is none that gives 20.
unfoldable pub bytes_of : ℕ → List ℕ → Option (List ℕ)
bytes_of limit text = cond (bad_line limit text) none (some (spelled text))
