-- The rows of a rehearsal's refusals that ask for no stage: what a line shows by itself. And the refusal of bytes that are no frame.
-- Assumes nothing.
use Rattle.std.specs.Prelude.{Result, Ok, Err, ℕ, ◌||◌, List, [], ◌∷◌, ltb, eqb, length}
use Rattle.frame.specs.declared.Frame.{Frame}
use Rattle.frame.specs.declared.Refusal.{Refusal}
use Rattle.frame.specs.Numbers.{number_of}
use Rattle.frame.specs.Refusal.{Row, row}
use Rattle.stage.specs.Lines.{kind_of, wrong_length}

-- 'an empty line or unknown kind gives 9 and a wrong length 10'
abbrev pub line_form : List ℕ → List Row
line_form b = row 9 (eqb (length b) 0 || ltb 5 (kind_of b)) ∷ row 10 (wrong_length (kind_of b) (length b)) ∷ []

-- The number of the refusal where bytes are no frame; 0 where they are one.
abbrev pub form_number : Result Frame Refusal → ℕ
form_number (Ok f) = 0
form_number (Err why) = number_of why
