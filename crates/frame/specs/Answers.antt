-- What the code's answers mean in document 01's terms: refusals go by their numbers.
-- Assumes nothing.
use Rattle.std.specs.Prelude.{Result, Ok, Err, ℕ}
use Rattle.frame.specs.declared.Frame.{Frame}
use Rattle.frame.specs.declared.Refusal.{Refusal}
use Rattle.frame.specs.Numbers.{number_of}
use Rattle.frame.specs.Refusal.{Reading, Accepted, Refused}

-- The number of what a test answers, 0 where it gives none.
abbrev pub number_in : Result Unit Refusal → ℕ
number_in (Ok x) = 0
number_in (Err why) = number_of why

-- What a reader's answer finds.
abbrev pub reading : Result Frame Refusal → Reading
reading (Ok f) = Accepted f
reading (Err why) = Refused (number_of why)
