-- What the public calls' answers mean: each leaves what document 01's call leaves ('Refusals, place by place').
-- Assumes nothing.
use Rattle.std.specs.Prelude.{ℕ, Result, Ok, Err, List}
use Rattle.contents.specs.Left.{Left, wrote, gave}
use Rattle.frame.specs.declared.Refusal.{Refusal}
use Rattle.frame.specs.Numbers.{number_of}

-- 'Accepted calls return the byte count written', and 'Each gives its number': with the record's and the output's bytes.
abbrev pub left_by : Result ℕ Refusal → List ℕ → List ℕ → Left
left_by (Ok n) rec out = wrote n rec out
left_by (Err why) rec out = gave (number_of why) rec out
