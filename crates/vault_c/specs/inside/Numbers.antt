-- The number that stands for an answer.
-- Assumes nothing.
use Rattle.std.specs.Prelude.{ℕ, ◌+◌, ◌≤◌, Result, Ok, Err}
use Rattle.frame.specs.declared.Refusal.{Refusal}
use Rattle.frame.specs.Numbers.{number_of}

-- A refusal's number as itself; 256 and the count of bytes written for an accepted call.
abbrev pub code : Result ℕ Refusal → ℕ
code (Ok count) = 256 + count
code (Err why) = number_of why

-- An answer whose count fits the output that every call asks for.
abbrev pub Short : Result ℕ Refusal → Type 0
Short (Ok count) = count ≤ 256
Short (Err why) = Unit {0}
