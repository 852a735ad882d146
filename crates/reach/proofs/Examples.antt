-- The worked cases of document 02, wish 7, by computing: the bytes are spelt, read and tested row by row.
-- Assumes nothing.
use mathlib.Core.Path.{refl}
use Rattle.wire.specs.Digits.{number_at, digits}
use Rattle.frame.specs.Refusal.{bad_form, bad_previous}
use Rattle.reach.specs.Call.{said_reach, claim_reach}
use Rattle.reach.specs.Examples.{WorkedCases}

pub worked_cases : WorkedCases
unfolding number_at digits bad_form bad_previous said_reach claim_reach
worked_cases = record {
  bytes = refl;
  highest = refl;
  previous = refl;
  other = refl;
  neither = refl;
  lock = refl;
  last = refl;
  odds = refl;
  form = refl;
  empty = refl;
  two = refl;
}
