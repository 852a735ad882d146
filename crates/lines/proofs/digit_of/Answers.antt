-- `lines::digit_of` meets its contract. 'Output digits are lower-case.'
-- Assumes nothing.
use mathlib.Core.Path.{sym}
use borrow.Author.Rules.{rules}
use Rattle.lines.proofs.Digits.{digit_decimal, digit_letter}
use Rattle.lines.proofs.digit_of.Goals as goal

pub returns-then-x-lt10 : goal.returns-then-x-lt10
returns-then-x-lt10 c = sym (digit_decimal _ (search rules))

pub returns-else-x-lt10 : goal.returns-else-x-lt10
returns-else-x-lt10 c = sym (digit_letter _ (search rules))
