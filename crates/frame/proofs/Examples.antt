-- The worked lines for wish 1 of document 02, by computing: the bytes are spelt, read, and tested row by row.
-- Assumes nothing.
use mathlib.Core.Path.{refl}
use Rattle.wire.specs.Digits.{number_at, digits}
use Rattle.frame.specs.Format.{within, length_of, encode, body_as, decode}
use Rattle.frame.specs.Refusal.{bad_form, too_high, bad_previous, view_missing, misled, refusal}
use Rattle.frame.specs.Examples.{FaultExamples}

-- Each line gives its number.
pub fault_examples : FaultExamples
unfolding within length_of encode body_as decode bad_form too_high bad_previous view_missing misled refusal number_at digits
fault_examples = record { form = refl; view = refl; previous = refl; suggest = refl; stray = refl; zero = refl }
