-- The worked cases, computed.
-- Assumes nothing.
use mathlib.Core.Path.{refl}
use Rattle.wire.specs.Digits.{number_at, digits}
use Rattle.record.specs.Layout.{spelled_slots}
use Rattle.own.specs.Part.{remnant_of, own_slot, put_over, over}
use Rattle.remnant.specs.Examples.{slots, WorkedCases}

pub worked_cases : WorkedCases
unfolding number_at digits spelled_slots remnant_of own_slot put_over over slots
worked_cases = record {
  head = refl;
  own = refl;
  size = refl;
  last = refl;
  back = refl;
  before = refl;
  gone = refl;
  view = refl;
}
