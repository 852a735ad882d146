-- The worked cases of document 02, wish 5, by computing.
-- Assumes nothing.
use mathlib.Core.Path.{refl}
use Rattle.frame.specs.Format.{within}
use Rattle.record.specs.Kept.{body_in, frame_held, kept_in}
use Rattle.equivocation.specs.Named.{any, two_plans, spoke_twice, rising}
use Rattle.equivocation.specs.Examples.{holding, WorkedCases}

-- Each by computing.
pub worked_cases : WorkedCases
unfolding any two_plans spoke_twice rising kept_in frame_held body_in within holding
worked_cases = record { ab = refl; ac = refl; bac = refl; aa = refl; eg = refl }
