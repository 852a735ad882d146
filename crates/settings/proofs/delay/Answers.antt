-- `settings::delay` meets its contract: the array is the table of delays, and the table has nothing beyond class 7.
-- Assumes nothing.
use Rattle.settings.specs.Settings.{delays, delay_of}
use lib.ListN.{get_or-eq_default}
use mathlib.Core.Path.{refl, sym}
use native.Mathlib.Omega.{arith}
use Rattle.settings.proofs.delay.Goals as goal

pub returns-then-at-lt8 : goal.returns-then-at-lt8
unfolding delay_of
returns-then-at-lt8 c = refl

pub returns : goal.returns
unfolding delay_of
returns c = sym (get_or-eq_default delays 0 {n = c.args.class} (omega arith))
