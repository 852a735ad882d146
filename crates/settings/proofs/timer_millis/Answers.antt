-- `settings::timer_millis` meets its contract: nine delays fit, since none is above 5000.
-- Assumes nothing.
use Rattle.settings.proofs.Delays.{delay_below}
use native.Mathlib.Omega.{arith}
use Rattle.settings.proofs.timer_millis.Goals as goal

pub overflow_mul-result : goal.overflow_mul-result
overflow_mul-result c = omega (arith, delay_below c.args.class, c.delay.ensures)
