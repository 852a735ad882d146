-- No delay is above 5000 milliseconds ('20, 50, 100, 200, 500, 1000, 2000, 5000'), so that 9 of them fit 32 bits: one look at
-- each class, and at no class the delay is 0.
-- Assumes nothing.
use Prim.Native.Nat.{ℕ, zero, suc, ◌≤◌}
use native.Mathlib.Omega.{arith}
use Rattle.settings.specs.Settings.{delay_of}

-- At most 5000, so `timer_millis` can multiply by 9 without overflow.
pub delay_below : (class : ℕ) → delay_of class ≤ 5000
unfolding delay_of
delay_below zero = omega arith
delay_below (suc zero) = omega arith
delay_below (suc (suc zero)) = omega arith
delay_below (suc (suc (suc zero))) = omega arith
delay_below (suc (suc (suc (suc zero)))) = omega arith
delay_below (suc (suc (suc (suc (suc zero))))) = omega arith
delay_below (suc (suc (suc (suc (suc (suc zero)))))) = omega arith
delay_below (suc (suc (suc (suc (suc (suc (suc zero))))))) = omega arith
delay_below (suc (suc (suc (suc (suc (suc (suc (suc class)))))))) = omega arith
