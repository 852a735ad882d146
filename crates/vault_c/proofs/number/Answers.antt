-- `vault_c::number` meets its contract: each answer has its number.
-- Assumes nothing.
use Prim.Native.Nat.{◌≤◌}
use mathlib.Core.Path.{sym, ap, subst, ◌∙◌}
use native.Mathlib.Omega.{arith}
use Rattle.vault_c.specs.inside.Numbers.{code, Short}
use Rattle.vault_c.proofs.number.Goals as goal

pub overflow_cast-result : goal.overflow_cast-result
overflow_cast-result c = let few : c.in-Ok.count ≤ 256 = subst Short c.in-Ok.is c.requires in omega arith

pub overflow_add-result : goal.overflow_add-result
overflow_add-result c = let few : c.in-Ok.count ≤ 256 = subst Short c.in-Ok.is c.requires in omega arith

pub returns-in-Ok : goal.returns-in-Ok
returns-in-Ok c = ap code (sym c.in-Ok.is)

pub returns-in-Err : goal.returns-in-Err
returns-in-Err c = c.refused.ensures ∙ ap code (sym c.in-Err.is)
