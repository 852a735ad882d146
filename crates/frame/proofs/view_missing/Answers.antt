-- `frame::view_missing` meets its contract. 'view 0 in kind 6, 7 or 8' (01, Refusal 13).
-- The match finds whether the kind is in that range.
-- Assumes nothing.
use native.Mathlib.Omega.{arith}
use Rattle.frame.proofs.Laws.{inside, under, over}
use Rattle.frame.specs.Refusal.{view_missing}
use Rattle.frame.proofs.view_missing.Goals as goal

pub returns-in-6-to-8 : goal.returns-in-6-to-8
unfolding view_missing
returns-in-6-to-8 c = simp (inside 6 8 c.args.kind (omega arith) (omega arith))

pub returns-in_default : goal.returns-in_default
unfolding view_missing
returns-in_default c = simp (under 6 8 c.args.kind (omega arith))

pub returns-in_default-2 : goal.returns-in_default-2
unfolding view_missing
returns-in_default-2 c = simp (over 6 8 c.args.kind (omega arith) (omega arith))
