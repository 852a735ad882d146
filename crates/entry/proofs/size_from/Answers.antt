-- `entries::size_from` meets its contract: the rest of the bytes is lent, where there is one.
-- Assumes nothing.
use mathlib.Core.Path.{sym, ◌∙◌}
use native.Mathlib.Omega.{arith}
use Rattle.entry.proofs.Laws.{in_none, in_rest}
use Rattle.entry.proofs.size_from.Goals as goal

pub returns-then-s-at : goal.returns-then-s-at
returns-then-s-at c = let a = c.args in sym (in_none a.s.now a.at (omega arith))

pub returns : goal.returns
returns c = let a = c.args in c.size_in.ensures ∙ in_rest a.s.now a.at
