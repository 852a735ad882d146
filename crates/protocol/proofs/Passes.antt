-- How a pass is put together, for code that makes it in parts: no step, one more step, and two parts one after the other.
-- Assumes nothing.
use mathlib.Core.Path.{◌≡◌, refl, sym, ◌∙◌, ap}
use mathlib.Core.List.{List, [], ◌∷◌, ◌++◌, append_assoc}
use Rattle.entry.specs.declared.Entry.{Entry}
use Rattle.protocol.specs.Record.{Record}
use Rattle.protocol.specs.Pass.{Out, Step, onward, pass}

-- A pass of no steps changes nothing.
pub pass_none : (r : Record) → pass [] r ≡ record { left = r; wrote = [] }
unfolding pass
pass_none r = refl

-- A pass is its first step, and then the rest on what that left.
pub pass_more : (s : Step) (rest : List Step) (r : Record) → pass (s ∷ rest) r ≡ onward (s r).wrote (pass rest (s r).left)
unfolding pass
pass_more s rest r = refl

-- What is written in two parts is written end to end.
joined : (es fs : List Entry) (o : Out) → onward es (onward fs o) ≡ onward (es ++ fs) o
joined es fs o z = record { left = o.left; wrote = sym (append_assoc es fs o.wrote) z }

-- A pass in two parts: the second goes on from the record that the first left, and writes after it.
pub pass_join : (a b : List Step) (r : Record) → pass (a ++ b) r ≡ onward (pass a r).wrote (pass b (pass a r).left)
unfolding pass
pass_join [] b r = refl
pass_join (s ∷ a) b r =
    ap (onward (s r).wrote) (pass_join a b (s r).left) ∙ joined (s r).wrote (pass a (s r).left).wrote (pass b (pass a (s r).left).left)
