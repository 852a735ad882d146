-- What is kept of a line of a rehearsal is enough: 'Here 20 allows 94 digits', so a line of which 95 bytes are kept gives 20 where the line
-- does, and else is kept whole. The line's meaning goes by the bytes that its text spells (`kept_spells`, crate lines), and all that it does by
-- its meaning.
-- Assumes nothing.
use mathlib.Core.Path.{◌≡◌, ap}
use mathlib.Core.List.{List}
use Prim.Native.Nat.{ℕ}
use lib.ListN.{take}
use Rattle.lines.specs.inside.Steps.{Enough}
use Rattle.lines.proofs.Spelled.{kept_spells}
use Rattle.stage.specs.Lines.{Meant, spelled_meant, digit_limit, line_meant, done, rehearsal}
use Rattle.obey.specs.Steps.{kept_size}

-- The first 95 bytes of a line mean what the line means.
kept_meant : (stage line : List ℕ) → line_meant stage (take kept_size line) ≡ line_meant stage line
unfolding line_meant
kept_meant stage line = ap (spelled_meant stage) (kept_spells digit_limit line)

-- So a line may be cut at 95 bytes while it is read, however long it is.
pub kept_enough : Enough rehearsal kept_size
unfolding rehearsal
kept_enough = record {
  next = λ stage line. ap (λ (m : Meant). (done stage m).stage) (kept_meant stage line);
  says = λ stage line. ap (λ (m : Meant). (done stage m).shown) (kept_meant stage line);
}
