-- What is kept of a line is enough: 'over 90 digits' gives 20, so a line of which 91 bytes are kept gives 20 where the line does, and else is
-- kept whole. What a line leaves goes by the bytes that its text spells (`kept_spells`, crate lines).
-- Assumes nothing.
use mathlib.Core.Path.{◌≡◌, ap}
use mathlib.Core.List.{List}
use Prim.Native.Nat.{ℕ}
use lib.ListN.{take}
use Rattle.runs.specs.Runs.{record_in}
use Rattle.lines.specs.inside.Steps.{Enough}
use Rattle.lines.proofs.Spelled.{kept_spells}
use Rattle.answers.specs.Lines.{digit_limit, kept_size, spelled_left, line_left, printed, vault_lines}

-- The first 91 bytes of a line leave what the line leaves.
kept_left : (rec line : List ℕ) → line_left rec (take kept_size line) ≡ line_left rec line
unfolding line_left
kept_left rec line = ap (spelled_left rec) (kept_spells digit_limit line)

-- So a line may be cut at 91 bytes while it is read, however long it is.
pub kept_enough : Enough vault_lines kept_size
unfolding vault_lines
kept_enough = record { next = λ rec line. ap record_in (kept_left rec line); says = λ rec line. ap printed (kept_left rec line) }
