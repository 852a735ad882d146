-- The input whole: however it is split into pieces, the pages are what `program_prints` says (`WholeInput`).
-- Assumes nothing.
use Rattle.lines.proofs.Whole.{any_split}
use Rattle.answers.specs.Lines.{digit_limit, vault_lines, blank_record}
use Rattle.answers.specs.Steps.{WholeInput}
use Rattle.answers.specs.inside.Kept.{kept_enough}

-- The promise of the program whole: `any_split` of crate lines, for the program over lines of crate answers.
pub whole_input : WholeInput
whole_input input pages rec line reads =
    let (so, finish) = any_split vault_lines digit_limit kept_enough blank_record input pages rec line reads in
    record { left = so.left; kept = so.kept; says = so.says; all = finish }
