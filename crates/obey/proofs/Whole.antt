-- The input whole: however it is split into pieces, the pages are what `rehearsal_prints` says (`WholeInput`). It is `any_split` of crate
-- lines: what is kept of a line is enough for the rehearsal (`kept_enough`).
-- Assumes nothing.
use Rattle.lines.proofs.Whole.{any_split}
use Rattle.stage.specs.Stage.{empty_stage}
use Rattle.stage.specs.Lines.{digit_limit, rehearsal}
use Rattle.obey.specs.Steps.{WholeInput}
use Rattle.obey.specs.inside.Kept.{kept_enough}

-- The promise of the rehearsal whole.
pub whole_input : WholeInput
whole_input input pages stage line reads =
    let (so, finish) = any_split rehearsal digit_limit kept_enough empty_stage input pages stage line reads in
    record { left = so.left; kept = so.kept; says = so.says; all = finish }
