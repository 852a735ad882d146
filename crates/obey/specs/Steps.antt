-- The rehearsal, whole: for every cut of its input into pieces.
-- Assumes nothing.
use Rattle.std.specs.Prelude.{ℕ, suc, ◌≡◌, List, [], ◌++◌, take}
use Rattle.lines.specs.Lines.{ended, begun, after, prints}
use Rattle.lines.specs.Steps.{Finished, Reads}
use Rattle.stage.specs.Stage.{empty_stage}
use Rattle.stage.specs.Lines.{digit_limit, rehearsal, rehearsal_prints}

-- What is kept of a line's text: one byte beyond the digits, so that 20 is given where the line gives it (`kept_enough`, specs/inside/Kept).
abbrev pub kept_size : ℕ
kept_size = suc digit_limit

-- However an input is split into pieces that are fed (`feed`), the pages are what its lines that have ended print, and stage and line are
-- those after it; and with the last line obeyed (`finish`), the pages are what the rehearsal prints for it. Proved as `whole_input` in proofs/Whole.
pub record Whole (input pages stage line : List ℕ) : Type 0 where
  pub left : stage ≡ after rehearsal empty_stage (ended [] input)
  pub kept : line ≡ take kept_size (begun [] input)
  pub says : pages ≡ prints rehearsal empty_stage (ended [] input)
  pub all : (stage' page : List ℕ) → Finished rehearsal stage line stage' page → pages ++ page ≡ rehearsal_prints input

-- The same of every input and every cut of it.
abbrev pub WholeInput : Type 0
WholeInput = (input pages stage line : List ℕ) → Reads rehearsal kept_size empty_stage input pages stage line → Whole input pages stage line
