-- The line program, whole: for every cut of its input into pieces.
-- Assumes nothing.
use Rattle.std.specs.Prelude.{ℕ, ◌≡◌, List, [], ◌++◌, take}
use Rattle.lines.specs.Lines.{ended, begun, after, prints}
use Rattle.lines.specs.Steps.{Finished, Reads}
use Rattle.answers.specs.Lines.{kept_size, vault_lines, blank_record, program_prints}

-- However an input is split into pieces that are fed (`feed`), the pages are what its lines that have ended print, and record and line are
-- those after it; and with the last line answered (`finish`), the pages are what the program prints for it. Proved as `whole_input` in proofs/Whole.
pub record Whole (input pages rec line : List ℕ) : Type 0 where
  pub left : rec ≡ after vault_lines blank_record (ended [] input)
  pub kept : line ≡ take kept_size (begun [] input)
  pub says : pages ≡ prints vault_lines blank_record (ended [] input)
  pub all : (rec' page : List ℕ) → Finished vault_lines rec line rec' page → pages ++ page ≡ program_prints input

-- The same of every input and every cut of it.
abbrev pub WholeInput : Type 0
WholeInput = (input pages rec line : List ℕ) → Reads vault_lines kept_size blank_record input pages rec line → Whole input pages rec line
