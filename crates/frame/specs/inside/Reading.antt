-- What the reader's parts promise each other.
-- Assumes nothing.
use Rattle.std.specs.Prelude.{ℕ, ◌≡◌, true, List, length, get_or}
use Rattle.frame.specs.Format.{within, length_of}
use Rattle.frame.specs.declared.Report.{Report}

-- Bytes of a known kind, as many as the table's column 'Length' has for it.
pub record Formed (s : List ℕ) : Type 0 where
  pub kind : within 1 8 (get_or s 0 0) ≡ true
  pub size : length s ≡ length_of (get_or s 0 0)

-- 'A mark (1 present, 0 absent)': the report of a vote for a plan at a view.
abbrev pub present_at : ℕ → ℕ → Report
present_at view plan = record { mark = 1; view = view; plan = plan }
