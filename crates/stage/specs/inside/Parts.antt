-- What the parts of the stage promise each other, and their callers.
-- Assumes nothing.
use Rattle.std.specs.Prelude.{Option, Some, None, Result, ℕ, ◌-◌, ◌+◌, ◌≤◌, ◌<◌, ◌≡◌, false, cond, List, ltb, length}
use Rattle.runs.specs.Runs.{ByteCall}
use Rattle.runs.specs.Fixed.{leaves}
use Rattle.frame.specs.declared.Refusal.{Refusal}
use Rattle.vault.specs.Answers.{left_by}
use Rattle.stage.specs.declared.Way.{Way}
use Rattle.stage.specs.Stage.{place_count, record_of, with_record, Waiting}
use Rattle.stage.specs.Lines.{kind_of, wrong_length, vault_in}

-- 'then 0 to 45 bytes': the longest frame.
abbrev pub frame_most : ℕ
frame_most = 45

-- The number that the search for a free one answers; 256 where it finds none.
abbrev pub free_number : Option ℕ → ℕ
free_number (Some k) = k
free_number None = place_count

-- How long the frame of a place is, by the place's first byte; no longer than the place has room for.
unfoldable pub held_length : ℕ → ℕ
held_length mark = cond (ltb (frame_most + 1) mark) frame_most (mark - 1)

-- A frame's bytes, with the way that they go.
abbrev pub on_way : Way → List ℕ → Waiting
on_way way bytes = record { writer = way.writer; to = way.to; bytes = bytes }

-- A line that passes 9 and 10.
pub record Formed (b : List ℕ) : Type 0 where
  pub there : 0 < length b
  pub kind : kind_of b ≤ 5
  pub size : wrong_length (kind_of b) (length b) ≡ false

-- A line that passes 9 and 10 and names a vault of the stage.
pub record Named (b : List ℕ) : Type 0 where
  pub formed : Formed b
  pub vault : vault_in b ≤ 3

-- A call at vault v was made: its answer, with the record that it left, is what the vault's own call leaves.
pub record Called (s : List ℕ) (v : ℕ) (a : ByteCall) (out : List ℕ) (r : Result ℕ Refusal) (s' out' : List ℕ) : Type 0 where
  pub rec : List ℕ
  pub left : left_by r rec out' ≡ leaves (record_of s v) a out
  pub stage : s' ≡ with_record s v rec
