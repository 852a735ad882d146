-- What the parts of a line's obeying promise each other.
-- Assumes nothing.
use Rattle.std.specs.Prelude.{ℕ, ◌≡◌, cond, List, [], ◌∷◌, eqb, take}
use Rattle.entry.specs.Layout.{entry_bytes}
use Rattle.entry.specs.Valid.{ValidEntry}
use Rattle.entry.specs.Reading.{entry_at, entries_of}
use Rattle.contents.specs.Left.{Left, wrote, gave}
use Rattle.lines.specs.Digits.{refusal_line}
use Rattle.lines.specs.inside.Steps.{OnPage}
use Rattle.stage.specs.Stage.{place_count}
use Rattle.stage.specs.Lines.{Done, entries_done}

-- What stands before a frame on its line: fc, its number and the recipient byte; or fb and that byte where there is no number for it.
unfoldable pub head_of : ℕ → ℕ → List ℕ
head_of k to = cond (eqb k place_count) (251 ∷ to ∷ []) (252 ∷ k ∷ to ∷ [])

-- Something was done: the stage afterwards, what is printed put on the page, and no more than an answer takes.
pub record DoneAt (d : Done) (page : List ℕ) (at : ℕ) (s' page' : List ℕ) (next : ℕ) : Type 0 where
  pub stage : s' ≡ d.stage
  pub lines : OnPage d.shown page at page' next

-- What an answer prints, and does to a stage that has the record already.
abbrev pub put_by : List ℕ → ℕ → Left → Done
put_by s v (wrote count rec out) = entries_done v s (entries_of (take count out))
put_by s v (gave number rec out) = record { stage = s; shown = refusal_line number }

-- Bytes that are one entry.
pub record IsEntry (e : List ℕ) : Type 0 where
  pub valid : ValidEntry (entry_at e)
  pub bytes : entry_bytes (entry_at e) ≡ e
