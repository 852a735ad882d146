-- What the code of a restart goes by: the row that a remnant holds, and when its settings pass.
-- Assumes nothing.
use Rattle.std.specs.Prelude.{ℕ, ◌≤◌, ◌<◌, ◌≡◌, not, List, [], ◌∷◌, ltb}
use Rattle.frame.specs.declared.Report.{Report}
use Rattle.frame.specs.Refusal.{row, first}
use Rattle.settings.specs.declared.Settings.{Settings}
use Rattle.settings.specs.Settings.{setting_rows}
use Rattle.record.specs.Slots.{rows, frame_slot, empty_slot, slot_of}
use Rattle.sound.specs.inside.Sound.{lent_is}
use Rattle.own.specs.Size.{remnant_size}
use Rattle.own.specs.Part.{restored}
use Rattle.own.specs.inside.Own.{settings_in, heard_in}
use Rattle.own.specs.inside.Own as own
use Rattle.contents.specs.Which.{is_blank, is_sound}

-- The refusal of a write, by the record and the space.
unfoldable pub write_refusal : List ℕ → ℕ → ℕ
write_refusal rec room =
    first (row 1 (ltb room remnant_size) ∷ row 2 (is_blank (lent_is rec)) ∷ row 3 (not (is_sound (lent_is rec))) ∷ [])

-- The vault that a remnant is of.
abbrev pub id_in : List ℕ → ℕ
id_in s = (settings_in s).id

-- The slots of the record that it makes.
abbrev pub row_in : List ℕ → ℕ → Report
row_in s = slot_of (restored s)

-- A remnant's settings, which pass 5 to 8.
pub record Fitting (s : List ℕ) (set : Settings) : Type 0 where
  pub is : set ≡ settings_in s
  pub good : first (setting_rows set) ≡ 0

-- A remnant of a vault that has a row, and a kind of frames.
pub record Kind (s : List ℕ) (kind : ℕ) : Type 0 where
  pub row : id_in s < rows
  pub low : 1 ≤ kind
  pub high : kind ≤ 8

-- What stands in the slot of its own frame of that kind.
pub record Head (s : List ℕ) (kind : ℕ) (head : Report) : Type 0 where
  pub is : head ≡ row_in s (frame_slot kind (id_in s))

-- A record that its own part can be put back to, in which nothing is kept.
pub record Fresh (s : List ℕ) (set : Settings) (rec : List ℕ) : Type 0 where
  pub fits : own.Fitting rec set.id s
  pub none : heard_in rec ≡ (λ i. empty_slot)
