-- How fields are read back: their widths, and the fields that stand at a place.
-- Assumes nothing.
use Rattle.std.specs.Prelude.{ℕ, ◌+◌, List, [], ◌∷◌}
use Rattle.wire.specs.Digits.{number_at}
use Rattle.wire.specs.Fields.{Field, field}

-- How many bytes each field takes.
abbrev pub widths : List Field → List ℕ
widths [] = []
widths (field w v ∷ fs) = w ∷ widths fs

-- How many bytes fields of these widths take together.
abbrev pub total_width : List ℕ → ℕ
total_width [] = 0
total_width (w ∷ ws) = w + total_width ws

-- The fields of the given widths that stand at a place.
abbrev pub fields_at : List ℕ → List ℕ → ℕ → List Field
fields_at [] s at = []
fields_at (w ∷ ws) s at = field w (number_at w s at) ∷ fields_at ws s (at + w)
