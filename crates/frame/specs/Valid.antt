-- Frames that can be written: what `FramesReadBack` is of.
-- Assumes nothing.
use Rattle.std.specs.Prelude.{ℕ, ◌≡◌, Bool, true, eqb}
use Rattle.wire.specs.Fields.{Sized}
use Rattle.frame.specs.declared.Body.{Body}
use Rattle.frame.specs.declared.Body.TheVariants.{Plan, Empty, Told}
use Rattle.frame.specs.declared.Frame.{Frame}
use Rattle.frame.specs.Format.{within, fields_of}

-- The table's column 'Rest': a plan in kinds 1 to 5, none in kind 6, three reports in kinds 7 and 8.
abbrev pub fits : ℕ → Body → Bool
fits kind (Plan p) = within 1 5 kind
fits kind Empty = eqb kind 6
fits kind (Told r) = within 7 8 kind

-- A frame that can be written: its body is one of its kind, and each field fits its bytes.
pub record Valid (f : Frame) : Type 0 where
  pub shape : fits f.kind f.body ≡ true
  pub sized : Sized (fields_of f)
