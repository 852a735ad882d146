-- Which of the three a lent record is. `LentIsSaid` in Lent says which bytes are which.
-- Assumes nothing.
use Rattle.std.specs.Prelude.{Bool, true, false}
use Rattle.sound.specs.declared.Lent.{Lent}
use Rattle.sound.specs.declared.Lent.TheVariants.{Blank, Unsound, Sound}

-- Not 'a record not blank', which a start and a restart refuse with 4.
abbrev pub is_blank : Lent → Bool
is_blank Blank = true
is_blank Unsound = false
is_blank Sound = false

-- Not 'a blank or unsound record'.
abbrev pub is_sound : Lent → Bool
is_sound Blank = false
is_sound Unsound = false
is_sound Sound = true
