-- Fields one after the other, each a number in a fixed count of bytes, and how they are spelt.
-- Assumes nothing.
use Rattle.std.specs.Prelude.{ℕ, ◌^◌, ◌<◌, List, [], ◌∷◌, ◌++◌, get_or}
use Rattle.wire.specs.Digits.{digits}

-- A number and the count of bytes that it is written in: 'plan, 8 bytes' is `field 8 plan`.
pub data Field : Type 0 where
  field : ℕ → ℕ → Field

-- The bytes of some fields, end to end.
abbrev pub spell : List Field → List ℕ
spell [] = []
spell (field w v ∷ fs) = digits w v ++ spell fs

-- Each number is one that its bytes can spell.
abbrev pub Sized : List Field → Type 0
Sized [] = Unit {0}
Sized (field w v ∷ fs) = (v < 256 ^ w) × Sized fs

-- Every element is a byte, as those of a slice of bytes are.
abbrev pub Bytes : List ℕ → Type 0
Bytes s = (i : ℕ) → get_or s i 0 < 256
