-- What a call leaves.
-- Assumes nothing.
use Rattle.std.specs.Prelude.{ℕ, List}

-- What a call leaves: its answer, the record's bytes and the output's bytes.
pub data Left : Type 0 where
  wrote : ℕ → List ℕ → List ℕ → Left
  gave : ℕ → List ℕ → List ℕ → Left
