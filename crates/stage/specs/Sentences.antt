-- What document 02, wish 2, says of a stage, as sentences on the definitions of Stage.
-- Assumes nothing.
use Rattle.std.specs.Prelude.{ℕ, ◌≤◌, ◌<◌, ◌≡◌, true, false, List}
use Rattle.stage.specs.Stage.{place_count, is_free, first_free}

-- 'a new frame gets the smallest free one': where `first_free` is below 256 no frame waits there, and a frame waits at each smaller number;
-- else all '256 wait'.
pub record SmallestFree : Type 0 where
  pub free : (s : List ℕ) → first_free s < place_count → is_free s (first_free s) ≡ true
  pub smaller : (s : List ℕ) (k : ℕ) → k < first_free s → is_free s k ≡ false
  pub most : (s : List ℕ) → first_free s ≤ place_count
