-- What the search finds on the way: a plan that passes a test, and the smallest safe plan so far.
-- Assumes nothing.
use Rattle.std.specs.Prelude.{ℕ, ◌≡◌, Bool, true, false, not, ltb, eqb}
use Rattle.std.proofs.Math.Option.{Option, none, some}

-- Plan x is not the one that is left out, if any.
abbrev pub apart : ℕ → Option ℕ → Bool
apart x none = true
apart x (some m) = not (eqb x m)

-- The plan found passes the test; where none is found, none does.
abbrev pub Found : (ℕ → Bool) → Option ℕ → Type 0
Found test none = (x : ℕ) → test x ≡ false
Found test (some x) = test x ≡ true

-- Plan x is smaller than the one found so far, if any.
abbrev pub better : ℕ → Option ℕ → Bool
better x none = true
better x (some y) = ltb x y
