-- The settings of a vault: when they are refused, and the delay of the link class.
-- Assumes nothing.
use Rattle.std.specs.Prelude.{ℕ, ◌*◌, ◌||◌, List, [], ◌∷◌, get_or, leb, ltb, eqb}
use Rattle.frame.specs.Refusal.{Row, row}
use Rattle.settings.specs.declared.Settings.{Settings}

-- 'n below 4 or above 64'; 'f is 0 or 3f ≥ n'; 'id ≥ n'; 'class above 7'
abbrev pub setting_rows : Settings → List Row
setting_rows s =
    row 5 (ltb s.n 4 || ltb 64 s.n)
    ∷ row 6 (eqb s.f 0 || leb s.n (3 * s.f))
    ∷ row 7 (leb s.n s.id)
    ∷ row 8 (ltb 7 s.class)
    ∷ []

-- 'The link class, 0 to 7, gives the delay Δ in milliseconds: 20, 50, 100, 200, 500, 1000, 2000, 5000.'
abbrev pub delays : List ℕ
delays = 20 ∷ 50 ∷ 100 ∷ 200 ∷ 500 ∷ 1000 ∷ 2000 ∷ 5000 ∷ []

-- The delay of a class; 0 where there is no such class.
unfoldable pub delay_of : ℕ → ℕ
delay_of class = get_or delays class 0
