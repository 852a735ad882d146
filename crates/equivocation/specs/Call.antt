-- The call that names them, on lent bytes: the answer, and every byte of the output afterwards (document 02, wish 5).
-- Assumes nothing.
use Rattle.std.specs.Prelude.{ℕ, zero, suc, ◌+◌, Bool, not, ◌||◌, List, [], ◌∷◌, map, ltb, eqb, length, take, drop}
use Rattle.wire.specs.Placed.{placed}
use Rattle.frame.specs.Format.{within}
use Rattle.frame.specs.Refusal.{Row, row, first}
use Rattle.settings.specs.declared.Settings.{Settings}
use Rattle.record.specs.Slots.{Record}
use Rattle.record.specs.Layout.{decode_record}
use Rattle.sound.specs.inside.Sound.{lent_is}
use Rattle.contents.specs.Left.{Left, wrote, gave}
use Rattle.contents.specs.Which.{is_sound}
use Rattle.equivocation.specs.Named.{any, named}

-- 'the desk collects 2 to 64 vault records': they lie end to end, and the length of each is told.
unfoldable pub handed_in : List ℕ → List ℕ → List (List ℕ)
handed_in [] s = []
handed_in (k ∷ lengths) s = take k s ∷ handed_in lengths (drop k s)

-- What the lengths add up to.
unfoldable pub sum : List ℕ → ℕ
sum [] = 0
sum (k ∷ lengths) = k + sum lengths

-- 'records differing in n or f'.
abbrev pub unlike : Settings → Settings → Bool
unlike x y = not (eqb x.n y.n) || not (eqb x.f y.f)

-- Two of a list of records differ so.
unfoldable pub mixed : List Record → Bool
mixed rs = any (λ x. any (λ y. unlike x.set y.set) rs) rs

-- '24 for a number of records outside 2 to 64, a blank or unsound record, or records differing in n or f'.
unfoldable pub unfit : List (List ℕ) → Bool
unfit bs = not (within 2 64 (length bs)) || (any (λ b. not (is_sound (lent_is b))) bs || mixed (map decode_record bs))

-- 24 is given too where the lengths do not add up to the bytes that lie there.
unfoldable pub misfit : List ℕ → List ℕ → Bool
misfit records lengths = not (eqb (sum lengths) (length records)) || unfit (handed_in lengths records)

-- '24 .. after 1'.
abbrev pub collection_rows : List ℕ → List ℕ → List ℕ → List Row
collection_rows records lengths out =
    row 1 (ltb (length out) 256) ∷ row 24 (misfit records lengths) ∷ []

-- 'Each gives its number, zero bytes written, record and output unchanged.' 'Accepted calls return the byte count written; bytes beyond it
-- keep their contents.'
abbrev pub left_with : ℕ → List ℕ → List ℕ → List ℕ → Left
left_with zero names records out = wrote (length names) records (placed out 0 names)
left_with (suc k) names records out = gave (suc k) records out

-- What the call leaves.
unfoldable pub equivocators_left : List ℕ → List ℕ → List ℕ → Left
equivocators_left records lengths out =
    left_with (first (collection_rows records lengths out)) (named (map decode_record (handed_in lengths records))) records out
