-- What soundness asks of a record that a remnant makes. Proved in proofs/Alone.
-- Assumes nothing.
use Rattle.std.specs.Prelude.{ℕ, ◌+◌, ◌<◌, ◌≡◌, Bool, ◌&&◌, List, eqb}
use Rattle.frame.specs.Refusal.{first}
use Rattle.settings.specs.Settings.{setting_rows}
use Rattle.record.specs.Slots.{Record, rows, kinds, slot_of}
use Rattle.sound.specs.inside.Sound.{all, place_sound, votes_sound, sound}
use Rattle.own.specs.Part.{restored}

-- 'It is sound when its settings pass 5 to 8, every kept frame passes .., and each previous vote stands to its highest' (01, 'What a vault keeps'), of the own
-- row: of the kept frames only the own ones are asked, one of each kind.
unfoldable pub own_row_sound : Record → Bool
own_row_sound r =
    eqb (first (setting_rows r.set)) 0
    && (all (λ k. place_sound (slot_of r) r.set r.view (k + 1) r.set.id) kinds && votes_sound (slot_of r) r.set.id)

-- 'A restart makes a record with that row and no others' (02, wish 6): so it is sound just where its own row is.
abbrev pub OwnRowAlone : Type 0
OwnRowAlone = (s : List ℕ) → (restored s).set.id < rows → sound (restored s) ≡ own_row_sound (restored s)
