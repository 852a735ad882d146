-- The two calls on a vault's remnant (document 02, wish 6, 'Come back after a power cut'): the answer, and every byte of record and output afterwards. What a
-- remnant is stands in crate own, since steps change the same part of a record.
-- Assumes nothing.
use Rattle.std.specs.Prelude.{ℕ, zero, suc, ◌*◌, not, List, [], ◌∷◌, ltb, eqb, length}
use Rattle.wire.specs.Placed.{placed}
use Rattle.frame.specs.Refusal.{Row, row, first}
use Rattle.entry.specs.declared.Entry.{Entry}
use Rattle.entry.specs.declared.Entry.TheVariants.{Timer}
use Rattle.entry.specs.Layout.{layout}
use Rattle.settings.specs.Settings.{delay_of}
use Rattle.record.specs.Slots.{Record}
use Rattle.record.specs.Layout.{encode_record, decode_record}
use Rattle.own.specs.Size.{remnant_size}
use Rattle.own.specs.Part.{remnant_of, restored}
use Rattle.sound.specs.inside.Sound.{lent_is}
use Rattle.contents.specs.Left.{Left, wrote, gave}
use Rattle.contents.specs.Which.{is_blank, is_sound}

-- 'Each gives its number, zero bytes written, record and output unchanged.'
abbrev pub unless_given : ℕ → List ℕ → List ℕ → Left → Left
unless_given zero rec out left = left
unless_given (suc k) rec out left = gave (suc k) rec out

-- 'Writing meets 1, for space below the remnant's length, then 2 and 3.'
abbrev pub remnant_rows : List ℕ → List ℕ → List Row
remnant_rows rec out =
    row 1 (ltb (length out) remnant_size) ∷ row 2 (is_blank (lent_is rec)) ∷ row 3 (not (is_sound (lent_is rec))) ∷ []

-- 'Write a remnant': at the start of the output.
unfoldable pub remnant_left : List ℕ → List ℕ → Left
remnant_left rec out =
    unless_given (first (remnant_rows rec out)) rec out (wrote remnant_size rec (placed out 0 (remnant_of (decode_record rec))))

-- 'A restart meets 1 and 4, then 25 wrong length and 26 unsound content.' A record whose n is 0 is blank, and not sound.
abbrev pub restart_rows : List ℕ → List ℕ → List ℕ → List Row
restart_rows rec remnant out =
    row 1 (ltb (length out) 256) ∷ row 4 (not (is_blank (lent_is rec))) ∷ row 25 (not (eqb (length remnant) remnant_size))
    ∷ row 26 (not (is_sound (lent_is (encode_record (restored remnant))))) ∷ []

-- 'and a timer entry': 'A timer is 9 × Δ', for the current view.
abbrev pub timer_back : Record → Entry
timer_back r = Timer r.view (9 * delay_of r.set.class)

-- 'A restart makes a record with that row and no others, and a timer entry; it sends no frame.'
abbrev pub made_back : Record → List ℕ → Left
made_back r out = wrote (length (layout (timer_back r ∷ []))) (encode_record r) (placed out 0 (layout (timer_back r ∷ [])))

-- What a restart leaves: nothing is changed where it 'meets 1 and 4, then 25 wrong length and 26 unsound content'.
unfoldable pub restart_left : List ℕ → List ℕ → List ℕ → Left
restart_left rec remnant out = unless_given (first (restart_rows rec remnant out)) rec out (made_back (restored remnant) out)
