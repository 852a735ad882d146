-- Worked lines, by computation: the calls that lines make, what is printed, and each refusal of the program itself.
-- Assumes nothing.
use Prim.Native.Nat.{ℕ}
use Prim.Native.String.{String}
use mathlib.Core.Path.{◌≡◌, refl}
use mathlib.Core.List.{List, [], ◌∷◌}
use mathlib.Core.Option.{Option, none, some}
use lib.ListN.{replicate}
use Rattle.wire.specs.Digits.{number_at, digits}
use Rattle.frame.specs.declared.Body.TheVariants.{Plan}
use Rattle.frame.specs.Format.{within, length_of, encode, decode, body_as}
use Rattle.entry.specs.declared.Entry.{Entry}
use Rattle.entry.specs.declared.Entry.TheVariants.{ForAll, Timer}
use Rattle.entry.specs.Layout.{entry_bytes, layout}
use Rattle.entry.specs.Reading.{entry_at, size_at, entries_within}
use Rattle.record.specs.Layout.{decode_record}
use Rattle.sound.specs.inside.Sound.{lent_is}
use Rattle.protocol.specs.Calls.{answer}
use Rattle.contents.specs.Calls.{called, frame_left, timer_left}
use Rattle.contents.specs.Left.{wrote, gave}
use Rattle.runs.specs.Runs.{ByteCall, start, frame, timer}
use Rattle.lines.specs.Digits.{between, value_of, digit_of, line_of, all_digits, bad_line, spelled, bytes_of}
use Rattle.answers.specs.Lines.{start_of, timer_of, frame_of, call_of, zeroed, digit_limit, line_left, printed, blank_record}
use Rattle.answers.specs.Example.{text}

-- The call that a line makes, if any.
abbrev call_of_bytes : Option (List ℕ) → Option ByteCall
call_of_bytes none = none
call_of_bytes (some s) = call_of s

-- The same of a line's text.
abbrev says : String → Option ByteCall
says line = call_of_bytes (bytes_of digit_limit (text line))

-- The example's calls; and a timer, an empty line, a start and a timer of wrong length.
calls : (says "00040100020000000000000007" ≡ some (start (record { n = 4; f = 1; id = 0; class = 2 }) 7))
    × (says "0201000000000000000000000007" ≡ some (frame 1 (2 ∷ 1 ∷ 0 ∷ 0 ∷ 0 ∷ 0 ∷ 0 ∷ 0 ∷ 0 ∷ 0 ∷ 0 ∷ 0 ∷ 0 ∷ 7 ∷ [])))
    × (says "09000001ff" ≡ some (timer 511)) × (says "" ≡ some (frame 0 [])) × (says "000401000200000000000007" ≡ none) × (says "09000001" ≡ none)
unfolding between value_of all_digits bad_line spelled bytes_of start_of timer_of frame_of call_of number_at
calls = (refl, refl, refl, refl, refl, refl)

-- What vault 0 sends to all in view 0 for plan 7: kind 1 is its proposal, kind 2 its vote-1.
abbrev sends : ℕ → Entry
sends kind = ForAll (record { kind = kind; sender = 0; view = 0; body = Plan 7 })

-- What the example's first line prints, of the entries that its call writes; and what its last prints.
lines : (rec : List ℕ) → (printed (wrote 40 rec (layout (Timer 0 900 ∷ sends 1 ∷ sends 2 ∷ [])))
    ≡ text "fe0b0000000000000384\nff0100000000000000000000000007\nff0200000000000000000000000007\n")
    × (printed (wrote 0 rec zeroed) ≡ []) × (printed (gave 17 rec zeroed) ≡ text "fd11\n")
unfolding digit_of line_of zeroed entry_bytes encode digits decode body_as within length_of number_at entry_at size_at entries_within
lines rec = (refl, refl, refl)

-- 'not an even count of lower-case hex digits, or over 90 digits': whatever the record, before all else.
refusals : (rec : List ℕ) → (line_left rec (text "0") ≡ gave 20 rec zeroed) × (line_left rec (text "0A") ≡ gave 20 rec zeroed)
    × (line_left rec (text "0g") ≡ gave 20 rec zeroed) × (line_left rec (replicate 91 48) ≡ gave 20 rec zeroed)
    × (line_left rec (replicate 92 48) ≡ gave 20 rec zeroed) × (line_left rec (replicate 90 48) ≡ gave 10 rec zeroed)
unfolding between value_of all_digits bad_line spelled bytes_of start_of timer_of frame_of call_of number_at line_left
refusals rec = (refl, refl, refl, refl, refl, refl)

-- A frame or a timer on a blank record gives 2.
unstarted : (printed (line_left blank_record (text "")) ≡ text "fd02\n") × (printed (line_left blank_record (text "0900000000")) ≡ text "fd02\n")
unfolding between value_of all_digits bad_line spelled bytes_of start_of timer_of frame_of call_of number_at line_left
    zeroed digit_of line_of frame_left timer_left called lent_is decode_record answer
unstarted = (refl, refl)
