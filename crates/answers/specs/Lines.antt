-- Document 01's line program ('The line program'): the call that a line's bytes make, what that leaves, what is printed, and what is printed
-- for a whole input.
-- Assumes nothing.
use Rattle.std.specs.Prelude.{ℕ, suc, Bool, not, ◌&&◌, cond, List, [], ◌∷◌, ◌++◌, length, get_or, take, replicate, eqb}
use Rattle.std.proofs.Math.Option.{Option, none, some}
use Rattle.wire.specs.Digits.{number_at}
use Rattle.entry.specs.declared.Entry.{Entry}
use Rattle.entry.specs.Layout.{entry_bytes}
use Rattle.entry.specs.Reading.{entries_of}
use Rattle.settings.specs.declared.Settings.{Settings}
use Rattle.record.specs.Size.{record_size}
use Rattle.contents.specs.Left.{Left, wrote, gave}
use Rattle.runs.specs.Runs.{ByteCall, start, frame, timer, record_in}
use Rattle.runs.specs.Fixed.{leaves}
use Rattle.lines.specs.Digits.{bytes_of, line_of, refusal_line}
use Rattle.lines.specs.Lines.{Program, answers}

-- A line of a given kind, which an empty line has not.
abbrev pub is_kind : ℕ → List ℕ → Bool
is_kind kind s = not (eqb (length s) 0) && eqb (get_or s 0 0) kind

-- 'n, f, id, class, one byte each'.
abbrev pub settings_in : List ℕ → Settings
settings_in s = record { n = get_or s 1 0; f = get_or s 2 0; id = get_or s 3 0; class = get_or s 4 0 }

-- 'Kind 00 starts (n, f, id, class, one byte each, then plan; 13 bytes)'; with another length it is no call.
unfoldable pub start_of : List ℕ → Option ByteCall
start_of s = cond (eqb (length s) 13) (some (start (settings_in s) (number_at 8 s 5))) none

-- 'kind 09 is a timer (view; 5 bytes)'; with another length it is no call.
unfoldable pub timer_of : List ℕ → Option ByteCall
timer_of s = cond (eqb (length s) 5) (some (timer (number_at 4 s 1))) none

-- 'other lines are frames whose byte 1 is also the link's sender'. Where there is no byte 1, no sender is looked at (`sender_unread`,
-- proofs/Calls).
unfoldable pub frame_of : List ℕ → Option ByteCall
frame_of s = some (frame (get_or s 1 0) s)

-- The call that a line's bytes make; 'an empty line is an empty frame'.
unfoldable pub call_of : List ℕ → Option ByteCall
call_of s = cond (is_kind 0 s) (start_of s) (cond (is_kind 9 s) (timer_of s) (frame_of s))

-- 'A wrong length for 00 or 09 gives 10, before the call'. Else what the call leaves: `leaves` is start_left, frame_left or timer_left.
abbrev pub call_left : List ℕ → List ℕ → Option ByteCall → Left
call_left rec out none = gave 10 rec out
call_left rec out (some a) = leaves rec a out

-- The output space of a line's call: 'a zeroed 256-byte output array'.
unfoldable pub zeroed : List ℕ
zeroed = replicate 256 0

-- '20 is tested before all else'.
abbrev pub spelled_left : List ℕ → Option (List ℕ) → Left
spelled_left rec none = gave 20 rec zeroed
spelled_left rec (some s) = call_left rec zeroed (call_of s)

-- 'over 90 digits'.
abbrev pub digit_limit : ℕ
digit_limit = 90

-- What is kept of a line's text: one byte beyond the digits, so that 20 is given where the line gives it (`kept_enough`, specs/inside/Kept).
abbrev pub kept_size : ℕ
kept_size = suc digit_limit

-- What a line's text leaves, at a record.
unfoldable pub line_left : List ℕ → List ℕ → Left
line_left rec text = spelled_left rec (bytes_of digit_limit text)

-- 'one output entry a line'; 'a call without entries prints nothing'.
abbrev pub entry_lines : List Entry → List ℕ
entry_lines [] = []
entry_lines (e ∷ es) = line_of (entry_bytes e) ++ entry_lines es

-- 'It prints one output entry a line, or fd and the refusal number as one byte'.
abbrev pub printed : Left → List ℕ
printed (wrote count rec out) = entry_lines (entries_of (take count out))
printed (gave number rec out) = refusal_line number

-- The program over lines: its state is the record's bytes.
unfoldable pub vault_lines : Program (List ℕ)
vault_lines = record { next = λ rec text. record_in (line_left rec text); says = λ rec text. printed (line_left rec text) }

-- '`vaultlines` begins with a blank record': a record of zeros is blank.
abbrev pub blank_record : List ℕ
blank_record = replicate record_size 0

-- What it prints for a whole input: `lines_of` (crate lines) are the input's lines, and each is answered at the record that the last one left.
abbrev pub program_prints : List ℕ → List ℕ
program_prints input = answers vault_lines blank_record input
