-- The lines of a rehearsal (document 02, wish 2): what a line's bytes mean on a stage, what that does to the stage, and what is printed.
-- Assumes nothing.
use Rattle.std.specs.Prelude.{ℕ, Bool, not, ◌&&◌, ◌||◌, cond, List, [], ◌∷◌, ◌++◌, ltb, eqb, length, get_or, take, drop}
use Rattle.std.proofs.Math.Option.{Option, none, some}
use Rattle.wire.specs.Digits.{number_at}
use Rattle.frame.specs.Format.{within, encode}
use Rattle.frame.specs.Refusal.{Row, row, first}
use Rattle.entry.specs.declared.Entry.{Entry}
use Rattle.entry.specs.declared.Entry.TheVariants.{ForAll, ForOne, Timer, Decision}
use Rattle.entry.specs.Layout.{entry_bytes}
use Rattle.entry.specs.Reading.{entries_of}
use Rattle.record.specs.Layout.{decode_record}
use Rattle.contents.specs.Left.{Left, wrote, gave}
use Rattle.runs.specs.Runs.{ByteCall, start, frame, timer}
use Rattle.runs.specs.Fixed.{leaves}
use Rattle.lines.specs.Digits.{bytes_of, line_of, refusal_line}
use Rattle.lines.specs.Lines.{Program, answers}
use Rattle.answers.specs.Lines.{zeroed}
use Rattle.stage.specs.Stage.{place_count, empty_stage, record_of, with_record, liar_in, is_liar, with_liar}
use Rattle.stage.specs.Stage.{Waiting, is_free, place_of, place_size, part, waiting_in, with_waiting, with_free, first_free}

-- What is done: the stage afterwards, and what is printed.
pub record Done : Type 0 where
  pub stage : List ℕ
  pub shown : List ℕ

-- ---- frames on their way

-- 'led by fc and its number, or by fb where 256 wait and it is lost': a new frame, where k is the smallest free number.
unfoldable pub sent_to : List ℕ → Waiting → ℕ → Done
sent_to s w k =
    cond (eqb k place_count)
    (record { stage = s; shown = line_of (251 ∷ w.to ∷ w.bytes) })
    (record { stage = with_waiting s k w; shown = line_of (252 ∷ k ∷ w.to ∷ w.bytes) })

-- 'a new frame gets the smallest free one'
abbrev pub sent : List ℕ → Waiting → Done
sent s w = sent_to s w (first_free s)

-- An entry that vault v wrote: 'It prints as `vaultlines` does .., but a frame's entry is led ..'. 'A broadcast waits as one frame.'
unfoldable pub entry_done : ℕ → List ℕ → Entry → Done
entry_done v s (ForAll f) = sent s (record { writer = v; to = 255; bytes = encode f })
entry_done v s (ForOne to f) = sent s (record { writer = v; to = to; bytes = encode f })
entry_done v s (Timer view millis) = record { stage = s; shown = line_of (entry_bytes (Timer view millis)) }
entry_done v s (Decision view plan) = record { stage = s; shown = line_of (entry_bytes (Decision view plan)) }

-- Something done, and then more.
abbrev pub and_then : Done → (List ℕ → Done) → Done
and_then d more = record { stage = (more d.stage).stage; shown = d.shown ++ (more d.stage).shown }

-- The entries that vault v wrote, in their order: each frame takes the smallest number that is then free.
unfoldable pub entries_done : ℕ → List ℕ → List Entry → Done
entries_done v s [] = record { stage = s; shown = [] }
entries_done v s (e ∷ es) = and_then (entry_done v s e) (λ t. entries_done v t es)

-- ---- what a line means

-- What a line means: a refusal, a call at a vault, a dropped frame, a liar, or a frame that the liar made up.
pub data Meant : Type 0 where
  refuse : ℕ → Meant
  call : ℕ → ByteCall → Meant
  free : ℕ → Meant
  declare : ℕ → Meant
  make_up : ℕ → List ℕ → Meant

-- The line's kind.
abbrev pub kind_of : List ℕ → ℕ
kind_of b = get_or b 0 0

-- The vault that a line names: behind the frame's number in 01, else behind the kind.
unfoldable pub vault_in : List ℕ → ℕ
vault_in b = cond (eqb (kind_of b) 1) (get_or b 2 0) (get_or b 1 0)

-- '00 start (vault, class, plan), 01 deliver (frame number, vault), .. 04 .. (vault declared, then 0 to 45 bytes)': a length that is wrong.
unfoldable pub wrong_length : ℕ → ℕ → Bool
wrong_length kind size = not (cond (eqb kind 4) (within 2 47 size) (eqb size (cond (eqb kind 0) 11 (cond (eqb kind 1) 3 2))))

-- 'a vault above 3'; 02 names none.
abbrev pub no_vault : List ℕ → Bool
no_vault b = not (eqb (kind_of b) 2) && ltb 3 (vault_in b)

-- 'naming a frame not waiting'
abbrev pub no_frame : List ℕ → List ℕ → Bool
no_frame s b = within 1 2 (kind_of b) && is_free s (get_or b 1 0)

-- 'declaring a second liar'; declaring the liar again is none.
abbrev pub second_liar : List ℕ → List ℕ → Bool
second_liar s b = eqb (kind_of b) 3 && not (eqb (liar_in s) 0 || is_liar s (vault_in b))

-- 'making up a frame for a vault not declared'
abbrev pub not_liar : List ℕ → List ℕ → Bool
not_liar s b = eqb (kind_of b) 4 && not (is_liar s (vault_in b))

-- 23, whole.
unfoldable pub misnamed : List ℕ → List ℕ → Bool
misnamed s b = no_vault b || (no_frame s b || (second_liar s b || not_liar s b))

-- 'then an empty line or unknown kind gives 9 and a wrong length 10 .. (23 .., after these.)'
abbrev pub line_rows : List ℕ → List ℕ → List Row
line_rows s b =
    row 9 (eqb (length b) 0 || ltb 5 (kind_of b))
    ∷ row 10 (wrong_length (kind_of b) (length b))
    ∷ row 23 (misnamed s b)
    ∷ []

-- '4 vaults, numbers 0 to 3 with n = 4 and f = 1': '00 start (vault, class, plan)'
abbrev pub start_of : List ℕ → ByteCall
start_of b = start (record { n = 4; f = 1; id = get_or b 1 0; class = get_or b 2 0 }) (number_at 8 b 3)

-- '01 deliver (frame number, vault)': the frame that waits there, over the link from its writer.
abbrev pub delivered : Waiting → ByteCall
delivered w = frame w.writer w.bytes

-- The frame that waits at a number, by the bytes of its place.
abbrev pub waiting_now : List ℕ → ℕ → Waiting
waiting_now s k = waiting_in (part (place_of k) place_size s)

-- '05 let a vault's timer for its current view expire'
abbrev pub timer_of : List ℕ → ByteCall
timer_of rec = timer (decode_record rec).view

-- The kinds 00, 01 and 05 are calls at the vault named.
unfoldable pub call_of : List ℕ → List ℕ → ByteCall
call_of s b = cond (eqb (kind_of b) 0) (start_of b) (cond (eqb (kind_of b) 1) (delivered (waiting_now s (get_or b 1 0))) (timer_of (record_of s (vault_in b))))

-- A line that is not refused, by its kind.
unfoldable pub taken : List ℕ → List ℕ → Meant
taken s b =
    cond (eqb (kind_of b) 2) (free (get_or b 1 0))
    (cond (eqb (kind_of b) 3) (declare (vault_in b))
    (cond (eqb (kind_of b) 4) (make_up (vault_in b) (drop 2 b)) (call (vault_in b) (call_of s b))))

-- What a line's bytes mean.
unfoldable pub meant : List ℕ → List ℕ → Meant
meant s b = cond (eqb (first (line_rows s b)) 0) (taken s b) (refuse (first (line_rows s b)))

-- 'Here 20 allows 94 digits'.
abbrev pub digit_limit : ℕ
digit_limit = 94

-- 20 before all else.
abbrev pub spelled_meant : List ℕ → Option (List ℕ) → Meant
spelled_meant s none = refuse 20
spelled_meant s (some b) = meant s b

-- What a line's text means on a stage.
unfoldable pub line_meant : List ℕ → List ℕ → Meant
line_meant s text = spelled_meant s (bytes_of digit_limit text)

-- ---- what it does

-- 'Each step is the vault's own step', with 'a zeroed 256-byte output array': what a call at vault v leaves. A refused one leaves the record as it was.
abbrev pub answered : List ℕ → ℕ → Left → Done
answered s v (wrote count rec out) = entries_done v (with_record s v rec) (entries_of (take count out))
answered s v (gave number rec out) = record { stage = with_record s v rec; shown = refusal_line number }

-- What a line does; 02 and 03 print nothing, 04 'the new frame's entry'.
unfoldable pub done : List ℕ → Meant → Done
done s (refuse number) = record { stage = s; shown = refusal_line number }
done s (call v a) = answered s v (leaves (record_of s v) a zeroed)
done s (free k) = record { stage = with_free s k; shown = [] }
done s (declare v) = record { stage = with_liar s v; shown = [] }
done s (make_up v bytes) = sent s (record { writer = v; to = 255; bytes = bytes })

-- The program over lines: its state is the stage.
unfoldable pub rehearsal : Program (List ℕ)
rehearsal = record { next = λ s text. (done s (line_meant s text)).stage; says = λ s text. (done s (line_meant s text)).shown }

-- What it prints for a whole input: each line is obeyed on the stage that the last one left.
abbrev pub rehearsal_prints : List ℕ → List ℕ
rehearsal_prints input = answers rehearsal empty_stage input
