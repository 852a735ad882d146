-- Document 01's example, of the definitions: 'prints timer, proposal, vote-1, vote-2, refusal 17'. The bytes of a record of 11,703 are
-- too many to compute with, so each line is taken by contents: a record that holds contents leaves one that holds the next contents
-- (`left_well` of crate runs), and the calls on contents compute.
-- Assumes nothing.
use Prim.Native.Nat.{ℕ, ◌%◌}
use mathlib.Core.Path.{◌≡◌, refl, sym, ap, subst, ◌∙◌}
use mathlib.Core.List.{List, [], ◌∷◌, ◌++◌}
use mathlib.Core.Option.{Option, none, some}
use native.Mathlib.Omega.{arith}
use Rattle.wire.specs.Digits.{number_at, digits}
use Rattle.wire.specs.Fields.{Bytes}
use Rattle.rules.specs.Sets.{weigh}
use Rattle.rules.specs.Quorums.{is_quorum, is_blocking}
use Rattle.rules.specs.inside.Bools.{any_below}
use Rattle.rules.specs.inside.Counts.{safe, choice}
use Rattle.frame.specs.declared.Body.TheVariants.{Plan}
use Rattle.frame.specs.declared.Frame.{Frame}
use Rattle.frame.specs.Format.{within, length_of, encode, decode, body_as}
use Rattle.frame.proofs.Theorems.{encoded_bytes}
use Rattle.rules.proofs.Reports.{none≢some}
use Rattle.frame.specs.Refusal.{read_frame, refusal, view_missing, misled}
use Rattle.entry.specs.Layout.{entry_bytes}
use Rattle.settings.specs.Settings.{delay_of}
use Rattle.record.specs.Layout.{decode_record}
use Rattle.sound.specs.inside.Sound.{lent_is}
use Rattle.protocol.specs.Record.{Record, highest}
use Rattle.settings.specs.declared.Settings.{Settings}
use Rattle.protocol.specs.Pass.{Out, does, writes, agreed, pass, step_a, step_b, step_c, step_d, step_vote, step_h}
use Rattle.protocol.specs.Calls as by
use Rattle.protocol.specs.Calls.{refused, accepted, answer, started, keep, heard}
use Rattle.contents.specs.Calls.{left_after}
use Rattle.contents.specs.Left.{Left}
use Rattle.runs.specs.Runs.{ByteCall, start, frame, InWidth, record_in}
use Rattle.runs.specs.Fixed.{leaves}
use Rattle.contents.specs.Spelling.{Spells}
use Rattle.contents.proofs.Spelling.{Fine}
use Rattle.runs.proofs.Carry.{said, leaves_room, said_frame, fed_said, LeftWell, left_well}
use Rattle.lines.specs.Digits.{between, value_of, digit_of, line_of, all_digits, bad_line, spelled, bytes_of}
use Rattle.lines.specs.Lines.{ended, begun, lines_of, prints}
use Rattle.answers.specs.Lines.{start_of, timer_of, frame_of, call_of, zeroed, line_left, entry_lines, printed, vault_lines, blank_record}
use Rattle.answers.specs.Example.{text, input, Document}
use Rattle.answers.proofs.Answers.{zeroed_size}

-- ---- a line by contents

-- A vault's bytes, and what they hold.
record At (rec : List ℕ) (b : Option Record) : Type 0 where
  held : Spells rec b
  fine : (r : Record) → b ≡ some r → Fine r

-- An accepted call prints its entries, and leaves bytes that hold what it leaves by contents.
record Goes (left : Left) (o : Out) : Type 0 where
  prints : printed left ≡ entry_lines o.wrote
  next : At (record_in left) (some o.left)

-- How an accepted call of a line is followed by contents, whatever the bytes of the record are.
goes : (rec : List ℕ) (b : Option Record) (a : ByteCall) → At rec b → InWidth a → (o : Out) → answer b (said rec a) ≡ accepted o → Goes (leaves rec a zeroed) o
goes rec b a at low o is =
    let well : LeftWell rec zeroed o = left_well rec zeroed b (said rec a) at.fine (fed_said rec b a at.held low) o is in
    subst (λ (l : Left). Goes l o) (sym (leaves_room rec zeroed b a at.held (omega (arith, zeroed_size)) ∙ ap (left_after rec zeroed) is))
    (record {
      prints = ap entry_lines well.entries;
      next = record { held = well.held; fine = λ r (e : some o.left ≡ some r). let same : o.left ≡ r = cc in subst Fine same well.fine };
    })

-- ---- the example

-- The example's vault: number 0 of 4, of which 1 may be bad, with link class 2.
abbrev settings : Settings
settings = record { n = 4; f = 1; id = 0; class = 2 }

-- A vote-1 in view 0 for plan 7, from a sender: its bytes, and the frame that they say.
abbrev voted : ℕ → List ℕ
voted from = 2 ∷ from ∷ 0 ∷ 0 ∷ 0 ∷ 0 ∷ 0 ∷ 0 ∷ 0 ∷ 0 ∷ 0 ∷ 0 ∷ 0 ∷ 7 ∷ []

-- The frame that these bytes say.
abbrev vote : ℕ → Frame
vote from = record { kind = 2; sender = from; view = 0; body = Plan 7 }

-- What the first three calls leave.
abbrev first : Out
first = started settings 7

-- After vote-1 of vault 1.
abbrev second : Out
second = heard first.left (vote 1)

-- After vote-1 of vault 2.
abbrev third : Out
third = heard second.left (vote 2)

-- The calls on contents compute.
first_accepted : answer none (by.start settings 7) ≡ accepted first
unfolding answer
first_accepted = refl

-- Vote-1 of vault 1 is accepted; with the own one it is no quorum yet.
second_accepted : answer (some first.left) (by.frame (read_frame (voted 1) 1 first.left.set.n first.left.set.id)) ≡ accepted second
unfolding delay_of answer started pass step_c step_d step_vote step_h does writes agreed highest safe
    choice any_below weigh is_quorum is_blocking read_frame refusal view_missing misled within length_of decode body_as number_at
second_accepted = refl

-- Vote-1 of vault 2 is accepted, and makes a quorum.
third_accepted : answer (some second.left) (by.frame (read_frame (voted 2) 2 second.left.set.n second.left.set.id)) ≡ accepted third
unfolding delay_of answer started keep heard pass step_a step_b step_c step_d step_vote step_h does writes agreed highest safe
    choice any_below weigh is_quorum is_blocking read_frame refusal view_missing misled within length_of decode body_as number_at
third_accepted = refl

-- Vote-1 of vault 1 again: it is kept already, so 17.
last_refused : answer (some third.left) (by.frame (read_frame (voted 1) 1 third.left.set.n third.left.set.id)) ≡ refused 17
unfolding delay_of answer started keep heard pass step_a step_b step_c step_d step_vote step_h does writes agreed highest safe
    choice any_below weigh is_quorum is_blocking read_frame refusal view_missing misled within length_of decode body_as number_at
last_refused = refl

-- The entries of the three calls and the refusal, spelled as lines, are the text of the example.
prints_all : entry_lines first.wrote ++ (entry_lines second.wrote ++ (entry_lines third.wrote ++ (line_of (253 ∷ 17 ∷ []) ++ [])))
    ≡ text "fe0b0000000000000384\nff0100000000000000000000000007\nff0200000000000000000000000007\nff0300000000000000000000000007\nfd11\n"
unfolding delay_of answer started keep heard pass step_a step_b step_c step_d step_vote step_h does writes agreed highest safe
    choice any_below weigh is_quorum is_blocking within length_of entry_bytes encode digits line_of digit_of
prints_all = refl

-- ---- the lines

-- The votes' bytes are bytes, which the laws of a frame's call ask for.
voted_bytes : (from : ℕ) → from ≡ from % 256 → Bytes (voted from)
unfolding encode digits
voted_bytes from low = subst (λ (k : ℕ). Bytes (2 ∷ k ∷ 0 ∷ 0 ∷ 0 ∷ 0 ∷ 0 ∷ 0 ∷ 0 ∷ 0 ∷ 0 ∷ 0 ∷ 0 ∷ 7 ∷ [])) (sym low) (encoded_bytes (vote from))

-- The program begins with a blank record, which holds nothing.
blank_at : At blank_record none
unfolding lent_is decode_record
blank_at = record { held = refl; fine = λ r e. absurd (none≢some e) }

-- The first line starts the vault.
starts : Goes (line_left blank_record (text "00040100020000000000000007")) first
unfolding between value_of all_digits bad_line spelled bytes_of start_of timer_of frame_of call_of number_at line_left
starts = goes blank_record none (start settings 7) blank_at (omega arith) first first_accepted

-- A vote-1 heard by a vault of 4 with number 0.
module _ (rec : List ℕ) (r : Record) (at : At rec (some r)) where
  -- The second line, where the call is accepted.
  hears1 : (o : Out) → answer (some r) (by.frame (read_frame (voted 1) 1 r.set.n r.set.id)) ≡ accepted o
      → Goes (line_left rec (text "0201000000000000000000000007")) o
  unfolding between value_of all_digits bad_line spelled bytes_of start_of timer_of frame_of call_of number_at line_left
  hears1 o is =
      goes rec (some r) (frame 1 (voted 1)) at (voted_bytes 1 refl) o (ap (λ (a : by.Call). answer (some r) a) (said_frame rec r 1 (voted 1) at.held) ∙ is)

  -- The third line, where the call is accepted.
  hears2 : (o : Out) → answer (some r) (by.frame (read_frame (voted 2) 2 r.set.n r.set.id)) ≡ accepted o
      → Goes (line_left rec (text "0202000000000000000000000007")) o
  unfolding between value_of all_digits bad_line spelled bytes_of start_of timer_of frame_of call_of number_at line_left
  hears2 o is =
      goes rec (some r) (frame 2 (voted 2)) at (voted_bytes 2 refl) o (ap (λ (a : by.Call). answer (some r) a) (said_frame rec r 2 (voted 2) at.held) ∙ is)

  -- The last line, where the call is refused.
  refuses1 : (k : ℕ) → answer (some r) (by.frame (read_frame (voted 1) 1 r.set.n r.set.id)) ≡ refused k
      → printed (line_left rec (text "0201000000000000000000000007")) ≡ line_of (253 ∷ k ∷ [])
  unfolding between value_of all_digits bad_line spelled bytes_of start_of timer_of frame_of call_of number_at line_left
  refuses1 k is =
      ap printed (leaves_room rec zeroed (some r) (frame 1 (voted 1)) at.held (omega (arith, zeroed_size))
      ∙ ap (left_after rec zeroed) (ap (λ (a : by.Call). answer (some r) a) (said_frame rec r 1 (voted 1) at.held) ∙ is))

-- The input's lines.
input_lines : lines_of (text input)
    ≡ text "00040100020000000000000007" ∷ text "0201000000000000000000000007" ∷ text "0202000000000000000000000007" ∷ text "0201000000000000000000000007" ∷ []
unfolding ended begun
input_lines = refl

-- Document 01's example, whole.
pub document : Document
unfolding prints vault_lines
document =
    let rec1 = record_in (line_left blank_record (text "00040100020000000000000007")) in
    let two : Goes (line_left rec1 (text "0201000000000000000000000007")) second = hears1 rec1 first.left starts.next second second_accepted in
    let rec2 = record_in (line_left rec1 (text "0201000000000000000000000007")) in
    let three : Goes (line_left rec2 (text "0202000000000000000000000007")) third = hears2 rec2 second.left two.next third third_accepted in
    let rec3 = record_in (line_left rec2 (text "0202000000000000000000000007")) in
    let four = refuses1 rec3 third.left three.next 17 last_refused in
    ap (prints vault_lines blank_record) input_lines ∙ ((λ i. starts.prints i ++ (two.prints i ++ (three.prints i ++ (four i ++ [])))) ∙ prints_all)
