-- Laws of a line's answer. Whatever call a line makes, the bytes that it writes are entries end to end (`call_well`), so they can be printed;
-- what is printed of an answer is what is printed of what the call leaves, and has room.
-- Assumes nothing.
use Prim.Native.Nat.{ℕ, ◌+◌, ◌*◌, ◌-◌, ◌≤◌}
use mathlib.Core.Path.{◌≡◌, refl, sym, ap, subst, ◌∙◌}
use mathlib.Core.List.{List, [], ◌∷◌}
use mathlib.Core.Option.{some}
use native.Mathlib.Decide.{dec_le}
use native.Mathlib.Omega.{arith}
use lib.ListN.{length, take, length-replicate}
use lib.Seq.{length-take-le}
use Rattle.wire.specs.Fields.{Bytes}
use Rattle.entry.specs.Reading.{entries_of}
use Rattle.contents.specs.Left.{Left, gave}
use Rattle.runs.specs.Runs.{record_in}
use Rattle.runs.specs.Left.{Kept, LeavesWell}
use Rattle.frame.specs.declared.Refusal.{Refusal}
use Rattle.frame.specs.Numbers.{number_of}
use Rattle.vault.specs.Answers.{left_by}
use Rattle.std.specs.Prelude.{Option as Counted, Some, None, Result, Ok, Err}
use Rattle.lines.specs.Digits.{refusal_line, bytes_of}
use Rattle.lines.specs.inside.Steps.{spells, spelling_count, OnPage, Answered}
use Rattle.lines.proofs.Digits.{length_line}
use Rattle.lines.proofs.Spelled.{spelled_short}
use Rattle.answers.specs.Lines.{entry_lines, call_of, call_left, zeroed, spelled_left, digit_limit, line_left, printed, vault_lines}
use Rattle.answers.specs.inside.Steps.{output_size, answer_size, line_share, LaidOut, Printable, AnswerPut}
use Rattle.answers.proofs.Entries.{laid_short}
use Rattle.answers.proofs.Calls.{call_well, short_refused}

-- The output space has the 256 bytes that a call wants, so no line is refused for want of room.
pub zeroed_size : length zeroed ≡ output_size
unfolding zeroed
zeroed_size = length-replicate {A = ℕ} output_size 0

-- ---- a call's answer

-- An answer that leaves what the call leaves has entries to print.
pub call_printable : (rec s : List ℕ) → Bytes rec → Bytes s → (a : Result ℕ Refusal) (rec' out' : List ℕ)
    → left_by a rec' out' ≡ call_left rec zeroed (call_of s) → Printable a out'
call_printable rec s br bs (Ok n) rec' out' is =
    let well : Kept zeroed n rec' out' = subst (LeavesWell rec zeroed) (sym is) (call_well rec zeroed s br bs) in
    (well.few, well.size ∙ zeroed_size, record { valid = well.valid; entries = well.entries })
call_printable rec s br bs (Err why) rec' out' is = tt

-- What is printed of an answer has room.
printed_short : (a : Result ℕ Refusal) (out : List ℕ) → Printable a out → length (printed (left_by a [] out)) ≤ answer_size
printed_short (Ok n) out (few, size, laid) = omega (arith, laid_short (take n out) laid, length-take-le n out (omega arith))
printed_short (Err why) out p = omega (arith, length_line (253 ∷ number_of why ∷ []))

-- The record that an answer leaves is the one that the code has: a refusal's too.
record_by : (a : Result ℕ Refusal) (rec' out' : List ℕ) → rec' ≡ record_in (left_by a rec' out')
record_by (Ok n) rec' out' = refl
record_by (Err why) rec' out' = refl

-- What is printed of an answer does not depend on the record, so `put_answer` needs none.
printed_by : (a : Result ℕ Refusal) (rec' out' : List ℕ) → printed (left_by a [] out') ≡ printed (left_by a rec' out')
printed_by (Ok n) rec' out' = refl
printed_by (Err why) rec' out' = refl

-- The call's answer is put.
pub put_by : (rec s page : List ℕ) (at : ℕ) (a : Result ℕ Refusal) (rec' out' page' : List ℕ) (next : ℕ) → left_by a rec' out' ≡ call_left rec zeroed (call_of s)
    → Printable a out' → OnPage (printed (left_by a [] out')) page at page' next → AnswerPut (call_left rec zeroed (call_of s)) page at rec' page' next
put_by rec s page at a rec' out' page' next is p put = record {
  kept = record_by a rec' out' ∙ ap record_in is;
  lines = subst (λ (l : List ℕ). OnPage l page at page' next) (printed_by a rec' out' ∙ ap printed is) put;
  short = omega (arith, put.ends, printed_short a out' p);
}

-- ---- each kind of answer is put

module _ (a : Result ℕ Refusal) (out : List ℕ) (p : Printable a out) (n : ℕ) (is : a ≡ Ok n) where
  -- What is promised of the answer, once it is known to be entries.
  written : Printable (Ok n) out
  written = subst (λ (x : Result ℕ Refusal). Printable x out) is p

  -- The code's slice begins at 0: its length is the count.
  whole : n - 0 ≡ n
  whole = omega arith

  -- The slice of the written bytes is within the output.
  pub count_fits : n ≤ length out
  count_fits = let (few, size, laid) = written in omega arith

  -- The written entries may be put on the page: they have room, and are entries end to end.
  pub written_may : (page : List ℕ) (at : ℕ) → at + answer_size ≤ length page → (at + 3 * length (take (n - 0) out) ≤ length page) × LaidOut (take (n - 0) out)
  written_may page at room =
      let (few, size, laid) = written in
      rw whole (omega (arith, length-take-le n out (omega arith)), laid)

  -- The lines of the written entries are what is printed of the answer.
  pub written_shown : (page : List ℕ) (at : ℕ) (page' : List ℕ) (next : ℕ) → OnPage (entry_lines (entries_of (take (n - 0) out))) page at page' next
      → OnPage (printed (left_by a [] out)) page at page' next
  written_shown page at page' next put = rw is (rw whole at put)

-- The line of the refusal is what is printed of the answer.
pub refused_shown : (a : Result ℕ Refusal) (out : List ℕ) (why : Refusal) → a ≡ Err why → (k : ℕ) → k ≡ number_of why → (page : List ℕ) (at : ℕ) (page' : List ℕ) (next : ℕ)
    → OnPage (refusal_line k) page at page' next → OnPage (printed (left_by a [] out)) page at page' next
refused_shown a out why is k same page at page' next put = rw (is, ← same) put

-- ---- a line, by what its text spells

-- What is promised of a line.
abbrev Line : (rec text page : List ℕ) (at : ℕ) (rec' page' : List ℕ) (next : ℕ) → Type 0
Line rec text page at rec' page' next = Answered vault_lines rec text page at rec' page' next × (next ≤ at + line_share * (length text + 1))

-- A line of fewer than five bytes is refused, and so takes little room; any other has ten digits or more.
share_enough : (rec s page : List ℕ) (at digits : ℕ) (rec' page' : List ℕ) (next : ℕ) → 2 * length s ≤ digits
    → AnswerPut (call_left rec zeroed (call_of s)) page at rec' page' next → next ≤ at + line_share * (digits + 1)
share_enough rec s page at digits rec' page' next long put = go (dec_le 5 (length s))
  where
    go : Dec (5 ≤ length s) → next ≤ at + line_share * (digits + 1)
    go (yes some-digits) = omega (arith, put.short)
    go (no few) =
        let (k, is) = short_refused rec zeroed s (omega arith) in
        omega (arith, put.lines.ends, ap (λ (l : Left). length (printed l)) is, length_line (253 ∷ k ∷ []))

module _ (rec text page : List ℕ) (at : ℕ) (g : Counted ℕ) (bytes : List ℕ) (is : spells g bytes ≡ bytes_of digit_limit text) where
  -- '20 is tested before all else'.
  pub bad_answered : g ≡ None → (page' : List ℕ) (next number : ℕ) → OnPage (refusal_line number) page at page' next → number ≡ 20
      → Line rec text page at rec page' next
  unfolding line_left vault_lines
  bad_answered bad page' next number put is20 =
      let shown : OnPage (refusal_line 20) page at page' next = subst (λ (k : ℕ). OnPage (refusal_line k) page at page' next) is20 put in
      let left : gave 20 rec zeroed ≡ line_left rec text = ap (spelled_left rec) (ap (λ (x : Counted ℕ). spells x bytes) (sym bad) ∙ is) in (
        record { left = ap record_in left; lines = subst (λ (l : Left). OnPage (printed l) page at page' next) left shown },
        omega (arith, shown.ends, length_line (253 ∷ 20 ∷ [])),
      )

  -- A text that spells bytes: the line leaves and prints what the call of those bytes does.
  pub count_answered : (n : ℕ) → g ≡ Some n → (rec' page' : List ℕ) (next : ℕ)
      → AnswerPut (call_left rec zeroed (call_of (take (n - 0) bytes))) page at rec' page' next → Line rec text page at rec' page' next
  unfolding line_left vault_lines
  count_answered n good rec' page' next put =
      let all : n - 0 ≡ n = omega arith in
      let spelt : some (take (n - 0) bytes) ≡ bytes_of digit_limit text =
      ap (λ (k : ℕ). some (take k bytes)) all ∙ ap (λ (x : Counted ℕ). spells x bytes) (sym good) ∙ is in
      let left : call_left rec zeroed (call_of (take (n - 0) bytes)) ≡ line_left rec text = ap (spelled_left rec) spelt in (
        record { left = put.kept ∙ ap record_in left; lines = subst (λ (l : Left). OnPage (printed l) page at page' next) left put.lines },
        share_enough rec (take (n - 0) bytes) page at (length text) rec' page' next (spelled_short digit_limit text (take (n - 0) bytes) (sym spelt)) put,
      )

-- The bytes of a line are among those that `bytes_in` was lent.
pub count_within : (g : Counted ℕ) (n size : ℕ) → g ≡ Some n → spelling_count g ≤ size → n ≤ size
count_within g n size is few = subst (λ (x : Counted ℕ). spelling_count x ≤ size) is few
