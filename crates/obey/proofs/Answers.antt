-- Laws of a line's answer on a stage. Whatever call a line makes, the bytes that it writes are entries end to end (`call_leaves_well` of crate
-- runs), so they can be printed and their frames sent; what is done has room. A line of fewer than two bytes is refused, so a line's
-- answer takes no more than its share of the page (`line_share`).
-- Assumes nothing.
use Prim.Native.Nat.{ℕ, ◌+◌, ◌*◌, ◌-◌, ◌≤◌, ◌<◌}
use mathlib.Core.Path.{◌≡◌, refl, sym, ap, subst, ◌∙◌}
use mathlib.Core.Bool.{false}
use mathlib.Core.List.{List, [], ◌∷◌}
use mathlib.Core.Option.{Option, some}
use native.Mathlib.Decide.{dec_le}
use native.Mathlib.Omega.{arith}
use borrow.Author.Tests.{eq-eqb, ne_eqb}
use lib.Dec.{eqb}
use lib.ListN.{length, get_or, take, drop, length-drop}
use lib.Seq.{take_all, length-take-le}
use Rattle.wire.specs.Fields.{Bytes}
use Rattle.wire.proofs.Output.{placed_none}
use Rattle.frame.specs.Refusal.{first}
use Rattle.entry.specs.Reading.{entries_of}
use Rattle.record.specs.Size.{record_size}
use Rattle.runs.specs.Fixed.{leaves}
use Rattle.runs.specs.Left.{Kept, LeavesWell}
use Rattle.runs.proofs.Left.{call_leaves_well}
use Rattle.frame.specs.declared.Refusal.{Refusal}
use Rattle.frame.specs.Numbers.{number_of}
use Rattle.vault.specs.Answers.{left_by}
use Rattle.std.specs.Prelude.{Option as Counted, Some, None, Result, Ok, Err}
use Rattle.lines.specs.Digits.{refusal_line, bytes_of}
use Rattle.lines.specs.inside.Steps.{spells, OnPage, Answered}
use Rattle.lines.proofs.Digits.{length_line}
use Rattle.lines.proofs.Spelled.{spelled_short}
use Rattle.answers.specs.Lines.{zeroed}
use Rattle.answers.specs.inside.Steps.{Printable}
use Rattle.answers.proofs.Answers.{zeroed_size}
use Rattle.stage.specs.declared.Way.{Way}
use Rattle.stage.specs.Stage.{Waiting, record_place, record_of, with_record, with_free, with_liar}
use Rattle.stage.specs.Lines.{Done, sent, entries_done, Meant, refuse, call, free, declare, make_up, kind_of, vault_in, line_rows}
use Rattle.stage.specs.Lines.{call_of, taken, meant, digit_limit, spelled_meant, line_meant, answered, done, rehearsal}
use Rattle.stage.specs.inside.Parts.{on_way, Formed, Called}
use Rattle.obey.specs.inside.Parts.{DoneAt, put_by}
use Rattle.obey.specs.inside.Sizes.{answer_size, line_share}
use Rattle.stage.proofs.Refusals.{formed_two, formed_make_up, accepted_formed}
use Rattle.obey.proofs.Sent.{sent_short, entries_short}
use Rattle.stage.proofs.Part.{bytes_part}
use Rattle.stage.proofs.Called.{vault_second, call_in_width}

-- ---- each kind of answer is put

-- The written entries are what is done for the answer.
pub written_done : (a : Result ℕ Refusal) (s : List ℕ) (v : ℕ) (out : List ℕ) (n : ℕ) → a ≡ Ok n → (page : List ℕ) (at : ℕ) (s' page' : List ℕ) (next : ℕ)
    → DoneAt (entries_done v s (entries_of (take (n - 0) out))) page at s' page' next → DoneAt (put_by s v (left_by a [] out)) page at s' page' next
written_done a s v out n is page at s' page' next put =
    let whole : n - 0 ≡ n = omega arith in
    subst (λ (x : Result ℕ Refusal). DoneAt (put_by s v (left_by x [] out)) page at s' page' next) (sym is)
    (subst (λ (k : ℕ). DoneAt (entries_done v s (entries_of (take k out))) page at s' page' next) whole put)

-- The line of the refusal is all that is done for the answer.
pub refused_done : (a : Result ℕ Refusal) (s : List ℕ) (v : ℕ) (out : List ℕ) (why : Refusal) → a ≡ Err why → (k : ℕ) → k ≡ number_of why → (page : List ℕ) (at : ℕ) (page' : List ℕ) (next : ℕ)
    → OnPage (refusal_line k) page at page' next → DoneAt (put_by s v (left_by a [] out)) page at s page' next
refused_done a s v out why is k same page at page' next put =
    subst (λ (x : Result ℕ Refusal). DoneAt (put_by s v (left_by x [] out)) page at s page' next) (sym is)
    (record { stage = refl; lines = subst (λ (j : ℕ). OnPage (refusal_line j) page at page' next) same put })

-- ---- a call's answer

module _ (s b : List ℕ) (r : Result ℕ Refusal) (s' out' : List ℕ) (made : Called s (vault_in b) (call_of s b) zeroed r s' out') where
  -- An answer that leaves what the line's call leaves has entries to print.
  pub call_printable : Bytes s → Bytes b → Printable r out'
  call_printable bs bb = go r made.left
    where
      rec : List ℕ
      rec = record_of s (vault_in b)

      go : (a : Result ℕ Refusal) → left_by a made.rec out' ≡ leaves rec (call_of s b) zeroed → Printable a out'
      go (Ok n) is =
          let left : LeavesWell rec zeroed (leaves rec (call_of s b) zeroed) =
          call_leaves_well rec zeroed (call_of s b) (bytes_part (record_place (vault_in b)) record_size s bs) (call_in_width s b bs bb) in
          let well : Kept zeroed n made.rec out' = subst (LeavesWell rec zeroed) (sym is) left in
          (well.few, well.size ∙ zeroed_size, record { valid = well.valid; entries = well.entries })
      go (Err why) is = tt

  -- What is done for the answer, at the stage with its record, is what the line does.
  put_is : put_by s' (vault_in b) (left_by r [] out') ≡ done s (call (vault_in b) (call_of s b))
  unfolding done
  put_is =
      ap (λ (t : List ℕ). put_by t (vault_in b) (left_by r [] out')) made.stage
      ∙ go r
      ∙ ap (answered s (vault_in b)) made.left
    where
      go : (a : Result ℕ Refusal) → put_by (with_record s (vault_in b) made.rec) (vault_in b) (left_by a [] out') ≡ answered s (vault_in b) (left_by a made.rec out')
      go (Ok n) = refl
      go (Err why) = refl

-- What an answer prints has room.
put_short : (s : List ℕ) (v : ℕ) (a : Result ℕ Refusal) (out : List ℕ) → Printable a out → length (put_by s v (left_by a [] out)).shown ≤ answer_size
put_short s v (Ok n) out (few, size, laid) =
    omega (arith, entries_short v s (entries_of (take n out)), ap length laid.entries, length-take-le n out (omega arith))
put_short s v (Err why) out p = omega (arith, length_line (253 ∷ number_of why ∷ []))

-- What is promised of a line that is not refused.
abbrev pub Acted : (d : Done) (page : List ℕ) (at : ℕ) (s' page' : List ℕ) (next : ℕ) → Type 0
Acted d page at s' page' next = DoneAt d page at s' page' next × (next ≤ at + answer_size)

-- The call's answer is put: what the line does is done.
pub call_acted : (s b page : List ℕ) (at : ℕ) (r : Result ℕ Refusal) (s' out' : List ℕ) (v : ℕ) (s'' page' : List ℕ) (next : ℕ)
    → Called s (vault_in b) (call_of s b) zeroed r s' out' → Printable r out' → v ≡ vault_in b
    → DoneAt (put_by s' v (left_by r [] out')) page at s'' page' next → Acted (done s (call (vault_in b) (call_of s b))) page at s'' page' next
call_acted s b page at r s' out' v s'' page' next made may named put = (
  subst (λ (d : Done). DoneAt d page at s'' page' next) (ap (λ (k : ℕ). put_by s' k (left_by r [] out')) named ∙ put_is s b r s' out' made) put,
  omega (arith, put.lines.ends, put_short s' v r out' may),
)

-- ---- a line that is not refused, by its kind

-- It has two bytes or more: its kind, and the vault or the frame's number.
pub accepted_two : (s b : List ℕ) → first (line_rows s b) ≡ 0 → 2 ≤ length b
accepted_two s b passes = formed_two (accepted_formed s b passes)

module _ (s b page : List ℕ) (at : ℕ) where
  -- Nothing is printed.
  pub nothing_on : OnPage [] page at page at
  nothing_on = record { shown = sym (placed_none page at); ends = omega arith }

  -- Something is meant, and done.
  means_done : (m : Meant) → m ≡ taken s b → (s' page' : List ℕ) (next : ℕ) → DoneAt (done s m) page at s' page' next
      → DoneAt (done s (taken s b)) page at s' page' next
  means_done m is s' page' next = subst (λ (x : Meant). DoneAt (done s x) page at s' page' next) is

  -- '02 drop': 'a dropped one frees its number'.
  pub drop_acted : kind_of b ≡ 2 → (s' : List ℕ) → s' ≡ with_free s (get_or b 1 0) → Acted (done s (taken s b)) page at s' page at
  unfolding taken done
  drop_acted is s' put = (
    means_done (free (get_or b 1 0)) (rw (eq-eqb (kind_of b) 2 is) refl) s' page at (record { stage = put; lines = nothing_on }),
    omega arith,
  )

  -- '03 declare a vault lying'
  pub declare_acted : kind_of b ≡ 3 → (s' : List ℕ) → s' ≡ with_liar s (get_or b 1 0) → Acted (done s (taken s b)) page at s' page at
  unfolding taken done
  declare_acted is s' put =
      let named : get_or b 1 0 ≡ vault_in b = sym (vault_second b (λ (e : kind_of b ≡ 1). omega arith)) in
      let declares : declare (vault_in b) ≡ taken s b = rw (ne_eqb (kind_of b) 2 (omega arith), eq-eqb (kind_of b) 3 is) refl in
      (means_done (declare (vault_in b)) declares s' page at (record { stage = put ∙ ap (with_liar s) named; lines = nothing_on }), omega arith)

  -- The code's slice of the bytes made up is all of them.
  rest_is : take (length b - 2) (drop 2 b) ≡ drop 2 b
  rest_is = take_all (length b - 2) (drop 2 b) (rw length-drop (omega arith))

  -- A frame made up has at most 45 bytes: what `send` asks.
  pub made_up_may : Formed b → kind_of b ≡ 4 → length (take (length b - 2) (drop 2 b)) ≤ 45
  made_up_may f is = rw rest_is (omega (arith, formed_make_up f is, length-drop 2 b))

  -- '04 .. (vault declared, then 0 to 45 bytes)': 'the new frame's entry'.
  pub made_up_acted : Formed b → kind_of b ≡ 4 → (s' page' : List ℕ) (next : ℕ)
      → DoneAt (sent s (on_way (record { writer = get_or b 1 0; to = 255 }) (take (length b - 2) (drop 2 b)))) page at s' page' next
      → Acted (done s (taken s b)) page at s' page' next
  unfolding taken done
  made_up_acted f is s' page' next put =
      let named : get_or b 1 0 ≡ vault_in b = sym (vault_second b (λ (e : kind_of b ≡ 1). omega arith)) in
      let makes : make_up (vault_in b) (drop 2 b) ≡ taken s b =
      rw (ne_eqb (kind_of b) 2 (omega arith), ne_eqb (kind_of b) 3 (omega arith), eq-eqb (kind_of b) 4 is) refl in
      let way : Way = record { writer = get_or b 1 0; to = 255 } in
      let few = sent_short s (on_way way (take (length b - 2) (drop 2 b))) in (
        means_done (make_up (vault_in b) (drop 2 b)) makes s' page' next
            (subst (λ (w : Waiting). DoneAt (sent s w) page at s' page' next) (λ i. record { writer = named i; to = 255; bytes = rest_is i }) put),
        omega (arith, put.lines.ends, few, made_up_may f is),
      )

  -- The other kinds are calls.
  pub other_acted : (kind_of b ≡ 2 → ⊥) → (kind_of b ≡ 3 → ⊥) → (kind_of b ≡ 4 → ⊥) → (s' page' : List ℕ) (next : ℕ)
      → Acted (done s (call (vault_in b) (call_of s b))) page at s' page' next → Acted (done s (taken s b)) page at s' page' next
  unfolding taken
  other_acted no2 no3 no4 s' page' next (put, few) =
      let calls : call (vault_in b) (call_of s b) ≡ taken s b = rw (ne_eqb (kind_of b) 2 no2, ne_eqb (kind_of b) 3 no3, ne_eqb (kind_of b) 4 no4) refl in
      (means_done (call (vault_in b) (call_of s b)) calls s' page' next put, few)

-- ---- a line's bytes

-- What is promised of a line's bytes.
abbrev pub Obeyed : (s b page : List ℕ) (at : ℕ) (s' page' : List ℕ) (next : ℕ) → Type 0
Obeyed s b page at s' page' next =
    DoneAt (done s (meant s b)) page at s' page' next × ((next ≤ at + answer_size) × (length b < 2 → next ≤ at + 5))

module _ (s b page : List ℕ) (at number : ℕ) (is : number ≡ first (line_rows s b)) where
  -- A line that is refused prints just that.
  pub refused_obeyed : (number ≡ 0 → ⊥) → (page' : List ℕ) (next : ℕ) → OnPage (refusal_line number) page at page' next
      → Obeyed s b page at s page' next
  unfolding meant done
  refused_obeyed given page' next put =
      let no : eqb (first (line_rows s b)) 0 ≡ false = subst (λ (k : ℕ). eqb k 0 ≡ false) is (ne_eqb number 0 given) in
      let refuses : refuse number ≡ meant s b = ap refuse is ∙ rw no refl in
      let five : next ≡ at + 5 = omega (arith, put.ends, length_line (253 ∷ number ∷ [])) in (
        subst (λ (m : Meant). DoneAt (done s m) page at s page' next) refuses (record { stage = refl; lines = put }),
        (omega arith, λ (few : length b < 2). omega arith),
      )

  -- A line that is not refused is acted on; it has two bytes or more.
  pub acted_obeyed : number ≡ 0 → (s' page' : List ℕ) (next : ℕ) → Acted (done s (taken s b)) page at s' page' next → Obeyed s b page at s' page' next
  unfolding meant
  acted_obeyed is0 s' page' next (put, few) =
      let passes : first (line_rows s b) ≡ 0 = sym is ∙ is0 in
      let takes : taken s b ≡ meant s b = rw (eq-eqb (first (line_rows s b)) 0 passes) refl in
      let two = accepted_two s b passes in
      (subst (λ (m : Meant). DoneAt (done s m) page at s' page' next) takes put, (few, λ (short : length b < 2). omega arith))

-- ---- a line, by what its text spells

-- What is promised of a line.
abbrev Line : (s text page : List ℕ) (at : ℕ) (s' page' : List ℕ) (next : ℕ) → Type 0
Line s text page at s' page' next = Answered rehearsal s text page at s' page' next × (next ≤ at + line_share * (length text + 1))

-- A line of fewer than two bytes is refused, and so takes little room; any other has four digits or more.
share_enough : (at next digits size : ℕ) → 2 * size ≤ digits → next ≤ at + answer_size → (size < 2 → next ≤ at + 5) → next ≤ at + line_share * (digits + 1)
share_enough at next digits size long few short =
    elim (dec_le 2 size) [ yes many ↦ omega arith | no one ↦ omega (arith, short (omega arith)) ]

module _ (s text page : List ℕ) (at : ℕ) (g : Counted ℕ) (bytes : List ℕ) (is : spells g bytes ≡ bytes_of digit_limit text) where
  -- 20 is tested before all else.
  pub bad_obeyed : g ≡ None → (page' : List ℕ) (next number : ℕ) → OnPage (refusal_line number) page at page' next → number ≡ 20
      → Line s text page at s page' next
  unfolding line_meant rehearsal done
  bad_obeyed bad page' next number put is20 =
      let shown : OnPage (refusal_line 20) page at page' next = subst (λ (k : ℕ). OnPage (refusal_line k) page at page' next) is20 put in
      let refuses : refuse 20 ≡ line_meant s text = ap (spelled_meant s) (ap (λ (x : Counted ℕ). spells x bytes) (sym bad) ∙ is) in
      let does : record { stage = s; shown = refusal_line 20 } ≡ done s (line_meant s text) = ap (done s) refuses in (
        record {
          left = ap (λ (d : Done). d.stage) does;
          lines = subst (λ (d : Done). OnPage d.shown page at page' next) does shown;
        },
        omega (arith, shown.ends, length_line (253 ∷ 20 ∷ [])),
      )

  -- A text that spells bytes: the line does what those bytes do.
  pub count_obeyed : (n : ℕ) → g ≡ Some n → (s' page' : List ℕ) (next : ℕ) → Obeyed s (take (n - 0) bytes) page at s' page' next
      → Line s text page at s' page' next
  unfolding line_meant rehearsal
  count_obeyed n good s' page' next (put, (few, short)) =
      let all : n - 0 ≡ n = omega arith in
      let b : List ℕ = take (n - 0) bytes in
      let spelt : some b ≡ bytes_of digit_limit text =
      ap (λ (k : ℕ). some (take k bytes)) all ∙ ap (λ (x : Counted ℕ). spells x bytes) (sym good) ∙ is in
      let does : done s (meant s b) ≡ done s (line_meant s text) = ap (λ (o : Option (List ℕ)). done s (spelled_meant s o)) spelt in (
        record {
          left = put.stage ∙ ap (λ (d : Done). d.stage) does;
          lines = subst (λ (d : Done). OnPage d.shown page at page' next) does put.lines;
        },
        share_enough at next (length text) (length b) (spelled_short digit_limit text b (sym spelt)) few short,
      )
