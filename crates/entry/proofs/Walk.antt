-- A walk over an output meets just its entries: 'Entries lie end to end: a recipient byte .., then the frame' (01, Refusals). The first two
-- bytes of an entry tell its length (`entry_says` of crate entry); and bytes of the right form and length are the spelling of what they
-- say (`respell` of crate frame, the laws of fields for the host's).
-- Assumes nothing.
use Prim.Native.Nat.{ℕ, zero, suc, ◌+◌, ◌≤◌, ◌<◌}
use mathlib.Core.Path.{◌≡◌, refl, sym, ap, subst, ◌∙◌}
use mathlib.Core.List.{List, [], ◌∷◌, ◌++◌, append_assoc}
use native.Mathlib.Omega.{arith}
use native.Mathlib.Decide.{ℕ_discrete, dec_le}
use borrow.Author.Tests.{ne_eqb}
use lib.ListN.{length, get_or, take, drop, length-append}
use lib.Seq.{drop-append_seam, get_or-take, length-take-le}
use Rattle.wire.specs.Digits.{number_at, digits}
use Rattle.wire.specs.Fields.{spell, Bytes}
use Rattle.wire.specs.inside.Widths.{total_width, fields_at}
use Rattle.wire.proofs.Laws.{number_one, number_below, spell_fields, length_spell}
use Rattle.frame.specs.Format.{length_of, decode}
use Rattle.frame.specs.inside.Reading.{Formed}
use Rattle.frame.proofs.Laws.{known}
use Rattle.frame.proofs.Spelling.{respell, decode_valid}
use Rattle.frame.proofs.Theorems.{encode_head}
use Rattle.entry.specs.declared.Entry.{Entry}
use Rattle.entry.specs.declared.Entry.TheVariants.{ForAll, ForOne, Timer, Decision}
use Rattle.entry.specs.Layout.{host_fields, entry_bytes, layout}
use Rattle.entry.specs.Valid.{ValidEntry}
use Rattle.entry.specs.Reading.{size_at}
use Rattle.entry.proofs.Theorems.{entry_says}
use Rattle.entry.specs.Walk.{host_size, frame_size, size_by, size_here, size_in, WalksEntries}
use Rattle.entry.proofs.Laws.{host_timer, host_decision, host_other, frame_none, frame_some, by_host, by_the_frame, in_whole, in_cut, in_none}

-- ---- where an entry begins

-- A frame after its recipient: the size by two bytes is the size that crate entry reads.
frame_agrees : (s : List ℕ) → (get_or s 0 0 ≡ 254 → ⊥) → 2 ≤ size_at s → size_here s ≡ size_at s
unfolding size_at
frame_agrees s h many =
    let is : size_at s ≡ suc (length_of (get_or s 1 0)) = simp (ne_eqb (get_or s 0 0) 254 h) refl in
    let there : length_of (get_or s 1 0) ≡ 0 → ⊥ = λ (e : length_of (get_or s 1 0) ≡ 0). omega arith in
    let here : size_here s ≡ 1 + length_of (get_or s 1 0) = by_the_frame (get_or s 0 0) (get_or s 1 0) h ∙ frame_some (get_or s 1 0) there in
    omega arith

-- The first two bytes of an entry tell its length.
here_entry : (e : Entry) → ValidEntry e → (rest : List ℕ) → size_here (entry_bytes e ++ rest) ≡ length (entry_bytes e)
unfolding entry_bytes size_by host_size digits
here_entry (ForAll f) v rest =
    let says : size_at (entry_bytes (ForAll f) ++ rest) ≡ length (entry_bytes (ForAll f)) = (entry_says (ForAll f) v rest).size in
    frame_agrees (entry_bytes (ForAll f) ++ rest) (λ (e : 255 ≡ 254). omega arith) (omega (arith, encode_head f)) ∙ says
here_entry (ForOne to f) v rest =
    let says : size_at (entry_bytes (ForOne to f) ++ rest) ≡ length (entry_bytes (ForOne to f)) = (entry_says (ForOne to f) v rest).size in
    frame_agrees (entry_bytes (ForOne to f) ++ rest) (λ (e : to ≡ 254). omega arith) (omega (arith, encode_head f)) ∙ says
here_entry (Timer view millis) v rest = sym (length_spell (host_fields 11 view 4 millis))
here_entry (Decision view plan) v rest = sym (length_spell (host_fields 10 view 8 plan))

-- An entry's length is given where its bytes stand.
pub in_entry : (e : Entry) → ValidEntry e → (rest : List ℕ) → size_in (entry_bytes e ++ rest) ≡ length (entry_bytes e)
in_entry e v rest =
    let here = here_entry e v rest in
    in_whole (entry_bytes e ++ rest) (omega (arith, length-append (entry_bytes e) rest)) ∙ here

-- Entries end to end, up to one of them.
layout_at : (es : List Entry) (e : Entry) (rest : List Entry) → layout (es ++ (e ∷ rest)) ≡ layout es ++ (entry_bytes e ++ layout rest)
layout_at [] e rest = refl
layout_at (x ∷ es) e rest = rw (append_assoc, layout_at es e rest)

-- ---- where something is given

-- The host's bytes spell what they say.
host_only : (s : List ℕ) (code width : ℕ) → Bytes s → get_or s 0 0 ≡ 254 → get_or s 1 0 ≡ code → 6 + width ≤ length s
    → spell (host_fields code (number_at 4 s 2) width (number_at width s 6)) ≡ take (6 + width) s
host_only s code width b to told long =
    let ws : List ℕ = 1 ∷ 1 ∷ 4 ∷ width ∷ [] in
    let fields : host_fields code (number_at 4 s 2) width (number_at width s 6) ≡ fields_at ws s 0 = rw (number_one s 0, number_one s 1, to, told) refl in
    let size : total_width ws ≡ 6 + width = omega arith in
    ap spell fields ∙ spell_fields ws s 0 b (omega arith) ∙ ap (λ (k : ℕ). take k s) size

-- A part of some bytes is bytes.
bytes_take : (n : ℕ) (s : List ℕ) → Bytes s → Bytes (take n s)
bytes_take zero s b i = omega arith
bytes_take (suc n) [] b i = omega arith
bytes_take (suc n) (x ∷ s) b zero = b 0
bytes_take (suc n) (x ∷ s) b (suc i) = bytes_take n s (λ j. b (suc j)) i

-- Bytes of a frame's form behind a recipient.
module _ (to : ℕ) (t : List ℕ) (b : Bytes (to ∷ t)) (there : length_of (get_or t 0 0) ≡ 0 → ⊥) (long : length_of (get_or t 0 0) ≤ length t) where
  -- The frame's length, by its kind byte.
  abbrev size : ℕ
  size = length_of (get_or t 0 0)

  -- The bytes of the frame: so many from behind the recipient.
  abbrev framed : List ℕ
  framed = take size t

  -- They have the form of a frame: a known kind, and its length.
  formed : Formed framed
  formed =
      let some : 0 < size = omega arith in
      let kind : get_or framed 0 0 ≡ get_or t 0 0 = get_or-take size t 0 0 some in
      record { kind = rw kind (known (get_or t 0 0) there); size = length-take-le size t long ∙ ap length_of (sym kind) }

  -- They are bytes, as the whole is.
  framed_bytes : Bytes framed
  framed_bytes = bytes_take size t (λ i. b (suc i))

  -- With a vault's number before them they are an entry for that vault.
  frame_only : to < 254 → (e : Entry) × (ValidEntry e × (entry_bytes e ≡ take (suc size) (to ∷ t)))
  unfolding entry_bytes
  frame_only low =
      let bytes = ap (λ (l : List ℕ). to ∷ l) (respell framed framed_bytes formed) in
      (ForOne to (decode framed), ((low, decode_valid framed framed_bytes formed), bytes))

  -- With ff before them they are an entry for all vaults.
  all_only : to ≡ 255 → (e : Entry) × (ValidEntry e × (entry_bytes e ≡ take (suc size) (to ∷ t)))
  unfolding entry_bytes
  all_only all = (ForAll (decode framed), (decode_valid framed framed_bytes formed, (λ i. sym all i ∷ respell framed framed_bytes formed i)))

-- An entry stands at the start of some bytes.
abbrev Begins : List ℕ → ℕ → Type 0
Begins s n = (e : Entry) × (ValidEntry e × (entry_bytes e ≡ take n s))

-- By the second byte of an entry for the host.
host_begins : (s : List ℕ) → Bytes s → get_or s 0 0 ≡ 254 → host_size (get_or s 1 0) ≤ length s → 0 < host_size (get_or s 1 0)
    → Begins s (host_size (get_or s 1 0))
unfolding entry_bytes
host_begins s b to long there =
    elim (ℕ_discrete (get_or s 1 0) 11) [
      | yes a ↦
          let size = host_timer (get_or s 1 0) a in
          let bytes = host_only s 11 4 b to a (omega arith) ∙ ap (λ (k : ℕ). take k s) (sym size) in
          (Timer (number_at 4 s 2) (number_at 4 s 6), ((number_below 4 s 2 b, number_below 4 s 6 b), bytes))
      | no g ↦ elim (ℕ_discrete (get_or s 1 0) 10) [
        | yes a ↦
            let size = host_decision (get_or s 1 0) a in
            let bytes = host_only s 10 8 b to a (omega arith) ∙ ap (λ (k : ℕ). take k s) (sym size) in
            (Decision (number_at 4 s 2) (number_at 8 s 6), ((number_below 4 s 2 b, number_below 8 s 6 b), bytes))
        | no h ↦ absurd (omega (arith, host_other (get_or s 1 0) g h))
      ]
    ]

-- By the kind of a frame.
frame_begins : (to : ℕ) (t : List ℕ) → Bytes (to ∷ t) → (to ≡ 254 → ⊥) → frame_size (get_or t 0 0) ≤ suc (length t) → 0 < frame_size (get_or t 0 0)
    → Begins (to ∷ t) (frame_size (get_or t 0 0))
frame_begins to t b other long there =
    let kind : length_of (get_or t 0 0) ≡ 0 → ⊥ = λ (e : length_of (get_or t 0 0) ≡ 0). omega (arith, frame_none (get_or t 0 0) e) in
    let size = frame_some (get_or t 0 0) kind in
    let is : suc (length_of (get_or t 0 0)) ≡ frame_size (get_or t 0 0) = omega arith in
    subst (Begins (to ∷ t)) is
    (elim (dec_le 254 to) [
      | yes h ↦ all_only to t b kind (omega arith) (omega (arith, b 0))
      | no h ↦ frame_only to t b kind (omega arith) (omega arith)
    ])

-- By the recipient.
here_begins : (s : List ℕ) → Bytes s → size_here s ≤ length s → 0 < size_here s → Begins s (size_here s)
here_begins [] b long there = absurd (omega arith)
here_begins (to ∷ t) b long there =
    elim (ℕ_discrete to 254) [
      | yes e ↦
          let is = by_host to (get_or t 0 0) e in
          subst (Begins (to ∷ t)) (sym is) (host_begins (to ∷ t) b e (omega arith) (omega arith))
      | no g ↦
          let is = by_the_frame to (get_or t 0 0) g in
          subst (Begins (to ∷ t)) (sym is) (frame_begins to t b g (omega arith) (omega arith))
    ]

-- By the length.
in_begins : (s : List ℕ) → Bytes s → 0 < size_in s → Begins s (size_in s)
in_begins s b there =
    elim (dec_le (size_here s) (length s)) [
      | yes long ↦ let is = in_whole s long in subst (Begins s) (sym is) (here_begins s b long (omega arith))
      | no g ↦ absurd (omega (arith, in_cut s (omega arith)))
    ]

-- Entries, walked one by one.
pub walks_entries : WalksEntries
walks_entries =
    record {
      step = λ es e rest v. ap (λ (l : List ℕ). size_in (drop (length (layout es)) l)) (layout_at es e rest)
          ∙ ap size_in (drop-append_seam (layout es) (entry_bytes e ++ layout rest)) ∙ in_entry e v (layout rest);
      done = in_none;
      only = in_begins;
    }
