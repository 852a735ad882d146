-- Laws of entries on the page: 'Entries lie end to end', 'one output entry a line'. The size of an entry is found (crate entry), so
-- entries laid end to end are found again, one after the other (`in_entry`, `entries_read_back`). The loop that prints
-- them keeps that what is on the page, with the lines of the rest put behind it, is the page with all the lines.
-- Assumes nothing.
use Prim.Native.Nat.{ℕ, ◌+◌, ◌*◌, ◌-◌, ◌≤◌, ◌<◌}
use mathlib.Core.Path.{◌≡◌, refl, sym, ap, subst, ◌∙◌}
use mathlib.Core.List.{List, [], ◌∷◌, ◌++◌}
use native.Mathlib.Omega.{arith}
use lib.ListN.{length, take, drop, length-append, length-drop, drop_of_length-le}
use lib.Seq.{take_all, take_at, drop_at, drop-drop, length-take-le}
use Rattle.wire.specs.Placed.{placed}
use Rattle.wire.proofs.Output.{placed_none, placed_more, length_placed}
use Rattle.frame.proofs.Theorems.{encode_head}
use Rattle.wire.proofs.Laws.{length_spell}
use Rattle.entry.specs.declared.Entry.{Entry}
use Rattle.entry.specs.declared.Entry.TheVariants.{ForAll, ForOne, Timer, Decision}
use Rattle.entry.specs.Layout.{host_fields, entry_bytes, layout}
use Rattle.entry.specs.Valid.{AllValid}
use Rattle.entry.specs.Reading.{entries_within, entries_of}
use Rattle.entry.proofs.Theorems.{entries_read_back}
use Rattle.entry.specs.Walk.{size_in}
use Rattle.entry.proofs.Walk.{in_entry}
use Rattle.lines.specs.Digits.{line_of}
use Rattle.lines.specs.inside.Steps.{OnPage}
use Rattle.lines.proofs.Digits.{length_line}
use Rattle.answers.specs.Lines.{entry_lines}
use Rattle.answers.specs.inside.Steps.{LaidOut}

-- An entry has its recipient and at least the six bytes of a view-change.
pub entry_least : (e : Entry) → 7 ≤ length (entry_bytes e)
unfolding entry_bytes
entry_least (ForAll f) = omega (arith, encode_head f)
entry_least (ForOne to f) = omega (arith, encode_head f)
entry_least (Timer view millis) = omega (arith, length_spell (host_fields 11 view 4 millis))
entry_least (Decision view plan) = omega (arith, length_spell (host_fields 10 view 8 plan))

-- ---- entries one after the other

-- What is known of the first entry of some bytes.
pub record First (s : List ℕ) (e : Entry) : Type 0 where
  pub size : size_in s ≡ length (entry_bytes e)
  pub here : take (size_in s) s ≡ entry_bytes e
  pub rest : LaidOut (drop (size_in s) s)
  pub entries : entries_of s ≡ e ∷ entries_of (drop (size_in s) s)
  pub fits : size_in s ≤ length s

-- Bytes that are the entry e and then entries es.
first_is : (s : List ℕ) (e : Entry) (es : List Entry) → AllValid (e ∷ es) → s ≡ entry_bytes e ++ layout es → entries_of s ≡ e ∷ es → First s e
first_is s e es v is read =
    let size : size_in s ≡ length (entry_bytes e) = ap size_in is ∙ in_entry e v.0 (layout es) in
    let next : drop (size_in s) s ≡ layout es =
    ap (λ (k : ℕ). drop k s) size ∙ ap (λ (l : List ℕ). drop (length (entry_bytes e)) l) is
    ∙ drop_at (entry_bytes e) (layout es) (length (entry_bytes e)) refl in
    let back : entries_of (layout es) ≡ es = entries_read_back es v.1 in
    let again : entries_of (drop (size_in s) s) ≡ es = ap entries_of next ∙ back in
    let all = length-append (entry_bytes e) (layout es) in
    let whole : length s ≡ length (entry_bytes e ++ layout es) = ap length is in
    record {
      size = size;
      here = ap (λ (k : ℕ). take k s) size ∙ ap (λ (l : List ℕ). take (length (entry_bytes e)) l) is
          ∙ take_at (entry_bytes e) (layout es) (length (entry_bytes e)) refl;
      rest = record { valid = subst AllValid (sym again) v.1; entries = ap layout again ∙ sym next };
      entries = read ∙ ap (λ (l : List Entry). e ∷ l) (sym again);
      fits = omega arith;
    }

-- Bytes that are entries, and are not at their end, begin with an entry: there is a next line to print.
pub first : (s : List ℕ) → LaidOut s → 0 < length s → (e : Entry) × First s e
first s laid there = go (entries_of s) refl
  where
    go : (es : List Entry) → entries_of s ≡ es → (e : Entry) × First s e
    go [] is = let nothing : length {A = ℕ} [] ≡ length s = ap length (ap layout (sym is) ∙ laid.entries) in absurd (omega arith)
    go (e ∷ es) is = (e, first_is s e es (subst AllValid is laid.valid) (sym laid.entries ∙ ap layout is) is)

-- What holds of the page after i bytes of s: it stands at end.
pub record PutTo (page₀ : List ℕ) (at : ℕ) (s page : List ℕ) (i end : ℕ) : Type 0 where
  pub within : i ≤ length s
  pub laid : LaidOut (drop i s)
  pub size : length page ≡ length page₀
  pub room : end + 3 * (length s - i) ≤ length page
  pub ends : end + length (entry_lines (entries_of (drop i s))) ≡ at + length (entry_lines (entries_of s))
  pub shown : placed page end (entry_lines (entries_of (drop i s))) ≡ placed page₀ at (entry_lines (entries_of s))

-- Before the first entry nothing is put, and the loop may begin.
pub put_none : (page : List ℕ) (at : ℕ) (s : List ℕ) → at + 3 * length s ≤ length page → LaidOut s → PutTo page at s page 0 at
put_none page at s room laid = record { within = omega arith; laid = laid; size = refl; room = omega arith; ends = refl; shown = refl }

-- The next entry is found, and fits.
pub record Next (s : List ℕ) (i size : ℕ) : Type 0 where
  pub least : 7 ≤ size
  pub fits : i + size ≤ length s
  pub bytes : length (take (i + size - i) (drop i s)) ≡ size

module _ (page₀ : List ℕ) (at : ℕ) (s page : List ℕ) (i end : ℕ) (so : PutTo page₀ at s page i end) (more : i < length s) where
  -- There are bytes left, so there is an entry to find.
  rest_there : 0 < length (drop i s)
  rest_there = rw length-drop (omega arith)

  -- The code's slice of what is left is all of it.
  whole : take (length s - i) (drop i s) ≡ drop i s
  whole = take_all (length s - i) (drop i s) (rw length-drop (omega arith))

  -- The size that the code finds is an entry's: the slice up to it is within the bytes, and not empty.
  pub next_is : (size : ℕ) → size ≡ size_in (take (length s - i) (drop i s)) → Next s i size
  next_is size is =
      let (e, f) = first (drop i s) so.laid rest_there in
      let same : size ≡ size_in (drop i s) = is ∙ ap size_in whole in
      let long = length-drop i s in
      let fits : i + size ≤ length s = omega (arith, f.fits) in
      let step : i + size - i ≡ size = omega arith in
      record {
        least = omega (arith, f.size, entry_least e);
        fits = fits;
        bytes = ap (λ (k : ℕ). length (take k (drop i s))) step ∙ length-take-le size (drop i s) (omega arith);
      }

  -- Its line is put where the lines before it end.
  pub put_more : (size : ℕ) → size ≡ size_in (take (length s - i) (drop i s)) → (page' : List ℕ) (end' : ℕ)
      → OnPage (line_of (take (i + size - i) (drop i s))) page end page' end' → PutTo page₀ at s page' (i + size) end'
  put_more size is page' end' put =
      let (e, f) = first (drop i s) so.laid rest_there in
      let same : size ≡ size_in (drop i s) = is ∙ ap size_in whole in
      let next = next_is size is in
      let step : i + size - i ≡ size_in (drop i s) = omega arith in
      let line : take (i + size - i) (drop i s) ≡ entry_bytes e = ap (λ (k : ℕ). take k (drop i s)) step ∙ f.here in
      let rest : drop (size_in (drop i s)) (drop i s) ≡ drop (i + size) s = drop-drop (size_in (drop i s)) i s ∙ ap (λ (k : ℕ). drop (i + k) s) (sym same) in
      let others = entry_lines (entries_of (drop (i + size) s)) in
      let lines : entry_lines (entries_of (drop i s)) ≡ line_of (entry_bytes e) ++ others =
      ap entry_lines f.entries ∙ ap (λ (l : List ℕ). line_of (entry_bytes e) ++ entry_lines (entries_of l)) rest in
      let long = length_line (entry_bytes e) in
      let all : length (entry_lines (entries_of (drop i s))) ≡ length (line_of (entry_bytes e)) + length others =
      ap length lines ∙ length-append (line_of (entry_bytes e)) others in
      let here : length (take (i + size - i) (drop i s)) ≡ length (entry_bytes e) = ap length line in
      let after : end' ≡ end + length (line_of (entry_bytes e)) = put.ends ∙ ap (λ (l : List ℕ). end + length (line_of l)) line in
      let page'' : page' ≡ placed page end (line_of (entry_bytes e)) = put.shown ∙ ap (λ (l : List ℕ). placed page end (line_of l)) line in
      let length' : length page' ≡ length page =
      ap length page'' ∙ length_placed page end (line_of (entry_bytes e)) (omega (arith, next.fits, next.least, next.bytes, so.room)) in
      record {
        within = next.fits;
        laid = subst LaidOut rest f.rest;
        size = length' ∙ so.size;
        room = omega (arith, next.fits, next.least, next.bytes, so.room);
        ends = omega (arith, so.ends);
        shown = (λ k. placed (page'' k) (after k) others) ∙ placed_more page end (line_of (entry_bytes e)) others (omega (arith, so.room))
            ∙ ap (λ (l : List ℕ). placed page end l) (sym lines) ∙ so.shown;
      }

-- All are put.
pub put_all : (page₀ : List ℕ) (at : ℕ) (s page : List ℕ) (i end : ℕ) → PutTo page₀ at s page i end → length s ≤ i
    → OnPage (entry_lines (entries_of s)) page₀ at page end
unfolding entries_within
put_all page₀ at s page i end so done =
    let gone : drop i s ≡ [] = drop_of_length-le s {i = i} done in
    let none_left : entry_lines (entries_of (drop i s)) ≡ [] = ap (λ (l : List ℕ). entry_lines (entries_of l)) gone in
    let no_more : length (entry_lines (entries_of (drop i s))) ≡ 0 = ap length none_left in
    record {
      shown = sym (placed_none page end) ∙ ap (λ (l : List ℕ). placed page end l) (sym none_left) ∙ so.shown;
      ends = omega (arith, so.ends);
    }

-- ---- room

-- The lines of entries have at most three digits for each of their bytes.
lines_short : (es : List Entry) → length (entry_lines es) ≤ 3 * length (layout es)
lines_short [] = omega arith
lines_short (e ∷ es) =
    omega (
      arith,
      lines_short es,
      entry_least e,
      length_line (entry_bytes e),
      length-append (line_of (entry_bytes e)) (entry_lines es),
      length-append (entry_bytes e) (layout es),
    )

-- So bytes that are entries print at most three bytes each: the room that `put_entries` asks for.
pub laid_short : (s : List ℕ) → LaidOut s → length (entry_lines (entries_of s)) ≤ 3 * length s
laid_short s laid = subst (λ (l : List ℕ). length (entry_lines (entries_of s)) ≤ 3 * length l) laid.entries (lines_short (entries_of s))
