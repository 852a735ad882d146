-- Laws of frames on their way: 'a new frame gets the smallest free one', 'led by fc and its number, or by fb where 256 wait and it is lost'.
-- An entry's bytes are its recipient byte and its frame, so an entry whose first byte is not the host's is sent. The loop over entries keeps
-- that what is done so far, with what the rest does on the stage as it is, is what is to be done.
-- Assumes nothing.
use Prim.Native.Nat.{ℕ, suc, ◌+◌, ◌*◌, ◌-◌, ◌≤◌, ◌<◌}
use mathlib.Core.Path.{◌≡◌, refl, sym, ap, subst, ◌∙◌}
use mathlib.Core.Bool.{Bool, true, false, cond}
use mathlib.Core.List.{List, [], ◌∷◌, ◌++◌, append-nil}
use native.Mathlib.Omega.{arith}
use borrow.Author.Tests.{eq-eqb, ne_eqb}
use lib.Dec.{eqb}
use lib.ListN.{length, get_or, take, drop, length-append, length-drop, drop_of_length-le}
use lib.Seq.{take_all, drop-drop}
use Rattle.wire.specs.Digits.{digits}
use Rattle.wire.specs.Placed.{placed}
use Rattle.wire.proofs.Output.{placed_none, placed_more}
use Rattle.frame.specs.Format.{encode}
use Rattle.frame.proofs.Theorems.{encode_short}
use Rattle.entry.specs.declared.Entry.{Entry}
use Rattle.entry.specs.declared.Entry.TheVariants.{ForAll, ForOne, Timer, Decision}
use Rattle.entry.specs.Layout.{entry_bytes, layout}
use Rattle.entry.specs.Valid.{ValidEntry, AllValid}
use Rattle.entry.specs.Reading.{entry_at, entries_within, entries_of}
use Rattle.entry.specs.Walk.{size_in}
use Rattle.entry.proofs.Theorems.{entry_says}
use Rattle.lines.specs.Digits.{line_of}
use Rattle.lines.specs.inside.Steps.{OnPage}
use Rattle.lines.proofs.Digits.{length_line}
use Rattle.answers.specs.inside.Steps.{LaidOut}
use Rattle.answers.proofs.Entries.{entry_least, first}
use Rattle.stage.specs.declared.Way.{Way}
use Rattle.stage.specs.Stage.{place_count, Waiting, with_waiting, first_free}
use Rattle.stage.specs.Lines.{Done, sent_to, sent, entry_done, entries_done}
use Rattle.lines.specs.inside.Steps.{digits_of}
use Rattle.stage.specs.inside.Parts.{on_way}
use Rattle.obey.specs.inside.Parts.{head_of, IsEntry, DoneAt}
use Rattle.lines.proofs.Digits.{line_joined}

-- ---- a frame's head

-- Where 256 wait: fb and the recipient byte.
pub lost_head : (k to : ℕ) → k ≡ place_count → 251 ∷ to ∷ [] ≡ head_of k to
unfolding head_of
lost_head k to full = rw (eq-eqb k place_count full) refl

-- Else fc, the number and the recipient byte.
pub waits_head : (k to : ℕ) → k < place_count → 252 ∷ k ∷ to ∷ [] ≡ head_of k to
unfolding head_of
waits_head k to below = rw (ne_eqb k place_count (λ (e : k ≡ place_count). absurd (omega arith))) refl

-- It has at most three bytes.
pub head_short : (k to : ℕ) → length (head_of k to) ≤ 3
unfolding head_of
head_short k to = go (eqb k place_count)
  where
    go : (b : Bool) → length (cond b (251 ∷ to ∷ []) (252 ∷ k ∷ to ∷ [])) ≤ 3
    go true = omega arith
    go false = omega arith

-- ---- a frame is sent

module _ (s page : List ℕ) (at k : ℕ) (way : Way) (frame : List ℕ) (is : k ≡ first_free s) (room : at ≤ length page) where
  -- 'or by fb where 256 wait and it is lost'
  pub lost_done : k ≡ place_count → (page₁ : List ℕ) (mid : ℕ) (page₂ : List ℕ) (next : ℕ) → OnPage (digits_of (head_of k way.to)) page at page₁ mid
      → OnPage (line_of frame) page₁ mid page₂ next → DoneAt (sent s (on_way way frame)) page at s page₂ next
  unfolding sent_to
  lost_done full page₁ mid page₂ next head rest =
      let line : List ℕ = line_of (251 ∷ way.to ∷ frame) in
      let lost : sent_to s (on_way way frame) k ≡ record { stage = s; shown = line } = rw (eq-eqb k place_count full) refl in
      let does : record { stage = s; shown = line } ≡ sent s (on_way way frame) = sym lost ∙ ap (sent_to s (on_way way frame)) is in
      let put : OnPage (line_of (head_of k way.to ++ frame)) page at page₂ next =
      line_joined (head_of k way.to) frame page at page₁ mid page₂ next room head rest in
      let shows : OnPage line page at page₂ next = subst (λ (h : List ℕ). OnPage (line_of (h ++ frame)) page at page₂ next) (sym (lost_head k way.to full)) put in
      subst (λ (d : Done). DoneAt d page at s page₂ next) does (record { stage = refl; lines = shows })

  -- 'led by fc and its number'
  pub waits_done : k < place_count → (s' page₁ : List ℕ) (mid : ℕ) (page₂ : List ℕ) (next : ℕ)
      → OnPage (digits_of (head_of k way.to)) page at page₁ mid → OnPage (line_of frame) page₁ mid page₂ next
      → s' ≡ with_waiting s k (on_way way frame) → DoneAt (sent s (on_way way frame)) page at s' page₂ next
  unfolding sent_to
  waits_done below s' page₁ mid page₂ next head rest put =
      let line : List ℕ = line_of (252 ∷ k ∷ way.to ∷ frame) in
      let there : List ℕ = with_waiting s k (on_way way frame) in
      let waits : sent_to s (on_way way frame) k ≡ record { stage = there; shown = line } = rw (ne_eqb k place_count (λ (e : k ≡ place_count). absurd (omega arith))) refl in
      let does : record { stage = there; shown = line } ≡ sent s (on_way way frame) = sym waits ∙ ap (sent_to s (on_way way frame)) is in
      let whole : OnPage (line_of (head_of k way.to ++ frame)) page at page₂ next =
      line_joined (head_of k way.to) frame page at page₁ mid page₂ next room head rest in
      let shows : OnPage line page at page₂ next = subst (λ (h : List ℕ). OnPage (line_of (h ++ frame)) page at page₂ next) (sym (waits_head k way.to below)) whole in
      subst (λ (d : Done). DoneAt d page at s' page₂ next) does (record { stage = put; lines = shows })

-- A frame's line has two bytes or three more than the frame.
pub sent_short : (s : List ℕ) (w : Waiting) → length (sent s w).shown ≤ 2 * length w.bytes + 7
unfolding sent_to
sent_short s w = go (eqb (first_free s) place_count)
  where
    lost : List ℕ
    lost = 251 ∷ w.to ∷ w.bytes

    waits : List ℕ
    waits = 252 ∷ first_free s ∷ w.to ∷ w.bytes

    there : List ℕ
    there = with_waiting s (first_free s) w

    go : (b : Bool) → length (cond {A = Done} b (record { stage = s; shown = line_of lost }) (record { stage = there; shown = line_of waits })).shown
        ≤ 2 * length w.bytes + 7
    go true = omega (arith, length_line lost)
    go false = omega (arith, length_line waits)

-- ---- an entry

-- Bytes that are one entry are at least seven.
pub is_entry_least : {e : List ℕ} → IsEntry e → 7 ≤ length e
is_entry_least {e} is = subst (λ (l : List ℕ). 7 ≤ length l) is.bytes (entry_least (entry_at e))

module _ (v : ℕ) (s e page : List ℕ) (at : ℕ) (is : IsEntry e) where
  -- 'fe the host': the entry prints as it is.
  pub host_done : get_or e 0 0 ≡ 254 → (page' : List ℕ) (next : ℕ) → OnPage (line_of e) page at page' next
      → DoneAt (entry_done v s (entry_at e)) page at s page' next
  unfolding entry_done entry_bytes
  host_done host page' next put = go (entry_at e) is.valid is.bytes
    where
      go : (x : Entry) → ValidEntry x → entry_bytes x ≡ e → DoneAt (entry_done v s x) page at s page' next
      go (ForAll f) valid same = absurd (omega (arith, host, ap (λ (l : List ℕ). get_or l 0 0) same))
      go (ForOne to f) valid same = absurd (omega (arith, host, ap (λ (l : List ℕ). get_or l 0 0) same, valid.0))
      go (Timer view millis) valid same = record { stage = refl; lines = subst (λ (l : List ℕ). OnPage (line_of l) page at page' next) (sym same) put }
      go (Decision view plan) valid same = record { stage = refl; lines = subst (λ (l : List ℕ). OnPage (line_of l) page at page' next) (sym same) put }

  -- The code's slice of the entry's frame.
  abbrev frame_of : List ℕ
  frame_of = take (length e - 1) (drop 1 e)

  -- Behind the recipient byte stands the frame.
  frame_is : (to : ℕ) (f : List ℕ) → to ∷ f ≡ e → f ≡ frame_of
  frame_is to f same = subst (λ (l : List ℕ). f ≡ take (length l - 1) (drop 1 l)) same (sym (take_all (suc (length f) - 1) f (omega arith)))

  -- Any other first byte is the recipient of a frame, which is sent.
  pub frame_done : (get_or e 0 0 ≡ 254 → ⊥) → (s' page' : List ℕ) (next : ℕ)
      → DoneAt (sent s (on_way (record { writer = v; to = get_or e 0 0 }) frame_of)) page at s' page' next
      → DoneAt (entry_done v s (entry_at e)) page at s' page' next
  unfolding entry_done entry_bytes digits
  frame_done other s' page' next put = go (entry_at e) is.valid is.bytes
    where
      framed : (to : ℕ) (f : List ℕ) → to ∷ f ≡ e → DoneAt (sent s (record { writer = v; to = to; bytes = f })) page at s' page' next
      framed to f same = subst (λ (w : Waiting). DoneAt (sent s w) page at s' page' next)
          (λ i. record { writer = v; to = sym (ap (λ (l : List ℕ). get_or l 0 0) same) i; bytes = sym (frame_is to f same) i }) put

      go : (x : Entry) → ValidEntry x → entry_bytes x ≡ e → DoneAt (entry_done v s x) page at s' page' next
      go (ForAll f) valid same = framed 255 (encode f) same
      go (ForOne to f) valid same = framed to (encode f) same
      go (Timer view millis) valid same = absurd (other (ap (λ (l : List ℕ). get_or l 0 0) (sym same)))
      go (Decision view plan) valid same = absurd (other (ap (λ (l : List ℕ). get_or l 0 0) (sym same)))

  -- Its frame has at most 45 bytes, and one less than the entry: what `send` asks.
  pub frame_may : (get_or e 0 0 ≡ 254 → ⊥) → (length frame_of ≤ 45) × (suc (length frame_of) ≡ length e)
  unfolding entry_bytes digits
  frame_may other = go (entry_at e) is.bytes
    where
      framed : (to : ℕ) (f : List ℕ) → to ∷ f ≡ e → length f ≤ 45 → (length frame_of ≤ 45) × (suc (length frame_of) ≡ length e)
      framed to f same few = subst (λ (l : List ℕ). (length l ≤ 45) × (suc (length l) ≡ length e)) (frame_is to f same) (few, ap length same)

      go : (x : Entry) → entry_bytes x ≡ e → (length frame_of ≤ 45) × (suc (length frame_of) ≡ length e)
      go (ForAll f) same = framed 255 (encode f) same (encode_short f)
      go (ForOne to f) same = framed to (encode f) same (encode_short f)
      go (Timer view millis) same = absurd (other (ap (λ (l : List ℕ). get_or l 0 0) (sym same)))
      go (Decision view plan) same = absurd (other (ap (λ (l : List ℕ). get_or l 0 0) (sym same)))

-- An entry's lines have at most five bytes more than two for each of its own.
entry_short : (v : ℕ) (s : List ℕ) (e : Entry) → length (entry_done v s e).shown ≤ 2 * length (entry_bytes e) + 5
unfolding entry_done entry_bytes
entry_short v s (ForAll f) = omega (arith, sent_short s (record { writer = v; to = 255; bytes = encode f }))
entry_short v s (ForOne to f) = omega (arith, sent_short s (record { writer = v; to = to; bytes = encode f }))
entry_short v s (Timer view millis) = omega (arith, length_line (entry_bytes (Timer view millis)))
entry_short v s (Decision view plan) = omega (arith, length_line (entry_bytes (Decision view plan)))

-- So entries take at most three bytes of the page for each of theirs.
pub entries_short : (v : ℕ) (s : List ℕ) (es : List Entry) → length (entries_done v s es).shown ≤ 3 * length (layout es)
unfolding entries_done
entries_short v s [] = omega arith
entries_short v s (e ∷ es) =
    let d = entry_done v s e in
    omega (
      arith,
      entries_short v d.stage es,
      entry_short v s e,
      entry_least e,
      length-append d.shown (entries_done v d.stage es).shown,
      length-append (entry_bytes e) (layout es),
    )

-- ---- entries one after the other

-- What holds after i bytes of the entries: what the rest does on the stage as it is, and prints at end, is what is left to do.
pub record SentTo (v : ℕ) (s₀ page₀ : List ℕ) (at : ℕ) (es s page : List ℕ) (i end : ℕ) : Type 0 where
  pub within : i ≤ length es
  pub laid : LaidOut (drop i es)
  pub same : length s ≡ length s₀
  pub size : length page ≡ length page₀
  pub room : end + 3 * (length es - i) ≤ length page
  pub stage : (entries_done v s (entries_of (drop i es))).stage ≡ (entries_done v s₀ (entries_of es)).stage
  pub ends : end + length (entries_done v s (entries_of (drop i es))).shown ≡ at + length (entries_done v s₀ (entries_of es)).shown
  pub shown : placed page end (entries_done v s (entries_of (drop i es))).shown ≡ placed page₀ at (entries_done v s₀ (entries_of es)).shown

-- Before the first entry nothing is done, and the loop may begin.
pub sent_none : (v : ℕ) (s page : List ℕ) (at : ℕ) (es : List ℕ) → LaidOut es → at + 3 * length es ≤ length page → SentTo v s page at es s page 0 at
sent_none v s page at es laid room =
    record { within = omega arith; laid = laid; same = refl; size = refl; room = omega arith; stage = refl; ends = refl; shown = refl }

-- The next entry is found, and fits.
pub record NextEntry (es : List ℕ) (i size : ℕ) : Type 0 where
  pub least : 7 ≤ size
  pub fits : i + size ≤ length es
  pub bytes : length (take (i + size - i) (drop i es)) ≡ size
  pub entry : IsEntry (take (i + size - i) (drop i es))

-- An entry's bytes are one entry.
is_entry : (e : Entry) → ValidEntry e → IsEntry (entry_bytes e)
is_entry e v =
    let back : entry_at (entry_bytes e) ≡ e = ap entry_at (sym (append-nil (entry_bytes e))) ∙ (entry_says e v []).entry in
    record { valid = subst ValidEntry (sym back) v; bytes = ap entry_bytes back }

module _ (v : ℕ) (s₀ page₀ : List ℕ) (at : ℕ) (es s page : List ℕ) (i end : ℕ) (so : SentTo v s₀ page₀ at es s page i end) (more : i < length es) where
  -- There are bytes left, so there is an entry to find.
  rest_there : 0 < length (drop i es)
  rest_there = rw length-drop (omega arith)

  -- The code's slice of what is left is all of it.
  whole : take (length es - i) (drop i es) ≡ drop i es
  whole = take_all (length es - i) (drop i es) (rw length-drop (omega arith))

  module _ (size : ℕ) (is : size ≡ size_in (take (length es - i) (drop i es))) where
    -- What is known of the piece that the code takes.
    record Piece (e : Entry) : Type 0 where
      valid : ValidEntry e
      bytes : take (i + size - i) (drop i es) ≡ entry_bytes e
      fits : i + size ≤ length es
      long : size ≡ length (entry_bytes e)
      laid : LaidOut (drop (i + size) es)
      entries : entries_of (drop i es) ≡ e ∷ entries_of (drop (i + size) es)

    -- It is the next entry.
    piece : (e : Entry) × Piece e
    piece =
        let (e, f) = first (drop i es) so.laid rest_there in
        let same : size ≡ size_in (drop i es) = is ∙ ap size_in whole in
        let step : i + size - i ≡ size_in (drop i es) = omega arith in
        let rest : drop (size_in (drop i es)) (drop i es) ≡ drop (i + size) es =
        drop-drop (size_in (drop i es)) i es ∙ ap (λ (k : ℕ). drop (i + k) es) (sym same) in (
          e,
          record {
            valid = (subst AllValid f.entries so.laid.valid).0;
            bytes = ap (λ (k : ℕ). take k (drop i es)) step ∙ f.here;
            fits = omega (arith, f.fits, length-drop i es);
            long = same ∙ f.size;
            laid = subst LaidOut rest f.rest;
            entries = f.entries ∙ ap (λ (l : List ℕ). e ∷ entries_of l) rest;
          },
        )

    -- The size that the code finds is an entry's: the slice up to it is within the bytes, and is one entry.
    pub next_entry : NextEntry es i size
    next_entry =
        let (e, p) = piece in
        record {
          least = omega (arith, p.long, entry_least e);
          fits = p.fits;
          bytes = ap length p.bytes ∙ sym p.long;
          entry = subst IsEntry (sym p.bytes) (is_entry e p.valid);
        }

    -- It is done, and what is left is what is left of all.
    pub sent_more : (s' page' : List ℕ) (end' : ℕ) → length s' ≡ length s → length page' ≡ length page
        → DoneAt (entry_done v s (entry_at (take (i + size - i) (drop i es)))) page end s' page' end'
        → SentTo v s₀ page₀ at es s' page' (i + size) end'
    unfolding entries_done
    sent_more s' page' end' same' size' put = let (e, p) = piece in go e p
      where
        go : (e : Entry) → Piece e → SentTo v s₀ page₀ at es s' page' (i + size) end'
        go e p =
            let back : entry_at (entry_bytes e) ≡ e = ap entry_at (sym (append-nil (entry_bytes e))) ∙ (entry_says e p.valid []).entry in
            let it : entry_at (take (i + size - i) (drop i es)) ≡ e = ap entry_at p.bytes ∙ back in
            let d : Done = entry_done v s e in
            let did : DoneAt d page end s' page' end' = subst (λ (x : Entry). DoneAt (entry_done v s x) page end s' page' end') it put in
            let others : List Entry = entries_of (drop (i + size) es) in
            let now : Done = entries_done v s' others in
            let next : entries_done v d.stage others ≡ now = ap (λ (t : List ℕ). entries_done v t others) (sym did.stage) in
            let left : entries_done v s (entries_of (drop i es)) ≡ entries_done v s (e ∷ others) = ap (entries_done v s) p.entries in
            let lines : (entries_done v s (entries_of (drop i es))).shown ≡ d.shown ++ now.shown =
            ap (λ (x : Done). x.shown) left ∙ ap (λ (x : Done). d.shown ++ x.shown) next in
            let long : length (entries_done v s (entries_of (drop i es))).shown ≡ length d.shown + length now.shown =
            ap length lines ∙ length-append d.shown now.shown in
            let few : length d.shown ≤ 2 * length (entry_bytes e) + 5 = entry_short v s e in
            let least : 7 ≤ length (entry_bytes e) = entry_least e in
            record {
              within = p.fits;
              laid = p.laid;
              same = same' ∙ so.same;
              size = size' ∙ so.size;
              room = omega (arith, did.lines.ends, p.long, p.fits, so.room);
              stage = sym (ap (λ (x : Done). x.stage) next) ∙ sym (ap (λ (x : Done). x.stage) left) ∙ so.stage;
              ends = omega (arith, did.lines.ends, so.ends);
              shown = (λ k. placed (did.lines.shown k) (did.lines.ends k) now.shown)
                  ∙ placed_more page end d.shown now.shown (omega (arith, so.room))
                  ∙ ap (placed page end) (sym lines) ∙ so.shown;
            }

-- All are done.
pub sent_all : (v : ℕ) (s₀ page₀ : List ℕ) (at : ℕ) (es s page : List ℕ) (i end : ℕ) → SentTo v s₀ page₀ at es s page i end → length es ≤ i
    → DoneAt (entries_done v s₀ (entries_of es)) page₀ at s page end
unfolding entries_within entries_done
sent_all v s₀ page₀ at es s page i end so done =
    let gone : drop i es ≡ [] = drop_of_length-le es {i = i} done in
    let nothing : entries_done v s (entries_of (drop i es)) ≡ record { stage = s; shown = [] } =
    ap (λ (l : List ℕ). entries_done v s (entries_of l)) gone in
    let no_lines : (entries_done v s (entries_of (drop i es))).shown ≡ [] = ap (λ (x : Done). x.shown) nothing in
    let no_more : length (entries_done v s (entries_of (drop i es))).shown ≡ 0 = ap length no_lines in
    record {
      stage = sym (ap (λ (x : Done). x.stage) nothing) ∙ so.stage;
      lines = record {
        shown = sym (placed_none page end) ∙ ap (placed page end) (sym no_lines) ∙ so.shown;
        ends = omega (arith, so.ends);
      };
    }
