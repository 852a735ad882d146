-- Outputs read as their entries, uniquely: 'Entries lie end to end: a recipient byte .., then the frame' (01, Refusals). The first two bytes
-- of an entry tell its recipient and its kind, so also its length; what is left is the next entry. A frame in an entry says itself by
-- `decode_encoded`, and a host entry by the laws of fields.
-- Assumes nothing.
use Prim.Native.Nat.{ℕ, zero, suc, ◌+◌, ◌^◌, ◌≤◌, ◌<◌}
use mathlib.Core.Path.{◌≡◌, refl, sym, ap, ◌∙◌}
use mathlib.Core.List.{List, [], ◌∷◌, ◌++◌, append_assoc, append-nil}
use native.Mathlib.Omega.{arith}
use borrow.Author.Tests.{ne_eqb}
use lib.ListN.{length, get_or, drop, length-append, get_or-append}
use lib.Seq.{take_at, drop-append_seam}
use Rattle.wire.specs.Digits.{number_at}
use Rattle.wire.specs.Fields.{spell}
use Rattle.wire.specs.Placed.{placed}
use Rattle.wire.proofs.Laws.{number_one, fields_spell, length_spell}
use Rattle.wire.proofs.Output.{placed_none, placed_more, length_placed}
use Rattle.frame.specs.declared.Frame.{Frame}
use Rattle.frame.specs.Format.{length_of, encode, decode}
use Rattle.frame.specs.Valid.{Valid}
use Rattle.frame.proofs.Spelling.{kind_at}
use Rattle.frame.proofs.Theorems.{decode_encoded, encode_length, encode_short, encode_head}
use Rattle.entry.specs.declared.Entry.{Entry}
use Rattle.entry.specs.declared.Entry.TheVariants.{ForAll, ForOne, Timer, Decision}
use Rattle.entry.specs.Layout.{host_fields, entry_bytes, layout}
use Rattle.entry.specs.Valid.{ValidEntry, AllValid}
use Rattle.entry.specs.Reading.{frame_in, entry_at, size_at, entries_within, entries_of}
use Rattle.entry.specs.Sentences.{EntriesReadBack, EntriesUnique}

-- what the bytes of an entry say, whatever follows them
pub record Says (e : Entry) (rest : List ℕ) : Type 0 where
  pub entry : entry_at (entry_bytes e ++ rest) ≡ e
  pub size : size_at (entry_bytes e ++ rest) ≡ length (entry_bytes e)

-- a frame after its recipient
module _ (to : ℕ) (f : Frame) (v : Valid f) (rest : List ℕ) where
  -- the second byte of the entry tells how long its frame is
  kind_here : length_of (get_or (to ∷ (encode f ++ rest)) 1 0) ≡ length (encode f)
  kind_here =
      let there : 0 < length (encode f) = omega (arith, encode_head f) in
      ap length_of (get_or-append (encode f) rest 0 0 there ∙ kind_at f v) ∙ sym (encode_length f v)

  -- the frame in the entry is the one that was written
  frame_here : decode (frame_in (to ∷ (encode f ++ rest))) ≡ f
  frame_here = rw kind_here (ap decode (take_at (encode f) rest (length (encode f)) refl) ∙ decode_encoded f v)

-- the fields of a host entry
pub record Host (s : List ℕ) (code view width value : ℕ) : Type 0 where
  pub to_host : get_or s 0 0 ≡ 254
  pub told : get_or s 1 0 ≡ code
  pub view_here : number_at 4 s 2 ≡ view
  pub value_here : number_at width s 6 ≡ value

-- the bytes of a host entry have the four fields that were written
host : (code view width value : ℕ) (rest : List ℕ) → code < 256 → view < 256 ^ 4 → value < 256 ^ width
    → Host (spell (host_fields code view width value) ++ rest) code view width value
host code view width value rest c v x =
    let s = spell (host_fields code view width value) ++ rest in
    let e = fields_spell (host_fields code view width value) [] rest (omega arith, (omega arith, (v, (x, tt)))) in
    record {
      to_host = sym (number_one s 0) ∙ cc;
      told = sym (number_one s 1) ∙ cc;
      view_here = cc;
      value_here = cc;
    }

-- bytes with the fields of a timer entry say that timer, and take 10 bytes
timer_here : (s : List ℕ) (view millis : ℕ) → Host s 11 view 4 millis → (entry_at s ≡ Timer view millis) × (size_at s ≡ 10)
unfolding entry_at size_at
timer_here s view millis h = (simp (h.to_host, h.told, h.view_here, h.value_here) refl, simp (h.to_host, h.told) refl)

-- bytes with the fields of a decision entry say that decision, and take 14 bytes
decision_here : (s : List ℕ) (view plan : ℕ) → Host s 10 view 8 plan → (entry_at s ≡ Decision view plan) × (size_at s ≡ 14)
unfolding entry_at size_at
decision_here s view plan h = (simp (h.to_host, h.told, h.view_here, h.value_here) refl, simp (h.to_host, h.told) refl)

-- The bytes of an entry say that entry and its length.
pub entry_says : (e : Entry) → ValidEntry e → (rest : List ℕ) → Says e rest
unfolding entry_at size_at entry_bytes
entry_says (ForAll f) v rest =
    record {
      entry = ap (λ (g : Frame). ForAll g) (frame_here 255 f v rest);
      size = ap suc (kind_here 255 f v rest);
    }
entry_says (ForOne to f) v rest =
    let here = ne_eqb to 254 (omega arith) in
    let one = ne_eqb to 255 (omega arith) in
    record {
      entry = simp (here, one) (ap (λ (g : Frame). ForOne to g) (frame_here to f v.1 rest));
      size = simp here (ap suc (kind_here to f v.1 rest));
    }
entry_says (Timer view millis) v rest =
    let fields = host_fields 11 view 4 millis in
    let h = timer_here (spell fields ++ rest) view millis (host 11 view 4 millis rest (omega arith) v.0 v.1) in
    record { entry = h.0; size = h.1 ∙ sym (length_spell fields) }
entry_says (Decision view plan) v rest =
    let fields = host_fields 10 view 8 plan in
    let h = decision_here (spell fields ++ rest) view plan (host 10 view 8 plan rest (omega arith) v.0 v.1) in
    record { entry = h.0; size = h.1 ∙ sym (length_spell fields) }

-- An entry has at least its recipient and is at most 46 bytes long.
pub entry_span : (e : Entry) → (1 ≤ length (entry_bytes e)) × (length (entry_bytes e) ≤ 46)
unfolding entry_bytes
entry_span (ForAll f) = (omega arith, omega (arith, encode_short f))
entry_span (ForOne to f) = (omega arith, omega (arith, encode_short f))
entry_span (Timer view millis) = let l = length_spell (host_fields 11 view 4 millis) in (omega arith, omega arith)
entry_span (Decision view plan) = let l = length_spell (host_fields 10 view 8 plan) in (omega arith, omega arith)

-- Entries end to end read back one by one, for any bound on their number that the bytes do not pass.
read_within : (es : List Entry) (bound : ℕ) → AllValid es → length (layout es) ≤ bound → entries_within bound (layout es) ≡ es
unfolding entries_within
read_within [] zero v h = refl
read_within [] (suc bound) v h = refl
read_within (e ∷ es) zero v h = absurd (omega (arith, (entry_span e).0, length-append (entry_bytes e) (layout es)))
read_within (e ∷ es) (suc bound) v h =
    let says = entry_says e v.0 (layout es) in
    let all = length-append (entry_bytes e) (layout es) in
    let least = (entry_span e).0 in
    let there = ne_eqb (length (entry_bytes e ++ layout es)) 0 (omega arith) in
    let next : drop (size_at (entry_bytes e ++ layout es)) (entry_bytes e ++ layout es) ≡ layout es = rw says.size (drop-append_seam (entry_bytes e) (layout es))
    in
    simp (there, says.entry, next) (ap (λ (l : List Entry). e ∷ l) (read_within es bound v.1 (omega arith)))

-- An output that is entries end to end reads as those entries.
pub entries_read_back : EntriesReadBack
entries_read_back es v = read_within es (length (layout es)) v (omega arith)

-- No other entries have the same bytes.
pub entries_unique : EntriesUnique
entries_unique es fs v w e = sym (entries_read_back es v) ∙ (ap entries_of e ∙ entries_read_back fs w)

-- Two lists of entries lie end to end as one list does.
layout_of_append : (es fs : List Entry) → layout (es ++ fs) ≡ layout es ++ layout fs
layout_of_append [] fs = refl
layout_of_append (e ∷ es) fs = rw (append_assoc, layout_of_append es fs)

-- One more entry, put where the entries before it end.
pub layout_more : (o : List ℕ) (at : ℕ) (es : List Entry) (e : Entry) → at ≤ length o
    → placed (placed o at (layout es)) (at + length (layout es)) (entry_bytes e) ≡ placed o at (layout (es ++ (e ∷ [])))
layout_more o at es e h =
    rw (layout_of_append es (e ∷ []), append-nil (entry_bytes e)) (placed_more o at (layout es) (entry_bytes e) h)

-- entries put one after the other
abbrev pub lays : List ℕ → ℕ → List Entry → List ℕ
lays o at [] = o
lays o at (e ∷ es) = lays (placed o at (entry_bytes e)) (at + length (entry_bytes e)) es

-- Entries put one after the other lie end to end.
pub lays_layout : (es : List Entry) (o : List ℕ) (at : ℕ) → at + length (layout es) ≤ length o → lays o at es ≡ placed o at (layout es)
lays_layout [] o at h = sym (placed_none o at)
lays_layout (e ∷ es) o at h =
    let all = length-append (entry_bytes e) (layout es) in
    let same = length_placed o at (entry_bytes e) (omega arith) in
    lays_layout es (placed o at (entry_bytes e)) (at + length (entry_bytes e)) (omega arith)
    ∙ placed_more o at (entry_bytes e) (layout es) (omega arith)
