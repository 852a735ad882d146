-- A frame's bytes say that frame, and bytes of the form of a frame are the spelling of what they say: document 01's table of frames
-- fixes the fields of each kind and their widths, so both follow from the laws of fields (`read_fields`, `spell_read`). Each fact goes
-- over the form of the kind, for the body alone; the head is the same in all.
-- Assumes nothing.
use Prim.Native.Nat.{ℕ, zero, suc}
use mathlib.Core.Path.{◌≡◌, refl, sym, ap, subst⁻¹, ◌∙◌}
use mathlib.Core.Bool.{true}
use mathlib.Core.List.{List, [], ◌∷◌}
use native.Mathlib.Omega.{arith}
use borrow.Author.Tests.{eq-eqb, eqb-true}
use lib.ListN.{length, get_or}
use Rattle.wire.specs.Fields.{Field, field, spell, Sized, Bytes}
use Rattle.wire.specs.inside.Widths.{widths, total_width, fields_at}
use Rattle.wire.proofs.Laws.{number_one, read_fields, spell_read, sized_fields, length_spell}
use Rattle.frame.specs.declared.Report.{Report}
use Rattle.frame.specs.declared.Reports.{Reports}
use Rattle.frame.specs.declared.Body.{Body}
use Rattle.frame.specs.declared.Body.TheVariants.{Plan, Empty, Told}
use Rattle.frame.specs.declared.Frame.{Frame}
use Rattle.frame.specs.Format.{within, length_of, reports_fields, body_fields, fields_of, encode, reports_at, body_as, decode}
use Rattle.frame.specs.Valid.{fits, Valid}
use Rattle.frame.specs.inside.Reading.{Formed}
use Rattle.frame.proofs.Laws.{Form, plan, bare, reports, inside, bounds, body_of_plan, body_of_bare, body_of_reports, length_plan, length_bare}
use Rattle.frame.proofs.Laws.{length_reports, form_of}

-- the widths of what follows the head
abbrev rest : {k : ℕ} → Form k → List ℕ
rest (plan a b) = 8 ∷ []
rest (bare e) = []
rest (reports a b) = 1 ∷ 4 ∷ 8 ∷ 1 ∷ 4 ∷ 8 ∷ 1 ∷ 4 ∷ 8 ∷ []

-- the widths of all fields of a frame: the head's, then those of its form
abbrev whole : {k : ℕ} → Form k → List ℕ
whole f = 1 ∷ 1 ∷ 4 ∷ rest f

-- the widths of a form add up to the length that the table has for the kind
length_whole : (k : ℕ) (f : Form k) → length_of k ≡ total_width (whole f)
length_whole k (plan a b) = length_plan k a b
length_whole k (bare e) = length_bare k e
length_whole k (reports a b) = length_reports k a b

-- a body that was read has the fields that stand there, and is one of its kind
body_of_fields : (k : ℕ) (s : List ℕ) (f : Form k) → (body_fields (body_as k s) ≡ fields_at (rest f) s 6) × (fits k (body_as k s) ≡ true)
body_of_fields k s (plan a b) = rw (body_of_plan k s a b) (refl, inside 1 5 k a b)
body_of_fields k s (bare e) = rw (body_of_bare k s e) (refl, eq-eqb k 6 e)
body_of_fields k s (reports a b) = rw (body_of_reports k s a) (rw (number_one s 6, number_one s 19, number_one s 32), inside 7 8 k a b)

-- a frame that was read has the fields that stand there
decode_fields : (s : List ℕ) (f : Form (get_or s 0 0)) → fields_of (decode s) ≡ fields_at (whole f) s 0
unfolding decode
decode_fields s f = rw (number_one s 0, number_one s 1, (body_of_fields (get_or s 0 0) s f).0) refl

-- bytes of the form of a frame are the spelling of the frame they say
pub respell : (s : List ℕ) → Bytes s → Formed s → encode (decode s) ≡ s
unfolding encode
respell s b h =
    let f = form_of s h in
    ap spell (decode_fields s f) ∙ spell_read (whole f) s b (h.size ∙ length_whole (get_or s 0 0) f)

-- a frame that was read can be written: its body is one of its kind, and its fields fit
pub decode_valid : (s : List ℕ) → Bytes s → Formed s → Valid (decode s)
unfolding decode
decode_valid s b h =
    let f = form_of s h in
    record {
      shape = (body_of_fields (get_or s 0 0) s f).1;
      sized = subst⁻¹ Sized (decode_fields s f) (sized_fields (whole f) s 0 b);
    }

-- the value of the field at a place of a list
abbrev value : ℕ → List Field → ℕ
value i [] = 0
value zero (field w v ∷ fs) = v
value (suc i) (field w v ∷ fs) = value i fs

-- a list of fields without its first, to step over the head
abbrev behind : List Field → List Field
behind [] = []
behind (f ∷ fs) = fs

-- three equal fields make the same report
report_says : (r : Report) {m v p : ℕ} → m ≡ r.mark → v ≡ r.view → p ≡ r.plan → ◌≡◌ {A = Report} (record { mark = m; view = v; plan = p }) r
report_says r a b c = λ i. record { mark = a i; view = b i; plan = c i }

-- bytes whose fields are those of three reports say these three
reports_say : (r : Reports) (s : List ℕ) → fields_at (1 ∷ 4 ∷ 8 ∷ 1 ∷ 4 ∷ 8 ∷ 1 ∷ 4 ∷ 8 ∷ []) s 6 ≡ reports_fields r → reports_at s 6 ≡ r
reports_say r s e =
    let h = report_says r.highest (sym (number_one s 6) ∙ ap (value 0) e) (ap (value 1) e) (ap (value 2) e) in
    let p = report_says r.previous (sym (number_one s 19) ∙ ap (value 3) e) (ap (value 4) e) (ap (value 5) e) in
    let l = report_says r.lock (sym (number_one s 32) ∙ ap (value 6) e) (ap (value 7) e) (ap (value 8) e) in
    λ i. record { highest = h i; previous = p i; lock = l i }

-- bytes whose fields are a body's say that body
body_says : (k : ℕ) (b : Body) (s : List ℕ) → fits k b ≡ true → fields_at (widths (body_fields b)) s 6 ≡ body_fields b → body_as k s ≡ b
body_says k (Plan p) s h e = let (low, high) = bounds 1 5 k h in body_of_plan k s low high ∙ ap (λ (x : ℕ). Plan x) (ap (value 0) e)
body_says k Empty s h e = body_of_bare k s (eqb-true k 6 h)
body_says k (Told r) s h e = let (low, high) = bounds 7 8 k h in body_of_reports k s low ∙ ap (λ (x : Reports). Told x) (reports_say r s e)

-- the length of a frame's fields is its kind's
body_length : (k : ℕ) (b : Body) → fits k b ≡ true → (total_width (1 ∷ 1 ∷ 4 ∷ widths (body_fields b)) ≡ length_of k) × (within 1 8 k ≡ true)
body_length k (Plan p) h = let (low, high) = bounds 1 5 k h in (sym (length_plan k low high), inside 1 8 k (omega arith) (omega arith))
body_length k Empty h = let e = eqb-true k 6 h in (sym (length_bare k e), inside 1 8 k (omega arith) (omega arith))
body_length k (Told r) h = let (low, high) = bounds 7 8 k h in (sym (length_reports k low high), inside 1 8 k (omega arith) (omega arith))

module _ (f : Frame) (v : Valid f) where
  -- the bytes of a valid frame have its fields, so each field can be read off by its place
  same_fields : fields_at (widths (fields_of f)) (encode f) 0 ≡ fields_of f
  unfolding encode
  same_fields = read_fields (fields_of f) v.sized

  -- byte 0 of a frame's bytes is its kind
  pub kind_at : get_or (encode f) 0 0 ≡ f.kind
  kind_at = sym (number_one (encode f) 0) ∙ ap (value 0) same_fields

  -- byte 1 of a frame's bytes is its sender
  pub sender_at : get_or (encode f) 1 0 ≡ f.sender
  sender_at = sym (number_one (encode f) 1) ∙ ap (value 1) same_fields

  -- the bytes of a valid frame say that frame
  pub decode_encoded : decode (encode f) ≡ f
  unfolding decode
  decode_encoded =
      let e = same_fields in
      let b : body_as (get_or (encode f) 0 0) (encode f) ≡ f.body =
      rw kind_at (body_says f.kind f.body (encode f) v.shape (ap (λ (l : List Field). behind (behind (behind l))) e)) in
      λ i. record { kind = kind_at i; sender = sender_at i; view = ap (value 2) e i; body = b i }

  -- the bytes of a valid frame are as many as its kind has
  pub encode_length : length (encode f) ≡ length_of f.kind
  unfolding encode
  encode_length = length_spell (fields_of f) ∙ (body_length f.kind f.body v.shape).0

  -- the bytes of a valid frame pass 9 and 10
  pub encode_formed : Formed (encode f)
  encode_formed =
      record {
        kind = rw kind_at (body_length f.kind f.body v.shape).1;
        size = rw kind_at encode_length;
      }
