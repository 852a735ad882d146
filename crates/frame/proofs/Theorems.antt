-- What holds of every frame and of every string of bytes, of the definitions alone (01, Frames and Refusals). What is written reads back
-- as the same frame, and accepted bytes are the only spelling of their frame: a frame's fields and its bytes determine each other
-- (`Spelling`), and an accepted reading is one where each of the four groups of rows gives nothing (`Laws`).
-- Assumes nothing.
use Prim.Native.Nat.{ℕ, ◌≤◌}
use mathlib.Core.Path.{◌≡◌, refl, sym, ap, subst, ◌∙◌}
use mathlib.Core.Bool.{Bool, true, false, cond}
use mathlib.Core.List.{List, ◌∷◌, ◌++◌}
use native.Mathlib.Omega.{arith}
use borrow.Author.Tests.{eqb-true}
use lib.Dec.{eqb}
use lib.ListN.{length, get_or}
use Rattle.wire.specs.Fields.{Bytes}
use Rattle.wire.specs.inside.Widths.{widths, total_width}
use Rattle.wire.proofs.Laws.{length_spell, bytes_spell}
use Rattle.frame.specs.declared.Body.{Body}
use Rattle.frame.specs.declared.Body.TheVariants.{Plan, Empty, Told}
use Rattle.frame.specs.declared.Frame.{Frame}
use Rattle.frame.specs.Refusal.{Accepted, Refused}
use Rattle.frame.specs.Format.{length_of, body_fields, fields_of, encode, decode}
use Rattle.frame.specs.Valid.{Valid}
use Rattle.frame.specs.Refusal.{first, form_rows, link_rows, content_rows, leader_rows, refusal, read_frame}
use Rattle.frame.specs.Sentences.{FramesReadBack, OneSpelling}
use Rattle.frame.proofs.Laws.{first_none, first_both, formed, form_passes}
use Rattle.frame.proofs.Spelling as spelling

-- What is known of accepted bytes: they say the frame, and no group of rows is given.
pub record Passed (s : List ℕ) (link n own : ℕ) (f : Frame) : Type 0 where
  pub said : decode s ≡ f
  pub form : first (form_rows s) ≡ 0
  pub link_passed : first (link_rows (get_or s 1 0) link n own) ≡ 0
  pub content : first (content_rows f) ≡ 0
  pub leader : first (leader_rows f n own) ≡ 0

-- An answer that accepts comes from a table that gives 0, and is the frame that was read.
accepted : (b : Bool) (k : ℕ) (g f : Frame) → eqb k 0 ≡ b → cond b (Accepted g) (Refused k) ≡ Accepted f → (k ≡ 0) × (g ≡ f)
accepted true k g f t h = (eqb-true k 0 t, cc)
accepted false k g f t h = let z : ◌≡◌ {A = ℕ} 0 1 = cc in absurd (omega arith)

-- An accepted reading is of the frame that the bytes say, and no row of 9 to 15, 21 and 22 is given.
pub passed : (s : List ℕ) (link n own : ℕ) (f : Frame) → read_frame s link n own ≡ Accepted f → Passed s link n own f
unfolding read_frame refusal
passed s link n own f e =
    let g = decode s in
    let l = link_rows (get_or s 1 0) link n own in
    let h = accepted (eqb (refusal s link n own) 0) (refusal s link n own) g f refl e in
    let a = first_both (form_rows s) (l ++ (content_rows g ++ leader_rows g n own)) (omega arith) h.0 in
    let b = first_both l (content_rows g ++ leader_rows g n own) (omega arith) a.1 in
    let d = first_both (content_rows g) (leader_rows g n own) (omega arith) b.1 in
    record {
      said = h.1;
      form = a.0;
      link_passed = b.0;
      content = subst (λ (x : Frame). first (content_rows x) ≡ 0) h.1 d.0;
      leader = subst (λ (x : Frame). first (leader_rows x n own) ≡ 0) h.1 d.1;
    }

-- The bytes of a valid frame say that frame.
pub decode_encoded : (f : Frame) → Valid f → decode (encode f) ≡ f
decode_encoded = spelling.decode_encoded

-- A written frame reads back as the same frame, wherever link, content and leader pass.
pub read_back : FramesReadBack
unfolding read_frame refusal
read_back f link n own v l c m =
    let h = spelling.encode_formed f v in
    let form : first (form_rows (encode f)) ≡ 0 = form_passes (encode f) h in
    let z : first (form_rows (encode f) ++ (link_rows f.sender link n own ++ (content_rows f ++ leader_rows f n own))) ≡ 0 =
    first_none (form_rows (encode f)) (link_rows f.sender link n own ++ (content_rows f ++ leader_rows f n own)) (omega arith) form
    ∙ (first_none (link_rows f.sender link n own) (content_rows f ++ leader_rows f n own) (omega arith) l
    ∙ (first_none (content_rows f) (leader_rows f n own) (omega arith) c ∙ m)) in
    rw (spelling.sender_at f v, decode_encoded f v, z)

-- Accepted bytes are the only spelling of their frame.
pub only_spelling : OneSpelling
only_spelling s link n own f b e =
    let p = passed s link n own f e in
    sym (spelling.respell s b (formed s p.form)) ∙ ap encode p.said

-- An accepted frame can be written: its body is one of its kind, and its fields fit.
pub accepted_valid : (s : List ℕ) (link n own : ℕ) (f : Frame) → Bytes s → read_frame s link n own ≡ Accepted f → Valid f
accepted_valid s link n own f b e =
    let p = passed s link n own f e in
    subst Valid p.said (spelling.decode_valid s b (formed s p.form))

-- The bytes of a valid frame are as many as the table's column 'Length' has for its kind.
pub encode_length : (f : Frame) → Valid f → length (encode f) ≡ length_of f.kind
encode_length = spelling.encode_length

-- No frame is longer than 45 bytes.
pub encode_short : (f : Frame) → length (encode f) ≤ 45
unfolding encode
encode_short f = rw (length_spell (fields_of f)) (by_body f.body)
  where
    by_body : (b : Body) → total_width (1 ∷ 1 ∷ 4 ∷ widths (body_fields b)) ≤ 45
    by_body (Plan p) = omega arith
    by_body Empty = omega arith
    by_body (Told r) = omega arith

-- No frame is shorter than its head, 6 bytes.
pub encode_head : (f : Frame) → 6 ≤ length (encode f)
unfolding encode
encode_head f = omega (arith, length_spell (fields_of f))

-- What is written is bytes.
pub encoded_bytes : (f : Frame) → Bytes (encode f)
unfolding encode
encoded_bytes f = bytes_spell (fields_of f)
