-- Laws of digits, numbers and fields. 'Numbers are big-endian' (01, Frames) holds for one byte, four and eight alike, so each
-- law is over the width, by induction: one more byte is one more digit to the base 256. Spelling a number and reading it back
-- gives the number (`number_digits`); reading bytes and spelling the number gives the bytes (`digits_number`); both carry over
-- to a list of fields (`read_fields`, `spell_read`).
-- Assumes nothing.
use mathlib.Core.Path.{◌≡◌, refl, ap, ◌∙◌}
use mathlib.Core.List.{List, [], ◌∷◌, ◌++◌, append_assoc, append-nil}
use Prim.Native.Nat.{ℕ, zero, suc, ◌+◌, ◌*◌, ◌/◌, ◌%◌, ◌^◌, ◌<◌, ◌≤◌}
use native.Mathlib.Nat.{add-zero, add_assoc, pow-suc, pow-zero, div-add-mod', div-lt_iff_lt-mul, pow-le-pow_right}
use native.Mathlib.Numerals.{add-one}
use native.Mathlib.Omega.{arith}
use lib.ListN.{length, get_or, take, drop, length-append, length-drop}
use lib.Arith.{digits_div, digits_mod}
use lib.Seq.{get_or_at, take-add, take-suc, drop-drop, get_or-drop, take_all}
use Rattle.wire.specs.Digits.{number_at, digits}
use Rattle.wire.specs.Fields.{Field, field, spell, Sized, Bytes}
use Rattle.wire.specs.inside.Widths.{widths, total_width, fields_at}

-- a number is spelt in just as many bytes as its width
pub length_digits : (w n : ℕ) → length (digits w n) ≡ w
unfolding digits
length_digits zero n = refl
length_digits (suc w) n = simp (length-append, length_digits w (n / 256)) (add-one w)

-- a number of i digits, i below 8, has room for one more in 64 bits
pub room : (i n : ℕ) → i < 8 → n < 256 ^ i → n * 256 + 255 < 2 ^ 64
room i n h b = let p : 256 ^ i ≤ 256 ^ 7 = pow-le-pow_right {n = 256} (omega arith) {i = i} {j = 7} (omega arith) in omega arith

-- a number with one digit more fits one byte more, for the loop that reads numbers
pub more : (i n b : ℕ) → n < 256 ^ i → b < 256 → n * 256 + b < 256 ^ (i + 1)
more i n b h k = rw (add-one, pow-suc) (omega arith)

-- a number that has been read fits its width
pub number_below : (w : ℕ) (s : List ℕ) (at : ℕ) → Bytes s → number_at w s at < 256 ^ w
unfolding number_at
number_below zero s at h = rw pow-zero (omega arith)
number_below (suc w) s at h = rw add-one at (more w (number_at w s at) (get_or s (at + w) 0) (number_below w s at h) (h (at + w)))

-- a number that has been spelt is read back
pub number_digits : (w n : ℕ) (p t : List ℕ) → n < 256 ^ w → number_at w (p ++ (digits w n ++ t)) (length p) ≡ n
unfolding number_at digits
number_digits zero n p t h = let k : n < 1 = rw pow-zero at h in omega arith
number_digits (suc w) n p t h =
    let q : ℕ = n / 256 in
    let r : ℕ = n % 256 in
    let k : q < 256 ^ w = (div-lt_iff_lt-mul {k = 256} {x = n} {y = 256 ^ w} (omega arith)).1 (rw pow-suc at h) in
    let e : p ++ ((digits w q ++ (r ∷ [])) ++ t) ≡ p ++ (digits w q ++ (r ∷ t)) = ap (λ (l : List ℕ). p ++ l) (append_assoc (digits w q) (r ∷ []) t) in
    let g : get_or (p ++ (digits w q ++ (r ∷ t))) (length p + w) 0 ≡ r =
    rw (← append_assoc p (digits w q) (r ∷ t))
    (get_or_at (p ++ digits w q) r t 0 (length p + w) (length-append p (digits w q) ∙ ap (λ (m : ℕ). length p + m) (length_digits w q))) in
    rw (e, number_digits w q p (r ∷ t) k, g) (div-add-mod' n 256)

-- bytes that have been read are spelt as they stood
pub digits_number : (w : ℕ) (s : List ℕ) (at : ℕ) → Bytes s → at + w ≤ length s → digits w (number_at w s at) ≡ take w (drop at s)
unfolding number_at digits
digits_number zero s at b h = refl
digits_number (suc w) s at b h =
    let m : ℕ = number_at w s at in
    let inside : w < length (drop at s) = rw length-drop (omega arith) in
    rw (digits_div m (b (at + w)), digits_mod m (b (at + w)), digits_number w s at b (omega arith), take-suc (drop at s) w 0 inside, get_or-drop)

-- fields take as many bytes as their widths add up to
pub length_spell : (fs : List Field) → length (spell fs) ≡ total_width (widths fs)
length_spell [] = refl
length_spell (field w v ∷ fs) = rw (length-append, length_digits, length_spell fs)

-- fields that have been spelt are read back wherever they stand among other bytes
pub fields_spell : (fs : List Field) (p t : List ℕ) → Sized fs → fields_at (widths fs) (p ++ (spell fs ++ t)) (length p) ≡ fs
fields_spell [] p t h = refl
fields_spell (field w v ∷ fs) p t h =
    let e : (digits w v ++ spell fs) ++ t ≡ digits w v ++ (spell fs ++ t) = append_assoc (digits w v) (spell fs) t in
    let l : length (p ++ digits w v) ≡ length p + w = length-append p (digits w v) ∙ ap (λ (m : ℕ). length p + m) (length_digits w v) in
    let rest : fields_at (widths fs) (p ++ (digits w v ++ (spell fs ++ t))) (length p + w) ≡ fs =
    rw (← l, ← append_assoc p (digits w v) (spell fs ++ t)) (fields_spell fs (p ++ digits w v) t h.1) in
    rw (e, number_digits w v p (spell fs ++ t) h.0, rest)

-- fields that have been read anywhere in some bytes are spelt as they stood
pub spell_fields : (ws s : List ℕ) (at : ℕ) → Bytes s → at + total_width ws ≤ length s → spell (fields_at ws s at) ≡ take (total_width ws) (drop at s)
spell_fields [] s at b h = refl
spell_fields (w ∷ ws) s at b h =
    rw (digits_number w s at b (omega arith), spell_fields ws s (at + w) b (omega arith), take-add, drop-drop)

-- one byte is its own number
pub number_one : (s : List ℕ) (at : ℕ) → number_at 1 s at ≡ get_or s at 0
unfolding number_at
number_one s at = rw (add-zero) (omega arith)

-- fields that have been spelt are read back
pub read_fields : (fs : List Field) → Sized fs → fields_at (widths fs) (spell fs) 0 ≡ fs
read_fields fs h = rw append-nil at (fields_spell fs [] [] h)

-- a whole string of bytes that has been read is spelt as it stood
pub spell_read : (ws s : List ℕ) → Bytes s → length s ≡ total_width ws → spell (fields_at ws s 0) ≡ s
spell_read ws s b e = spell_fields ws s 0 b (omega arith) ∙ take_all (total_width ws) s (omega arith)

-- two lists of fields one after the other are spelt end to end
pub spell_append : (fs gs : List Field) → spell (fs ++ gs) ≡ spell fs ++ spell gs
spell_append [] gs = refl
spell_append (field w v ∷ fs) gs = rw (append_assoc, spell_append fs gs)

-- fields that have been read fit their widths
pub sized_fields : (ws s : List ℕ) (at : ℕ) → Bytes s → Sized (fields_at ws s at)
sized_fields [] s at b = tt
sized_fields (w ∷ ws) s at b = (number_below w s at b, sized_fields ws s (at + w) b)

-- bytes before bytes are bytes
pub bytes_append : (a b : List ℕ) → Bytes a → Bytes b → Bytes (a ++ b)
bytes_append [] b p q i = q i
bytes_append (x ∷ a) b p q zero = p zero
bytes_append (x ∷ a) b p q (suc i) = bytes_append a b (λ j. p (suc j)) q i

-- what is spelt is bytes, whether or not it fits
pub bytes_digits : (w n : ℕ) → Bytes (digits w n)
unfolding digits
bytes_digits zero n i = omega arith
bytes_digits (suc w) n i = bytes_append (digits w (n / 256)) (n % 256 ∷ []) (bytes_digits w (n / 256)) last i
  where
    last : Bytes (n % 256 ∷ [])
    last zero = omega arith
    last (suc i) = omega arith

-- spelt fields are bytes, whether or not they fit
pub bytes_spell : (fs : List Field) → Bytes (spell fs)
bytes_spell [] i = omega arith
bytes_spell (field w v ∷ fs) i = bytes_append (digits w v) (spell fs) (bytes_digits w v) (bytes_spell fs) i

-- eight bytes are four and four
pub number_halves : (s : List ℕ) (at : ℕ) → number_at 8 s at ≡ number_at 4 s at * 4294967296 + number_at 4 s (at + 4)
unfolding number_at
number_halves s at =
    omega (arith, at₄ 0, at₄ 1, at₄ 2, at₄ 3)
  where
    at₄ : (j : ℕ) → get_or s (at + 4 + j) 0 ≡ get_or s (at + (4 + j)) 0
    at₄ j = ap (λ (n : ℕ). get_or s n 0) (add_assoc at 4 j)
