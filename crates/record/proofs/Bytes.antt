-- Laws of bytes put at a place: which bytes stay, which numbers stay, and what is read where something was put. And of a lent part:
-- a number in it is a number of the whole.
-- Assumes nothing.
use Prim.Native.Nat.{ℕ, zero, suc, ◌+◌, ◌*◌, ◌^◌, ◌≤◌, ◌<◌}
use mathlib.Core.Path.{◌≡◌, refl, ap, sym, ◌∙◌}
use mathlib.Core.Bool.{Bool, true, false}
use mathlib.Core.List.{List, [], ◌∷◌, ◌++◌}
use native.Mathlib.Nat.{add_assoc}
use native.Mathlib.Omega.{arith}
use lib.Dec.{ltb}
use borrow.Author.Tests.{ltb-true, ltb-false}
use lib.ListN.{length, get_or, take, drop, set, replicate, length-replicate, get_or-replicate, get_or-eq_default}
use lib.Seq.{sets, get_or-set_other, get_or-take, get_or-drop, length-take-le}
use Rattle.wire.specs.Digits.{number_at, digits}
use Rattle.wire.specs.Placed.{placed}
use Rattle.wire.proofs.Laws.{number_digits}
use Rattle.wire.proofs.Output.{placed_sets}

-- ---- bytes that stay

-- a byte before or behind those that are stored one by one
pub sets_other : (vs l : List ℕ) (i k : ℕ) → (i ≤ k → i + length vs ≤ k) → get_or (sets l i vs) k 0 ≡ get_or l k 0
sets_other [] l i k h = refl
sets_other (v ∷ vs) l i k h =
    sets_other vs (set l i v) (suc i) k (λ (g : suc i ≤ k). let x : i + suc (length vs) ≤ k = h (omega arith) in omega arith)
    ∙ get_or-set_other l i k v 0 (λ (e : k ≡ i). let x : i + suc (length vs) ≤ k = h (omega arith) in omega arith)

-- a byte before or behind what is put
pub placed_other : (o : List ℕ) (at : ℕ) (a : List ℕ) (k : ℕ) → at + length a ≤ length o → (at ≤ k → at + length a ≤ k)
    → get_or (placed o at a) k 0 ≡ get_or o k 0
placed_other o at a k room h = rw (← placed_sets o at a room) (sets_other a o at k h)

-- ---- numbers

-- a number is made of its bytes
pub number_same : (w : ℕ) (s t : List ℕ) (at : ℕ) → ((j : ℕ) → j < w → get_or s (at + j) 0 ≡ get_or t (at + j) 0)
    → number_at w s at ≡ number_at w t at
unfolding number_at
number_same zero s t at h = refl
number_same (suc w) s t at h =
    let e = number_same w s t at (λ j k. h j (omega arith)) in
    let g = h w (omega arith) in
    λ i. e i * 256 + g i

-- a number that is put is read
pub number_put : (w : ℕ) (o : List ℕ) (at v : ℕ) → at + w ≤ length o → v < 256 ^ w → number_at w (placed o at (digits w v)) at ≡ v
unfolding placed
number_put w o at v room small =
    let t : List ℕ = drop (at + length (digits w v)) o in
    ap (number_at w (take at o ++ (digits w v ++ t))) (sym (length-take-le at o (omega arith))) ∙ number_digits w v (take at o) t small

-- a number whose bytes are all 0
pub number_zero : (w : ℕ) (s : List ℕ) (at : ℕ) → ((j : ℕ) → j < w → get_or s (at + j) 0 ≡ 0) → number_at w s at ≡ 0
unfolding number_at
number_zero zero s at h = refl
number_zero (suc w) s at h =
    let e = number_zero w s at (λ j k. h j (omega arith)) in
    let g = h w (omega arith) in
    λ i. e i * 256 + g i

-- ---- a lent part, `&s[a..a + k]`

-- a byte of the part is the byte of the whole, a further on
pub byte_part : (a k : ℕ) (s : List ℕ) (j : ℕ) → j < k → get_or (take k (drop a s)) j 0 ≡ get_or s (a + j) 0
byte_part a k s j h = get_or-take k (drop a s) j 0 h ∙ get_or-drop a s j 0

-- the same of a number that lies in the part
pub number_part : (w a k : ℕ) (s : List ℕ) (j : ℕ) → j + w ≤ k → number_at w (take k (drop a s)) j ≡ number_at w s (a + j)
unfolding number_at
number_part zero a k s j h = refl
number_part (suc w) a k s j h =
    let e = number_part w a k s j (omega arith) in
    let g : get_or (take k (drop a s)) (j + w) 0 ≡ get_or s (a + j + w) 0 =
    byte_part a k s (j + w) (omega arith) ∙ ap (λ (x : ℕ). get_or s x 0) (sym (add_assoc a j w)) in
    λ i. e i * 256 + g i

-- ---- zeros

-- zeros, also behind the last
pub zeros_at : (n k : ℕ) → ◌≡◌ {A = ℕ} (get_or (replicate n 0) k 0) 0
zeros_at n k = go (ltb k n) refl
  where
    go : (t : Bool) → ltb k n ≡ t → ◌≡◌ {A = ℕ} (get_or (replicate n 0) k 0) 0
    go true e = get_or-replicate n k 0 0 (ltb-true k n e)
    go false e =
        let h : length {A = ℕ} (replicate n 0) ≤ k = rw (length-replicate n) (ltb-false k n e) in
        get_or-eq_default (replicate n 0) 0 {n = k} h
