-- Laws of the size of an entry, case by case: for the code's branches.
-- Assumes nothing.
use Prim.Native.Nat.{ℕ, ◌+◌, ◌-◌, ◌≤◌, ◌<◌}
use mathlib.Core.Path.{◌≡◌, refl, sym, ap, subst, ◌∙◌}
use mathlib.Core.Bool.{Bool, true, false, cond}
use mathlib.Core.List.{List, [], ◌∷◌}
use native.Mathlib.Omega.{arith}
use native.Mathlib.Decide.{dec_le}
use borrow.Author.Tests.{eq-eqb, ne_eqb, le-leb, lt-leb}
use lib.Dec.{eqb, leb}
use lib.ListN.{length, get_or, take, drop, length-drop}
use lib.Seq.{take_all}
use Rattle.frame.specs.Format.{length_of}
use Rattle.frame.proofs.Laws.{length_plan, length_bare, length_reports, length_low, length_high}
use Rattle.entry.specs.Walk.{host_size, frame_size, size_by, size_here, size_in}

-- No frame is longer than 45 bytes.
pub length_short : (k : ℕ) → length_of k ≤ 45
length_short k =
    elim (dec_le k 0) [
      | yes h ↦ subst (λ (m : ℕ). m ≤ 45) (sym (length_low k (omega arith))) (omega arith)
      | no g ↦ elim (dec_le k 5) [
        | yes h ↦ subst (λ (m : ℕ). m ≤ 45) (sym (length_plan k (omega arith) h)) (omega arith)
        | no h ↦ elim (dec_le k 6) [
          | yes e ↦ subst (λ (m : ℕ). m ≤ 45) (sym (length_bare k (omega arith))) (omega arith)
          | no e ↦ elim (dec_le k 8) [
            | yes u ↦ subst (λ (m : ℕ). m ≤ 45) (sym (length_reports k (omega arith) u)) (omega arith)
            | no u ↦ subst (λ (m : ℕ). m ≤ 45) (sym (length_high k (omega arith))) (omega arith)
          ]
        ]
      ]
    ]

-- ---- by two bytes

-- A timer entry, second byte 0b, has 10 bytes.
pub host_timer : (told : ℕ) → told ≡ 11 → host_size told ≡ 10
unfolding host_size
host_timer told e = simp (eq-eqb told 11 e) refl

-- A decision entry, second byte 0a, has 14 bytes.
pub host_decision : (told : ℕ) → told ≡ 10 → host_size told ≡ 14
unfolding host_size
host_decision told e = simp (ne_eqb told 11 (omega arith), eq-eqb told 10 e) refl

-- No host entry has another second byte, so its size is 0.
pub host_other : (told : ℕ) → (told ≡ 11 → ⊥) → (told ≡ 10 → ⊥) → host_size told ≡ 0
unfolding host_size
host_other told a b = simp (ne_eqb told 11 a, ne_eqb told 10 b) refl

-- An unknown kind has no frame, so its size is 0.
pub frame_none : (kind : ℕ) → length_of kind ≡ 0 → frame_size kind ≡ 0
unfolding frame_size
frame_none kind e = simp (eq-eqb (length_of kind) 0 e) refl

-- A known kind has a recipient byte and its frame.
pub frame_some : (kind : ℕ) → (length_of kind ≡ 0 → ⊥) → frame_size kind ≡ 1 + length_of kind
unfolding frame_size
frame_some kind h = simp (ne_eqb (length_of kind) 0 h) refl

-- First byte fe: the second byte is a host entry's.
pub by_host : (to next : ℕ) → to ≡ 254 → size_by to next ≡ host_size next
unfolding size_by
by_host to next e = simp (eq-eqb to 254 e) refl

-- Any other first byte is a vault's or all vaults': the second byte is a frame's kind.
pub by_the_frame : (to next : ℕ) → (to ≡ 254 → ⊥) → size_by to next ≡ frame_size next
unfolding size_by
by_the_frame to next h = simp (ne_eqb to 254 h) refl

-- ---- by some bytes

-- Where all the bytes that the first two tell are there, the entry has that size.
pub in_whole : (s : List ℕ) → size_here s ≤ length s → size_in s ≡ size_here s
unfolding size_in
in_whole s h = simp (le-leb (size_here s) (length s) h) refl

-- Where some of them are missing, no whole entry stands there, and the size is 0.
pub in_cut : (s : List ℕ) → length s < size_here s → size_in s ≡ 0
unfolding size_in
in_cut s h = simp (lt-leb (size_here s) (length s) h) refl

-- No entry begins with one byte and a 0, so none has less than two bytes.
by_nothing : (to : ℕ) → size_by to 0 ≡ 0
unfolding size_by host_size frame_size
by_nothing to = go (eqb to 254)
  where
    go : (b : Bool) → cond b (host_size 0) (frame_size 0) ≡ 0
    go true = host_other 0 (λ (e : 0 ≡ 11). omega arith) (λ (e : 0 ≡ 10). omega arith)
    go false = frame_none 0 (length_low 0 (omega arith))

-- Of less than two bytes the second reads as 0.
second_missing : (s : List ℕ) → length s < 2 → get_or s 1 0 ≡ 0
second_missing [] h = refl
second_missing (x ∷ []) h = refl
second_missing (x ∷ y ∷ s) h = absurd (omega arith)

-- So less than two bytes hold no entry.
pub in_short : (s : List ℕ) → length s < 2 → size_in s ≡ 0
in_short s h =
    let none_here : size_here s ≡ 0 = ap (λ (k : ℕ). size_by (get_or s 0 0) k) (second_missing s h) ∙ by_nothing (get_or s 0 0) in
    in_whole s (omega arith) ∙ none_here

-- At the end, and beyond it.
pub in_none : (s : List ℕ) (at : ℕ) → length s ≤ at → size_in (drop at s) ≡ 0
in_none s at h = in_short (drop at s) (rw length-drop (omega arith))

-- The rest of some bytes, as it is lent.
pub in_rest : (s : List ℕ) (at : ℕ) → size_in (take (length s - at) (drop at s)) ≡ size_in (drop at s)
in_rest s at = ap size_in (take_all (length s - at) (drop at s) (rw length-drop (omega arith)))

-- An entry has at most 46 bytes.
pub in_most : (s : List ℕ) → size_in s ≤ 46
unfolding size_in size_by host_size frame_size
in_most s = go (leb (size_here s) (length s)) (eqb (get_or s 0 0) 254)
  where
    n : ℕ
    n = get_or s 1 0

    host : (a b : Bool) → cond a 10 (cond b 14 0) ≤ 46
    host true b = omega arith
    host false true = omega arith
    host false false = omega arith

    frame : (a : Bool) → cond a 0 (1 + length_of n) ≤ 46
    frame true = omega arith
    frame false = omega (arith, length_short n)

    here : (b : Bool) → cond b (host_size n) (frame_size n) ≤ 46
    here true = host (eqb n 11) (eqb n 10)
    here false = frame (eqb (length_of n) 0)

    go : (a b : Bool) → cond a (cond b (host_size n) (frame_size n)) 0 ≤ 46
    go true b = here b
    go false b = omega arith
