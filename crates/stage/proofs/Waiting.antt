-- Laws of the frames that wait on a stage: what is read there, what is stored there, and the search for 'the smallest free one' (document 02, wish 2).
-- A place is read by bytes of the stage itself (`Part`), and stored by bytes put one after the other (`Output` of crate wire). The search
-- keeps that the smallest free number from k on is the smallest of all.
-- Assumes nothing.
use Prim.Native.Nat.{ℕ, zero, suc, ◌+◌, ◌-◌, ◌<◌, ◌≤◌}
use mathlib.Core.Path.{◌≡◌, refl, sym, ap, subst, ◌∙◌}
use mathlib.Core.Bool.{Bool, true, false, cond}
use mathlib.Core.List.{List, ◌∷◌, ◌++◌}
use native.Mathlib.Nat.{add-zero}
use native.Mathlib.Numerals.{add-one, sub-one}
use native.Mathlib.Omega.{arith}
use native.Mathlib.Decide.{dec_le, ℕ_discrete}
use borrow.Author.Tests.{lt-ltb, le-ltb}
use lib.Dec.{eqb}
use lib.ListN.{length, get_or, take, drop, set, length-set, length-drop}
use lib.Seq.{take_all, take-take, take_at, length-take-le, drop-drop}
use Rattle.wire.specs.Fields.{Bytes}
use Rattle.wire.specs.Placed.{placed}
use Rattle.wire.proofs.Output.{bytes_take, bytes_drop, placed_one, placed_next}
use Rattle.stage.specs.Stage.{place_count, place_size, place_of, part}
use Rattle.stage.specs.Stage.{waiting_in, is_free, with_free, free_from, first_free}
use Rattle.stage.specs.Lines.{waiting_now}
use Rattle.stage.specs.Sentences.{SmallestFree}
use Rattle.stage.specs.inside.Parts.{frame_most, held_length}
use Rattle.stage.proofs.Part.{part_get, length_part, bytes_part, drop_part}

-- ---- what is read at a place

-- No frame waits where the place's first byte is 0.
pub free_byte : (s : List ℕ) (k : ℕ) → is_free s k ≡ eqb (get_or s (place_of k) 0) 0
unfolding is_free
free_byte s k = rw (part_get (place_of k) place_size 0 s (omega arith), add-zero)

-- The second byte is the writer.
pub writer_byte : (s : List ℕ) (k : ℕ) → (waiting_now s k).writer ≡ get_or s (place_of k + 1) 0
unfolding waiting_in
writer_byte s k = part_get (place_of k) place_size 1 s (omega arith)

-- The frame is bytes, where the stage is.
pub bytes_waiting : (s : List ℕ) (k : ℕ) → Bytes s → Bytes (waiting_now s k).bytes
unfolding waiting_in
bytes_waiting s k b =
    let p : List ℕ = part (place_of k) place_size s in
    bytes_take (get_or p 0 0 - 1) (drop 3 p) (bytes_drop 3 p (bytes_part (place_of k) place_size s b))

-- ---- how long a frame is

-- No more than the place has room for.
pub held_most : (mark : ℕ) → frame_most < mark - 1 → frame_most ≡ held_length mark
unfolding held_length
held_most mark h = rw (lt-ltb 46 mark (omega arith))

-- Else one less than the place's first byte.
pub held_rest : (mark : ℕ) → mark - 1 ≤ frame_most → mark - 1 ≡ held_length mark
unfolding held_length
held_rest mark h = rw (le-ltb 46 mark (omega arith))

-- Bytes of which a place has room for 45 only.
held_within : (mark : ℕ) (l : List ℕ) → frame_most ≤ length l → take (mark - 1) (take frame_most l) ≡ take (held_length mark) l
held_within mark l room =
    elim (dec_le (mark - 1) frame_most) [
      | yes h ↦ rw (← held_rest mark h) (take-take (mark - 1) frame_most l h)
      | no g ↦ let all : length (take frame_most l) ≤ mark - 1 = rw (length-take-le frame_most l room) (omega arith) in
          rw (← held_most mark (omega arith)) (take_all (mark - 1) (take frame_most l) all)
    ]

-- The frame of a place is as many bytes, from the fourth on, as its first byte says, and no more than the place has.
pub frame_bytes : (s : List ℕ) (k : ℕ) → place_of k + place_size ≤ length s
    → (waiting_now s k).bytes ≡ take (held_length (get_or s (place_of k) 0)) (drop (place_of k + 3) s)
unfolding waiting_in part
frame_bytes s k h =
    let room : frame_most ≤ length (drop (place_of k + 3) s) = rw length-drop (omega arith) in
    let mark : get_or (part (place_of k) place_size s) 0 0 ≡ get_or s (place_of k) 0 = part_get (place_of k) place_size 0 s (omega arith) ∙ rw add-zero in
    let rest : drop 3 (part (place_of k) place_size s) ≡ part (place_of k + 3) frame_most s = drop_part (place_of k) 3 frame_most s in
    (λ i. take (mark i - 1) (rest i)) ∙ held_within (get_or s (place_of k) 0) (drop (place_of k + 3) s) room

-- ---- bytes copied

-- A copy of the bytes that a place holds, into bytes that may be longer: it begins with its frame.
pub frame_copied : (s a rest : List ℕ) (k len : ℕ) → place_of k + place_size ≤ length s → (len ≡ held_length (get_or s (place_of k) 0)) × (len ≤ frame_most)
    → a ≡ part (place_of k + 3) len s → (take len (a ++ rest) ≡ (waiting_now s k).bytes) × (len ≤ frame_most)
unfolding part
frame_copied s a rest k len room (held, few) is =
    let size : length a ≡ len = ap length is ∙ length_part (place_of k + 3) len s (omega arith) in (
      take_at a rest len size ∙ is ∙ ap (λ (m : ℕ). take m (drop (place_of k + 3) s)) held ∙ sym (frame_bytes s k room),
      few,
    )

-- Bytes that were lent at a place and given back as others: those are put there.
pub copied_at : (o a o' : List ℕ) (at : ℕ) → o' ≡ a → take at o ++ (o' ++ drop (at + length a - at) (drop at o)) ≡ placed o at a
unfolding placed
copied_at o a o' at e =
    let size : at + length a - at ≡ length a = omega arith in
    rw (e, size, drop-drop) refl

-- ---- what is stored at a place

-- 'a dropped one frees its number': one byte stored.
pub free_stored : (s : List ℕ) (k : ℕ) → place_of k < length s → set s (place_of k) 0 ≡ with_free s k
free_stored s k h = placed_one s (place_of k) 0 h

-- Three bytes stored, and the frame put behind them.
pub waiting_stored : (s : List ℕ) (at writer to : ℕ) (a : List ℕ) → at + 3 ≤ length s
    → placed (set (set (set s at (length a + 1)) (at + 1) writer) (at + 2) to) (at + 3) a ≡ placed s at (suc (length a) ∷ writer ∷ to ∷ a)
waiting_stored s at writer to a h =
    let s₁ = set s at (length a + 1) in
    let s₂ = set s₁ (at + 1) writer in
    let l₁ : length s₁ ≡ length s = length-set s at (length a + 1) in
    let l₂ : length s₂ ≡ length s₁ = length-set s₁ (at + 1) writer in
    let second : at + 2 ≡ at + 1 + 1 = omega arith in
    let third : at + 3 ≡ at + 2 + 1 = omega arith in
    ap (λ (n : ℕ). placed (set s₂ (at + 2) to) n a) third
    ∙ placed_next s₂ (at + 2) to a (omega arith)
    ∙ ap (λ (n : ℕ). placed s₂ n (to ∷ a)) second
    ∙ placed_next s₁ (at + 1) writer (to ∷ a) (omega arith)
    ∙ placed_next s at (length a + 1) (writer ∷ to ∷ a) (omega arith)
    ∙ rw add-one

-- What is stored is bytes, where the frame is.
pub bytes_stored : (writer to : ℕ) (a : List ℕ) → length a ≤ frame_most → writer < 256 → to < 256 → Bytes a → Bytes (suc (length a) ∷ writer ∷ to ∷ a)
bytes_stored writer to a few w t b zero = omega arith
bytes_stored writer to a few w t b (suc zero) = w
bytes_stored writer to a few w t b (suc (suc zero)) = t
bytes_stored writer to a few w t b (suc (suc (suc i))) = b i

-- ---- the smallest free number

-- Of no numbers it is the one behind them.
free_none : (s : List ℕ) (k more : ℕ) → more ≡ 0 → free_from s k more ≡ k
unfolding free_from
free_none s k more e = ap (free_from s k) e

-- It is the first of some numbers, where that is free.
free_here : (s : List ℕ) (k more : ℕ) → 0 < more → is_free s k ≡ true → free_from s k more ≡ k
unfolding free_from
free_here s k zero h e = absurd (omega arith)
free_here s k (suc more) h e = ap (λ (b : Bool). cond b k (free_from s (suc k) more)) e

-- Else it is the smallest of the others.
free_behind : (s : List ℕ) (k more : ℕ) → 0 < more → is_free s k ≡ false → free_from s k more ≡ free_from s (suc k) (more - 1)
unfolding free_from
free_behind s k zero h e = absurd (omega arith)
free_behind s k (suc more) h e = rw (e, sub-one)

-- No frame waits at the number found.
found_free : (s : List ℕ) (k more : ℕ) → free_from s k more < k + more → is_free s (free_from s k more) ≡ true
unfolding free_from
found_free s k zero h = absurd (omega arith)
found_free s k (suc more) h = go (is_free s k) refl h (λ g. found_free s (suc k) more g)
  where
    go : (t : Bool) → is_free s k ≡ t → cond t k (free_from s (suc k) more) < k + suc more
        → (free_from s (suc k) more < suc k + more → is_free s (free_from s (suc k) more) ≡ true)
        → is_free s (cond t k (free_from s (suc k) more)) ≡ true
    go true e g later = e
    go false e g later = later (omega arith)

-- A frame waits at each number before it.
smaller_taken : (s : List ℕ) (k more j : ℕ) → k ≤ j → j < free_from s k more → is_free s j ≡ false
unfolding free_from
smaller_taken s k zero j low h = absurd (omega arith)
smaller_taken s k (suc more) j low h = go (is_free s k) refl h (λ g i. smaller_taken s (suc k) more j g i)
  where
    go : (t : Bool) → is_free s k ≡ t → j < cond t k (free_from s (suc k) more) → (suc k ≤ j → j < free_from s (suc k) more → is_free s j ≡ false)
        → is_free s j ≡ false
    go true e g later = absurd (omega arith)
    go false e g later =
        elim (ℕ_discrete k j) [ yes same ↦ subst (λ (n : ℕ). is_free s n ≡ false) same e | no other ↦ later (omega arith) g ]

-- It is no further than the numbers go.
found_within : (s : List ℕ) (k more : ℕ) → free_from s k more ≤ k + more
unfolding free_from
found_within s k zero = omega arith
found_within s k (suc more) = go (is_free s k) (found_within s (suc k) more)
  where
    go : (t : Bool) → free_from s (suc k) more ≤ suc k + more → cond t k (free_from s (suc k) more) ≤ k + suc more
    go true h = omega arith
    go false h = omega arith

-- 'a new frame gets the smallest free one'
pub smallest_free : SmallestFree
smallest_free =
    record {
      free = λ s h. found_free s 0 place_count h;
      smaller = λ s k h. smaller_taken s 0 place_count k (omega arith) h;
      most = λ s. found_within s 0 place_count;
    }

-- ---- the search

-- The search has come to number k: the smallest free one from there on is the smallest of all.
pub record SearchedTo (s : List ℕ) (k : ℕ) : Type 0 where
  pub same : free_from s k (place_count - k) ≡ first_free s

-- It begins at number 0.
pub searched_none : (s : List ℕ) → SearchedTo s 0
searched_none s = record { same = refl }

-- It ends at a free number.
pub searched_free : (s : List ℕ) (k : ℕ) → SearchedTo s k → k < place_count → is_free s k ≡ true → k ≡ first_free s
searched_free s k h more e = sym (free_here s k (place_count - k) (omega arith) e) ∙ h.same

-- A number that is not free is passed.
pub searched_more : (s : List ℕ) (k : ℕ) → SearchedTo s k → k < place_count → is_free s k ≡ false → SearchedTo s (k + 1)
searched_more s k h more e =
    let next : suc k ≡ k + 1 = omega arith in
    let left : place_count - k - 1 ≡ place_count - (k + 1) = omega arith in
    record { same = sym (free_behind s k (place_count - k) (omega arith) e ∙ (λ i. free_from s (next i) (left i))) ∙ h.same }

-- 'where 256 wait' none is free.
pub searched_all : (s : List ℕ) (k : ℕ) → SearchedTo s k → k ≡ place_count → place_count ≡ first_free s
searched_all s k h all = sym (free_none s k (place_count - k) (omega arith) ∙ all) ∙ h.same
