-- Laws of the stage's parts. A part that bytes are put beside stays as it was; the part that they are put in has them. So a record, a place and
-- the liar are changed apart from each other, and what is put is what is read again.
-- Assumes nothing.
use Prim.Native.Nat.{ℕ, suc, ◌+◌, ◌-◌, ◌≤◌, ◌<◌}
use mathlib.Core.Path.{◌≡◌, refl, sym, ap, subst, ◌∙◌}
use mathlib.Core.Logic.{◌≢◌}
use mathlib.Core.Bool.{cond}
use mathlib.Core.List.{List, [], ◌∷◌, ◌++◌, append_assoc, append-nil}
use mathlib.Core.Option.{Option, none, some}
use native.Mathlib.Decide.{dec_le}
use native.Mathlib.Omega.{arith}
use borrow.Author.Tests.{ne_eqb}
use lib.Dec.{eqb}
use lib.ListN.{length, get_or, take, drop, length-append, length-drop}
use lib.Seq.{length-take-le, take-append-le, drop-append-le, take-append-add, drop-append-add, take_at, drop_at, take-take, drop-drop, take-add}
use Rattle.wire.specs.Placed.{placed}
use Rattle.wire.proofs.Output.{length_placed}
use Rattle.record.specs.Size.{record_size}
use Rattle.stage.specs.Stage.{place_count, place_size, place_of, liar_place, record_place, stage_size, part, record_of, with_record, liar_in, with_liar}
use Rattle.stage.specs.Stage.{Waiting, waiting_bytes, waiting_in, is_free, waiting_at, with_waiting, with_free}

-- ---- parts of any bytes

-- A part of the first b bytes is a part of them all.
take_within : (a n b : ℕ) (s : List ℕ) → a + n ≤ b → b ≤ length s → take n (drop a (take b s)) ≡ take n (drop a s)
take_within a n b s within size =
    let split : b ≡ a + (b - a) = omega arith in
    ap (λ (k : ℕ). take n (drop a (take k s))) split ∙ ap (λ (l : List ℕ). take n (drop a l)) (take-add a (b - a) s)
    ∙ ap (take n) (drop_at (take a s) (take (b - a) (drop a s)) a (length-take-le a s (omega arith)))
    ∙ take-take n (b - a) (drop a s) (omega arith)

module _ (s : List ℕ) (b : ℕ) (x : List ℕ) (fits : b + length x ≤ length s) where
  -- The bytes before those that are put have their length.
  front : length (take b s) ≡ b
  front = length-take-le b s (omega arith)

  -- A part that ends before the bytes put stays.
  pub part_before : (a n : ℕ) → a + n ≤ b → part a n (placed s b x) ≡ part a n s
  unfolding part placed
  part_before a n before =
      let rest = x ++ drop (b + length x) s in
      let long : n ≤ length (drop a (take b s)) = omega (arith, length-drop a (take b s), front) in
      ap (take n) (drop-append-le a (take b s) rest (omega (arith, front))) ∙ take-append-le n (drop a (take b s)) rest long
      ∙ take_within a n b s before (omega arith)

  -- A part that begins behind them stays.
  pub part_behind : (a n : ℕ) → b + length x ≤ a → part a n (placed s b x) ≡ part a n s
  unfolding part placed
  part_behind a n behind =
      let j = a - (b + length x) in
      let at : a ≡ length (take b s ++ x) + j = omega (arith, length-append (take b s) x, front) in
      let same : b + length x + j ≡ a = omega arith in
      ap (take n) (ap (λ (k : ℕ). drop k (take b s ++ (x ++ drop (b + length x) s))) at
      ∙ ap (drop (length (take b s ++ x) + j)) (sym (append_assoc (take b s) x (drop (b + length x) s)))
      ∙ drop-append-add (take b s ++ x) (drop (b + length x) s) j
      ∙ drop-drop j (b + length x) s ∙ ap (λ (k : ℕ). drop k s) same)

  -- The part that they are put in begins with them.
  pub part_of_put : (m : ℕ) → part b (length x + m) (placed s b x) ≡ x ++ part (b + length x) m s
  unfolding part placed
  part_of_put m =
      ap (take (length x + m)) (drop_at (take b s) (x ++ drop (b + length x) s) b front) ∙ take-append-add x (drop (b + length x) s) m

-- ---- records, the liar and places, apart from each other

-- Of two numbers that differ, the one that is not above is below.
lower : (a b : ℕ) → a ≢ b → (suc a ≤ b → ⊥) → b < a
lower a b other not-above = go (dec_le (suc b) a)
  where
    between : (suc a ≤ b → ⊥) → (suc b ≤ a → ⊥) → a ≡ b
    between f g = omega arith

    go : Dec (suc b ≤ a) → b < a
    go (yes below) = below
    go (no not-below) = absurd (other (between not-above not-below))

-- What waits, by a place's bytes.
abbrev place_says : List ℕ → Option Waiting
place_says p = cond (eqb (get_or p 0 0) 0) none (some (waiting_in p))

-- The bytes of a waiting frame say it, whatever follows them.
says_waiting : (w : Waiting) (rest : List ℕ) → place_says (waiting_bytes w ++ rest) ≡ some w
unfolding waiting_bytes waiting_in
says_waiting w rest =
    let len = length w.bytes in
    let one : suc len - 1 ≡ len = omega arith in
    let bytes : take (suc len - 1) (w.bytes ++ rest) ≡ w.bytes = ap (λ (n : ℕ). take n (w.bytes ++ rest)) one ∙ take_at w.bytes rest len refl in
    rw (ne_eqb (suc len) 0 (λ (e : suc len ≡ 0). absurd (omega arith)), bytes) refl

-- A place's bytes decide what waits there.
waiting_by : (k : ℕ) (s t : List ℕ) → part (place_of k) place_size s ≡ part (place_of k) place_size t → waiting_at s k ≡ waiting_at t k
unfolding waiting_at is_free
waiting_by k s t same = ap place_says same

-- So they do whether it is free.
free_by : (k : ℕ) (s t : List ℕ) → part (place_of k) place_size s ≡ part (place_of k) place_size t → is_free s k ≡ is_free t k
unfolding is_free
free_by k s t same = ap (λ (p : List ℕ). eqb (get_or p 0 0) 0) same

-- The liar's byte decides who is declared.
liar_by : (s t : List ℕ) → part liar_place 1 s ≡ part liar_place 1 t → liar_in s ≡ liar_in t
liar_by s t same = ap (λ (p : List ℕ). get_or p 0 0) same

module _ (s : List ℕ) (size : length s ≡ stage_size) where
  -- ---- another record

  module _ (v : ℕ) (low : v ≤ 3) (rec : List ℕ) (long : length rec ≡ record_size) where
    -- A record has room where it lies.
    record_fits : record_place v + length rec ≤ length s
    record_fits = omega arith

    -- The stage keeps its size.
    pub record_sized : length (with_record s v rec) ≡ stage_size
    record_sized = length_placed s (record_place v) rec record_fits ∙ size

    -- The record that is put is the vault's.
    pub record_put : record_of (with_record s v rec) v ≡ rec
    unfolding part
    record_put =
        let whole : length rec + 0 ≡ record_size = omega arith in
        subst (λ (n : ℕ). part (record_place v) n (with_record s v rec) ≡ rec) whole
        (part_of_put s (record_place v) rec record_fits 0 ∙ append-nil rec)

    -- The others' records stay.
    pub record_other : (w : ℕ) → w ≤ 3 → v ≢ w → record_of (with_record s v rec) w ≡ record_of s w
    record_other w few other = go (dec_le (suc v) w)
      where
        go : Dec (suc v ≤ w) → record_of (with_record s v rec) w ≡ record_of s w
        go (yes above) = part_behind s (record_place v) rec record_fits (record_place w) record_size (omega arith)
        go (no below) =
            let less : w < v = lower v w other below in part_before s (record_place v) rec record_fits (record_place w) record_size (omega arith)

    -- What waits stays.
    pub record_waiting : (k : ℕ) → k < place_count → waiting_at (with_record s v rec) k ≡ waiting_at s k
    record_waiting k few =
        waiting_by k (with_record s v rec) s (part_before s (record_place v) rec record_fits (place_of k) place_size (omega arith))

    -- Who is declared stays.
    pub record_liar : liar_in (with_record s v rec) ≡ liar_in s
    record_liar = liar_by (with_record s v rec) s (part_before s (record_place v) rec record_fits liar_place 1 (omega arith))

  -- ---- bytes put in a place

  module _ (k : ℕ) (low : k < place_count) (x : List ℕ) (few : length x ≤ place_size) where
    -- They have room.
    place_fits : place_of k + length x ≤ length s
    place_fits = omega arith

    -- The stage keeps its size.
    pub place_sized : length (placed s (place_of k) x) ≡ stage_size
    place_sized = length_placed s (place_of k) x place_fits ∙ size

    -- The records stay.
    pub place_record : (v : ℕ) → record_of (placed s (place_of k) x) v ≡ record_of s v
    place_record v = part_behind s (place_of k) x place_fits (record_place v) record_size (omega arith)

    -- Who is declared stays.
    pub place_liar : liar_in (placed s (place_of k) x) ≡ liar_in s
    place_liar = liar_by (placed s (place_of k) x) s (part_behind s (place_of k) x place_fits liar_place 1 (omega arith))

    -- What waits elsewhere stays.
    pub place_other : (j : ℕ) → j < place_count → k ≢ j → waiting_at (placed s (place_of k) x) j ≡ waiting_at s j
    place_other j less other = waiting_by j (placed s (place_of k) x) s (go (dec_le (suc k) j))
      where
        go : Dec (suc k ≤ j) → part (place_of j) place_size (placed s (place_of k) x) ≡ part (place_of j) place_size s
        go (yes above) = part_behind s (place_of k) x place_fits (place_of j) place_size (omega arith)
        go (no below) = let less : j < k = lower k j other below in part_before s (place_of k) x place_fits (place_of j) place_size (omega arith)

    -- The place begins with them.
    pub place_begins : part (place_of k) place_size (placed s (place_of k) x) ≡ x ++ part (place_of k + length x) (place_size - length x) s
    place_begins =
        let whole : length x + (place_size - length x) ≡ place_size = omega arith in
        subst (λ (n : ℕ). part (place_of k) n (placed s (place_of k) x) ≡ x ++ part (place_of k + length x) (place_size - length x) s) whole
        (part_of_put s (place_of k) x place_fits (place_size - length x))

  -- A frame that is put waits.
  pub waiting_put : (k : ℕ) → k < place_count → (w : Waiting) → length w.bytes ≤ 45 → waiting_at (with_waiting s k w) k ≡ some w
  unfolding waiting_at is_free waiting_bytes
  waiting_put k low w few =
      let long : length (waiting_bytes w) ≡ suc (suc (suc (length w.bytes))) = refl in
      ap place_says (place_begins k low (waiting_bytes w) (omega arith))
      ∙ says_waiting w (part (place_of k + length (waiting_bytes w)) (place_size - length (waiting_bytes w)) s)

  -- A number that is freed has no frame.
  pub waiting_freed : (k : ℕ) → k < place_count → waiting_at (with_free s k) k ≡ none
  unfolding waiting_at is_free
  waiting_freed k low =
      ap place_says (place_begins k low (0 ∷ []) (omega arith))

  -- ---- a liar declared

  module _ (v : ℕ) where
    -- The byte has room.
    liar_fits : liar_place + length (suc v ∷ []) ≤ length s
    liar_fits = omega arith

    -- The stage keeps its size.
    pub liar_sized : length (with_liar s v) ≡ stage_size
    liar_sized = length_placed s liar_place (suc v ∷ []) liar_fits ∙ size

    -- It is the one.
    pub liar_put : liar_in (with_liar s v) ≡ suc v
    liar_put = ap (λ (p : List ℕ). get_or p 0 0) (part_of_put s liar_place (suc v ∷ []) liar_fits 0)

    -- The records stay.
    pub liar_record : (w : ℕ) → record_of (with_liar s v) w ≡ record_of s w
    liar_record w = part_behind s liar_place (suc v ∷ []) liar_fits (record_place w) record_size (omega arith)

    -- What waits stays.
    pub liar_waiting : (k : ℕ) → k < place_count → waiting_at (with_liar s v) k ≡ waiting_at s k
    liar_waiting k low = waiting_by k (with_liar s v) s (part_before s liar_place (suc v ∷ []) liar_fits (place_of k) place_size (omega arith))
