-- Laws of a line that is taken from a piece of input byte by byte: what is kept so far, with the line's bytes to come, is what is to be
-- kept.
-- Assumes nothing.
use Prim.Native.Nat.{ℕ, zero, suc, ◌+◌, ◌≤◌, ◌<◌}
use mathlib.Core.Path.{◌≡◌, refl, sym, ap, ◌∙◌}
use mathlib.Core.List.{List, [], ◌∷◌, ◌++◌, append_assoc, append-nil}
use native.Mathlib.Omega.{arith}
use borrow.Author.Tests.{eq-eqb, ne_eqb}
use lib.ListN.{length, get_or, take, drop, set, length-append, length-set, drop_of_length-le}
use lib.Seq.{drop-cons, length-take-le, take-suc-set, take_all, take_at}
use Rattle.lines.specs.inside.Lines.{first_line}
use Rattle.lines.specs.inside.Steps.{KeptOf}
use Rattle.lines.proofs.Lines.{kept_more}

-- ---- one byte

module _ (text : List ℕ) (len b : ℕ) where
  -- There is room: the byte is stored behind what is kept.
  pub kept_stored : len < length text → KeptOf (take len text ++ (b ∷ [])) (set text len b) (len + 1)
  kept_stored low =
      let next : len + 1 ≡ suc len = omega arith in
      let size : length (set text len b) ≡ length text = length-set text len b in
      let here : take (len + 1) (set text len b) ≡ take len text ++ (b ∷ []) = rw next (take-suc-set text len b low) in
      let few : length (take len text ++ (b ∷ [])) ≤ length (set text len b) =
      omega (arith, length-append (take len text) (b ∷ []), length-take-le len text (omega arith)) in
      record { kept = here ∙ sym (take_all (length (set text len b)) (take len text ++ (b ∷ [])) few); few = omega arith }

  -- There is none: the line has more than is kept of it, and nothing changes.
  pub kept_full : length text ≤ len → len ≤ length text → KeptOf (take len text ++ (b ∷ [])) text len
  kept_full high low =
      let long : length (take len text) ≡ length text = length-take-le len text low ∙ (omega arith) in
      record { kept = sym (take_at (take len text) (b ∷ []) (length text) long); few = low }

-- A part is no longer than the whole.
pub take_short : (n : ℕ) (l : List ℕ) → length (take n l) ≤ length l
take_short zero l = omega arith
take_short (suc n) [] = omega arith
take_short (suc n) (b ∷ l) = omega (arith, take_short n l)

-- No more is kept of a line than there is.
pub kept_short : (line text : List ℕ) (len : ℕ) → KeptOf line text len → len ≤ length line
kept_short line text len keeps =
    let here : length (take len text) ≡ len = length-take-le len text keeps.few in
    omega (arith, ap length keeps.kept, take_short (length text) line)

-- ---- a line

-- What holds at place i of the piece.
pub record TakenTo (text₀ : List ℕ) (len : ℕ) (piece : List ℕ) (from : ℕ) (text : List ℕ) (to i : ℕ) : Type 0 where
  pub size : length text ≡ length text₀
  pub within : i ≤ length piece
  pub few : to ≤ length text
  pub place : i + length (first_line (drop i piece)) ≡ from + length (first_line (drop from piece))
  pub kept : take (length text₀) (take to text ++ first_line (drop i piece)) ≡ take (length text₀) (take len text₀ ++ first_line (drop from piece))

-- At the beginning nothing is taken, and the line is to come.
pub taken_none : (text : List ℕ) (len : ℕ) (piece : List ℕ) (from : ℕ) → len ≤ length text → from ≤ length piece → TakenTo text len piece from text len from
taken_none text len piece from few within = record { size = refl; within = within; few = few; place = refl; kept = refl }

module _ (text₀ : List ℕ) (len : ℕ) (piece : List ℕ) (from : ℕ) (text : List ℕ) (to i : ℕ) (so : TakenTo text₀ len piece from text to i) where
  -- Nothing is to come: all is kept.
  nothing_more : first_line (drop i piece) ≡ []
      → KeptOf (take len text₀ ++ first_line (drop from piece)) text to × (i ≡ from + length (first_line (drop from piece)))
  nothing_more none_left =
      let few : length (take to text) ≤ length text₀ = omega (arith, length-take-le to text so.few) in (
        record {
          kept = sym (take_all (length text₀) (take to text) few)
              ∙ ap (take (length text₀)) (sym (append-nil (take to text)) ∙ ap (λ (l : List ℕ). take to text ++ l) (sym none_left))
              ∙ so.kept
              ∙ ap (λ (k : ℕ). take k (take len text₀ ++ first_line (drop from piece))) (sym so.size);
          few = so.few;
        },
        omega (arith, so.place, ap length none_left),
      )

  -- The piece ends.
  pub taken_all : length piece ≤ i → KeptOf (take len text₀ ++ first_line (drop from piece)) text to × (i ≡ from + length (first_line (drop from piece)))
  unfolding first_line
  taken_all done = nothing_more (ap first_line (drop_of_length-le piece {i = i} done))

  module _ (more : i < length piece) where
    here : drop i piece ≡ get_or piece i 0 ∷ drop (suc i) piece
    here = drop-cons piece i 0 more

    -- 'A line ends at byte 0a'.
    pub taken_end : get_or piece i 0 ≡ 10 → KeptOf (take len text₀ ++ first_line (drop from piece)) text to × (i ≡ from + length (first_line (drop from piece)))
    unfolding first_line
    taken_end end = nothing_more (ap first_line here ∙ simp (eq-eqb (get_or piece i 0) 10 end))

    -- Any other byte is the line's.
    pub taken_more : (get_or piece i 0 ≡ 10 → ⊥) → (text' : List ℕ) (to' : ℕ) → length text' ≡ length text
        → KeptOf (take to text ++ (get_or piece i 0 ∷ [])) text' to'
        → TakenTo text₀ len piece from text' to' (i + 1)
    unfolding first_line
    taken_more other text' to' same keeps =
        let b = get_or piece i 0 in
        let next : suc i ≡ i + 1 = omega arith in
        let goes_on : first_line (b ∷ drop (suc i) piece) ≡ b ∷ first_line (drop (suc i) piece) = simp (ne_eqb b 10 other) in
        let line : first_line (drop i piece) ≡ b ∷ first_line (drop (i + 1) piece) =
        ap first_line here ∙ goes_on ∙ ap (λ (k : ℕ). b ∷ first_line (drop k piece)) next in
        let rest = first_line (drop (i + 1) piece) in
        let size : length text' ≡ length text₀ = same ∙ so.size in
        record {
          size = size;
          within = omega arith;
          few = keeps.few;
          place = omega (arith, so.place, ap length line);
          kept = ap (λ (l : List ℕ). take (length text₀) (l ++ rest)) (keeps.kept ∙ ap (λ (k : ℕ). take k (take to text ++ (b ∷ []))) size)
              ∙ kept_more (length text₀) (take to text ++ (b ∷ [])) rest
              ∙ ap (take (length text₀)) (append_assoc (take to text) (b ∷ []) rest ∙ ap (λ (l : List ℕ). take to text ++ l) (sym line))
              ∙ so.kept;
        }
