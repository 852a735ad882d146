-- Laws of a piece of input that is fed to a program line by line. The loop keeps that what is printed so far, with what the rest of the
-- piece prints, is what the whole piece prints, and the like of the state and of the line begun.
-- Assumes nothing.
use Prim.Native.Nat.{ℕ, suc, ◌+◌, ◌≤◌, ◌<◌}
use mathlib.Core.Path.{◌≡◌, refl, sym, ap, ◌∙◌}
use mathlib.Core.List.{List, [], ◌∷◌, ◌++◌, append_assoc, append-nil}
use native.Mathlib.Omega.{arith}
use lib.ListN.{length, take, drop, length-append, length-drop, drop_of_length-le}
use lib.Seq.{drop-drop, length-take-le, take_all, take_at}
use Rattle.wire.specs.Placed.{placed}
use Rattle.lines.specs.Lines.{ended, begun, Program, after, prints}
use Rattle.lines.specs.inside.Lines.{first_line}
use Rattle.lines.specs.Steps.{Fed, Finished}
use Rattle.lines.specs.inside.Steps.{OnPage, Enough, Answered}
use Rattle.lines.proofs.Lines.{ended_first, begun_first, ended_none, begun_none}

-- What a page holds up to where lines put on it end.
pub shown_to : (lines page : List ℕ) (at : ℕ) (page' : List ℕ) (next : ℕ) → OnPage lines page at page' next → at ≤ length page
    → take next page' ≡ take at page ++ lines
unfolding placed
shown_to lines page at page' next put room =
    let rest = drop (at + length lines) page in
    let long : length (take at page ++ lines) ≡ next =
    length-append (take at page) lines ∙ ap (λ (k : ℕ). k + length lines) (length-take-le at page room) ∙ sym put.ends in
    ap (take next) (put.shown ∙ sym (append_assoc (take at page) lines rest)) ∙ take_at (take at page ++ lines) rest next long

module _ {S : Type 0} (p : Program S) (room : ℕ) (s₀ : S) (line₀ piece : List ℕ) where
  -- What holds at place i of the piece.
  pub record FedTo (s : S) (line said : List ℕ) (i : ℕ) : Type 0 where
    pub left : after p s (ended line (drop i piece)) ≡ after p s₀ (ended line₀ piece)
    pub kept : take room (begun line (drop i piece)) ≡ take room (begun line₀ piece)
    pub says : said ++ prints p s (ended line (drop i piece)) ≡ prints p s₀ (ended line₀ piece)

  -- At the beginning nothing is said, and the whole piece is to come.
  pub fed_none : FedTo s₀ line₀ [] 0
  fed_none = record { left = refl; kept = refl; says = refl }

  module _ (s : S) (line said : List ℕ) (i : ℕ) (so : FedTo s line said i) where
    first : List ℕ
    first = first_line (drop i piece)

    rest : ℕ → List ℕ
    rest k = drop (i + k + 1) piece

    rest_is : (k : ℕ) → drop (suc k) (drop i piece) ≡ drop (i + k + 1) piece
    rest_is k =
        let same : i + suc k ≡ i + k + 1 = omega arith in
        drop-drop (suc k) i piece ∙ ap (λ (n : ℕ). drop n piece) same

    -- A line has ended, and is answered by what is kept of it.
    pub fed_line : Enough p room → (end : ℕ) → end ≡ i + length (first_line (drop i piece)) → end < length piece → (keeps : List ℕ)
        → keeps ≡ take room (line ++ first_line (drop i piece)) → (page : List ℕ) (at : ℕ) → said ≡ take at page → at ≤ length page
        → (s' : S) (page' : List ℕ) (next : ℕ) → Answered p s keeps page at s' page' next → FedTo s' [] (take next page') (end + 1)
    unfolding after prints
    fed_line enough end is within keeps kept page at here fits s' page' next answered =
        let text = line ++ first_line (drop i piece) in
        let long : length (first_line (drop i piece)) < length (drop i piece) = rw length-drop (omega arith) in
        let then : drop (suc (length (first_line (drop i piece)))) (drop i piece) ≡ drop (end + 1) piece =
        rest_is (length (first_line (drop i piece))) ∙ ap (λ (k : ℕ). drop (k + 1) piece) (sym is) in
        let lines : ended line (drop i piece) ≡ text ∷ ended [] (drop (end + 1) piece) =
        ended_first line (drop i piece) long ∙ ap (λ (l : List ℕ). text ∷ ended [] l) then in
        let state : s' ≡ p.next s text = answered.left ∙ ap (p.next s) kept ∙ enough.next s text in
        let spoken : p.says s keeps ≡ p.says s text = ap (p.says s) kept ∙ enough.says s text in
        let shown : take next page' ≡ said ++ p.says s text =
        shown_to (p.says s keeps) page at page' next answered.lines fits ∙ (λ k. sym here k ++ spoken k) in
        record {
          left = ap (λ (x : S). after p x (ended [] (drop (end + 1) piece))) state ∙ ap (after p s) (sym lines) ∙ so.left;
          kept = ap (take room) (sym (begun_first line (drop i piece) long ∙ ap (begun []) then)) ∙ so.kept;
          says = (λ k. shown k ++ prints p (state k) (ended [] (drop (end + 1) piece)))
              ∙ append_assoc said (p.says s text) (prints p (p.next s text) (ended [] (drop (end + 1) piece)))
              ∙ ap (λ (l : List (List ℕ)). said ++ prints p s l) (sym lines)
              ∙ so.says;
        }

    -- The piece ends, and the line goes on.
    pub fed_end : length piece ≤ i + length (first_line (drop i piece)) → (keeps : List ℕ) → keeps ≡ take room (line ++ first_line (drop i piece))
        → Fed p room s₀ line₀ piece s keeps said
    unfolding after prints
    fed_end within keeps kept =
        let long : length (drop i piece) ≤ length (first_line (drop i piece)) = rw length-drop (omega arith) in
        let none_ended : ended line (drop i piece) ≡ [] = ended_none line (drop i piece) long in
        record {
          left = ap (after p s) (sym none_ended) ∙ so.left;
          kept = kept ∙ ap (take room) (sym (begun_none line (drop i piece) long)) ∙ so.kept;
          says = sym (append-nil said) ∙ ap (λ (l : List (List ℕ)). said ++ prints p s l) (sym none_ended) ∙ so.says;
        }

    -- The piece ends with a line's end, or is empty.
    pub fed_done : length piece ≤ i → length line ≤ room → Fed p room s₀ line₀ piece s line said
    unfolding first_line
    fed_done done few =
        let gone : drop i piece ≡ [] = drop_of_length-le piece {i = i} done in
        let same : line ≡ take room (line ++ first_line (drop i piece)) =
        sym (take_all room line few) ∙ ap (take room) (sym (append-nil line) ∙ ap (λ (l : List ℕ). line ++ first_line l) (sym gone)) in
        fed_end (omega arith) line same

-- ---- the input's end

module _ {S : Type 0} (p : Program S) (s : S) where
  -- 'after a final 0a there is no further line'
  pub finished_none : Finished p s [] s []
  unfolding after prints
  finished_none = record { left = refl; says = refl }

  -- 'A line ends .. at the input's end'.
  pub finished_line : (line page : List ℕ) → 0 < length line → (s' : S) (page' : List ℕ) (next : ℕ) → Answered p s line page 0 s' page' next
      → Finished p s line s' (take next page')
  unfolding after prints
  finished_line [] page there s' page' next answered = absurd (omega arith)
  finished_line (b ∷ line) page there s' page' next answered = record {
    left = answered.left;
    says = shown_to (p.says s (b ∷ line)) page 0 page' next answered.lines (omega arith) ∙ sym (append-nil (p.says s (b ∷ line)));
  }
