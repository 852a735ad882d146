-- Laws of the loop that feeds a piece of input to a program over lines, and of the input's end, for a program that says its numbers
-- (`Sizes`). The lines of a piece have room on the page: what is on it, and the share of what is left of the line and of the piece, is never
-- more than the share of a line kept and a whole piece. So one answer more always fits.
-- Assumes nothing.
use Prim.Native.Nat.{ℕ, ◌+◌, ◌*◌, ◌-◌, ◌≤◌, ◌<◌}
use mathlib.Core.Path.{◌≡◌, refl, sym, ap, subst, ◌∙◌}
use mathlib.Core.List.{List, [], ◌++◌}
use native.Mathlib.Nat.{mul-add, mul-le-mul_left}
use native.Mathlib.Omega.{arith}
use lib.ListN.{length, take, drop, length-append}
use lib.Seq.{length-take-le}
use Rattle.lines.specs.Lines.{Program}
use Rattle.lines.specs.Steps.{Fed, Finished}
use Rattle.lines.specs.inside.Lines.{first_line}
use Rattle.lines.specs.inside.Steps.{KeptOf, Enough, Answered}
use Rattle.lines.specs.inside.Sizes.{Sizes, page_of}
use Rattle.lines.proofs.Lines.{end_within}
use Rattle.lines.proofs.Taking.{kept_short}
use Rattle.lines.proofs.Feeding.{FedTo, fed_none, fed_line, fed_end, fed_done, finished_none, finished_line}

-- A share of what is spent next, taken from the share of all that may yet be spent, leaves the share of the rest.
share_paid : (share at spend rest left all next : ℕ) → at + share * left ≤ all → spend + rest ≤ left → next ≤ at + share * spend
    → next + share * rest ≤ all
share_paid share at spend rest left all next room paid few =
    omega (arith, mul-add share spend rest, mul-le-mul_left share paid)

module _ {S : Type 0} (p : Program S) (z : Sizes) where
  -- ---- a piece

  -- What holds at place i of the piece: what is kept of the line, and what is on the page.
  pub record FeedTo (s₀ : S) (line₀ piece : List ℕ) (s : S) (text page : List ℕ) (kept at i : ℕ) : Type 0 where
    pub fed : FedTo p z.room s₀ line₀ piece s (take kept text) (take at page) i
    pub within : i ≤ length piece
    pub few : kept ≤ z.room
    pub room : at + z.share * (kept + (length piece - i)) ≤ z.share * (z.room + z.piece)

  -- At the beginning of a piece: the line is what earlier pieces left, the page is empty, and all lines have room.
  pub feed_none : (s : S) (text page piece : List ℕ) (len : ℕ) → len ≤ z.room → length piece ≤ z.piece
      → FeedTo s (take len text) piece s text page len 0 0
  feed_none s text page piece len few small =
      let least : len + (length piece - 0) ≤ z.room + z.piece = omega arith in
      record {
        fed = fed_none p z.room s (take len text) piece;
        within = omega arith;
        few = few;
        room = omega (arith, mul-le-mul_left z.share least);
      }

  module _ {s₀ : S} {line₀ piece : List ℕ} {s : S} {text page : List ℕ} {kept at i : ℕ} (so : FeedTo s₀ line₀ piece s text page kept at i)
      (text_size : length text ≡ z.room) (page_long : length page ≡ page_of z) where
    -- A line's bytes are taken from the piece.
    module _ {text' : List ℕ} {to end : ℕ} (same : length text' ≡ length text) (keeps : KeptOf (take kept text ++ first_line (drop i piece)) text' to)
        (is : end ≡ i + length (first_line (drop i piece))) where
      -- What is kept is as much of the line so far as there is room for.
      kept_is : take to text' ≡ take z.room (take kept text ++ first_line (drop i piece))
      kept_is = keeps.kept ∙ ap (λ (n : ℕ). take n (take kept text ++ first_line (drop i piece))) (same ∙ text_size)

      -- It is within the text's room.
      pub to_within : to ≤ z.room
      to_within = omega (arith, keeps.few)

      -- No more of it than there is.
      to_short : to ≤ kept + length (first_line (drop i piece))
      to_short =
          omega (
            arith,
            kept_short (take kept text ++ first_line (drop i piece)) text' to keeps,
            length-append (take kept text) (first_line (drop i piece)),
            length-take-le kept text (omega (arith, so.few)),
          )

      -- The place where the line ends, or goes on, is within the piece.
      pub line_within : end ≤ length piece
      line_within = end_within piece i end so.within is

      -- It goes on in the next piece.
      pub feed_end : end ≡ length piece
          → Fed p z.room s₀ line₀ piece s (take to text') (take at page) × ((to ≤ z.room) × (at ≤ page_of z))
      feed_end all = (
        fed_end p z.room s₀ line₀ piece s (take kept text) (take at page) i so.fed (omega arith) (take to text') kept_is,
        (to_within, omega (arith, so.room)),
      )

      -- It has room.
      pub room_there : at + z.answer ≤ length page
      room_there = omega (arith, so.room, page_long)

      -- It has ended, and is answered.
      pub feed_line : Enough p z.room → (end ≡ length piece → ⊥) → (s' : S) (page' : List ℕ) (next : ℕ)
          → Answered p s (take (to - 0) text') page at s' page' next → next ≤ at + z.share * (length (take (to - 0) text') + 1)
          → FeedTo s₀ line₀ piece s' text' page' 0 next (end + 1)
      feed_line enough more s' page' next answered few =
          let whole : to - 0 ≡ to = omega arith in
          let line : Answered p s (take to text') page at s' page' next =
          subst (λ (n : ℕ). Answered p s (take n text') page at s' page' next) whole answered in
          let long : length (take (to - 0) text') ≡ to = ap (λ (n : ℕ). length (take n text')) whole ∙ length-take-le to text' keeps.few in
          let paid : length (take (to - 0) text') + 1 + (0 + (length piece - (end + 1))) ≤ kept + (length piece - i) =
          omega (arith, to_short, line_within) in
          record {
            fed = fed_line p z.room s₀ line₀ piece s (take kept text) (take at page) i so.fed enough end is
                (omega (arith, line_within)) (take to text') kept_is page at refl
                (omega (arith, so.room)) s' page' next line;
            within = omega (arith, line_within);
            few = omega arith;
            room = share_paid z.share at (length (take (to - 0) text') + 1) (0 + (length piece - (end + 1))) (kept + (length piece - i))
                (z.share * (z.room + z.piece)) next so.room paid few;
          }

    -- The piece is done.
    pub feed_done : length piece ≤ i
        → Fed p z.room s₀ line₀ piece s (take kept text) (take at page) × ((kept ≤ z.room) × (at ≤ page_of z))
    feed_done done = (
      fed_done p z.room s₀ line₀ piece s (take kept text) (take at page) i so.fed done
          (omega (arith, so.few, length-take-le kept text (omega (arith, so.few)))),
      (so.few, omega (arith, so.room)),
    )

  -- ---- the input's end

  -- 'after a final 0a there is no further line'
  pub finish_none : (s : S) (text page : List ℕ) (len : ℕ) → len ≡ 0 → Finished p s (take len text) s (take 0 page) × (0 ≤ page_of z)
  finish_none s text page len none_left =
      (subst (λ (n : ℕ). Finished p s (take n text) s []) (sym none_left) (finished_none p s), omega arith)

  -- 'A line ends .. at the input's end'. It has room: a line kept and its end are no more than a line kept and a piece.
  pub finish_line : 0 < z.piece → (s : S) (text page : List ℕ) (len : ℕ) → (len ≡ 0 → ⊥) → len ≤ z.room → length text ≡ z.room
      → (s' : S) (page' : List ℕ) (next : ℕ) → Answered p s (take (len - 0) text) page 0 s' page' next
      → next ≤ 0 + z.share * (length (take (len - 0) text) + 1) → Finished p s (take len text) s' (take next page') × (next ≤ page_of z)
  finish_line some-piece s text page len there few size s' page' next answered short =
      let whole : len - 0 ≡ len = omega arith in
      let long : length (take len text) ≡ len = length-take-le len text (omega arith) in
      let line : Answered p s (take len text) page 0 s' page' next =
      subst (λ (n : ℕ). Answered p s (take n text) page 0 s' page' next) whole answered in
      let same : length (take (len - 0) text) ≡ len = ap (λ (n : ℕ). length (take n text)) whole ∙ long in
      let least : length (take (len - 0) text) + 1 ≤ z.room + z.piece = omega arith in
      (finished_line p s (take len text) page (omega arith) s' page' next line, omega (arith, mul-le-mul_left z.share least))
