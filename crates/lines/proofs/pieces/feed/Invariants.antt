-- `lines::pieces::feed` meets its contract: a piece of input, line by line. The invariant is `FeedTo`; the measure is what is left of the piece.
-- Assumes nothing.
use Prim.Native.Nat.{◌-◌}
use mathlib.Core.Path.{◌≡◌}
use lib.ListN.{length, take}
use Rattle.lines.specs.inside.Sizes.{page_of}
use Rattle.lines.proofs.Paged.{FeedTo}
use Rattle.lines.proofs.pieces.feed.Given as goal

abbrev pub invariant-loop-i : goal.invariant-loop-i
invariant-loop-i g l =
    let p = g.L.LineProgram in
    (length l.state ≡ length l.initial.state) × (length l.text ≡ p.sizes.room) × (length l.page ≡ page_of p.sizes)
    × FeedTo p.program p.sizes l.initial.state (take l.len l.initial.text) l.piece l.state l.text l.page l.kept l.at l.i

abbrev pub decreases-loop-i : goal.decreases-loop-i
decreases-loop-i g l = length l.piece - l.i
