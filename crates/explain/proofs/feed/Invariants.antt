-- `explain::feed` meets its contract: a line's text stays within what is kept of it, and the place within the piece.
-- The measure is what is left of the piece.
-- Assumes nothing.
use Prim.Native.Nat.{◌≤◌, ◌-◌}
use mathlib.Core.Path.{◌≡◌}
use lib.ListN.{length}
use Rattle.explain.specs.inside.Sizes.{text_kept}
use Rattle.explain.proofs.feed.Given as goal

abbrev pub invariant-loop-i : goal.invariant-loop-i
invariant-loop-i g l =
    (length l.text ≡ length l.initial.text) × (length l.text ≡ text_kept) × (l.len ≤ text_kept) × (l.i ≤ length l.piece)

abbrev pub decreases-loop-i : goal.decreases-loop-i
decreases-loop-i g l = length l.piece - l.i
