-- `explain::explain_all` is safe and ends: what is kept of a line stays within its room.
-- Assumes nothing.
use Prim.Native.Nat.{◌≤◌}
use mathlib.Core.Path.{◌≡◌}
use lib.ListN.{length}
use Rattle.explain.specs.inside.Sizes.{text_kept}
use Rattle.explain.proofs.explain_all.Given as goal

abbrev pub invariant-loop : goal.invariant-loop
invariant-loop g l =
    (length l.text ≡ length l.initial.text) × (length l.text ≡ text_kept) × (l.place.len ≤ text_kept)
