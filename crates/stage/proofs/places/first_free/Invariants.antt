-- `stage::places::first_free` meets its contract: 'a new frame gets the smallest free one'. The invariant is `SearchedTo`.
-- Assumes nothing.
use Rattle.stage.proofs.Waiting.{SearchedTo}
use Rattle.stage.proofs.places.first_free.Given as goal

abbrev pub invariant-loop-k : goal.invariant-loop-k
invariant-loop-k l = SearchedTo l.stage l.k
