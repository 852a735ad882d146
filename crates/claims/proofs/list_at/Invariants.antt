-- `claims::list_at` meets its contract.
-- The plans of the first r vaults that stand there are listed; `listing_more` looks at one more.
-- Assumes nothing.
use Rattle.claims.specs.inside.Rows.{Words}
use Rattle.claims.proofs.Walk.{Listing}
use Rattle.claims.proofs.list_at.Given as goal

abbrev pub invariant-loop-r : goal.invariant-loop-r
invariant-loop-r l = record {
  listing : Listing l.table l.standings l.n l.k l.from l.initial.plans l.plans l.count l.r;
  words : Words l.plans;
}
