-- `claims::list_at` meets its contract.
-- The plans of the first r vaults that stand there are listed; `listing_more` looks at one more. When all are found, the others do not stand there.
-- Assumes nothing.
use native.Mathlib.Omega.{arith}
use borrow.Author.Rules.{rules}
use Rattle.claims.proofs.Rows.{words_set}
use Rattle.claims.proofs.Walk.{listing_none, listing_most, listing_more, listing_all}
use Rattle.claims.specs.inside.Spans.{stands_at}
use Rattle.rules.proofs.Quorums.{share_most}
use Rattle.claims.proofs.list_at.Goals as goal

pub loop-r-init : goal.loop-r-init
loop-r-init c = record { listing = listing_none _ _ _ _ _ _ (omega arith); words = c.fits-plans }

pub overflow_add-plans-in-loop-r : goal.overflow_add-plans-in-loop-r
overflow_add-plans-in-loop-r c = omega (arith, listing_most c.loop-r.invariant.listing, c.loop-r.invariant.listing.size)

pub offset_bounds-plans-from : goal.offset_bounds-plans-from
offset_bounds-plans-from c = omega (arith, listing_most c.loop-r.invariant.listing, c.loop-r.invariant.listing.size)

pub bounds-plans-from : goal.bounds-plans-from
bounds-plans-from c = omega (arith, listing_most c.loop-r.invariant.listing, c.loop-r.invariant.listing.size)

pub overflow_add-count : goal.overflow_add-count
overflow_add-count c =
    let a = c.args in
    let share = c.share_at in
    omega (
      arith,
      listing_most c.loop-r.invariant.listing,
      share_most (stands_at a.standings.now a.k c.loop-r.r) 1 share.result share.ensures,
    )

pub loop-r-preserved : goal.loop-r-preserved
loop-r-preserved c = record {
  listing = listing_more c.loop-r.invariant.listing (omega arith) c.requires.0 c.requires.1 _ c.share_at.ensures;
  words = words_set _ _ _ c.loop-r.invariant.words (search rules);
}

pub returns-then-count-total-clause-listed : goal.returns-then-count-total-clause-listed
returns-then-count-total-clause-listed c = let all = listing_all c.loop-r.invariant.listing _ c.count_at-total.ensures (omega arith) in (all.1, all.2)
