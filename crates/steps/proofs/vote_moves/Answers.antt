-- `steps::vote_moves` meets its contract: each branch decides one part.
-- Assumes nothing.
use mathlib.Core.Path.{refl}
use borrow.Author.Tests.{eq-eqb, ne_eqb, le-leb, lt-leb}
use Rattle.frame.specs.Format.{within}
use Rattle.record.specs.inside.Keeping.{moves}
use Rattle.steps.proofs.vote_moves.Goals as goal

pub returns-then-kind-lt-VOTE_1 : goal.returns-then-kind-lt-VOTE_1
unfolding moves within
returns-then-kind-lt-VOTE_1 c = rw (lt-leb _ _ c.if-kind-lt-VOTE_1.true) refl

pub returns-then-kind-gt-VOTE_2 : goal.returns-then-kind-gt-VOTE_2
unfolding moves within
returns-then-kind-gt-VOTE_2 c = rw (le-leb _ _ c.if-kind-lt-VOTE_1.false, lt-leb _ _ c.if-kind-gt-VOTE_2.true) refl

pub returns-then-slot-ne-PRESENT : goal.returns-then-slot-ne-PRESENT
unfolding moves within
returns-then-slot-ne-PRESENT c =
    rw (le-leb _ _ c.if-kind-lt-VOTE_1.false, le-leb _ _ c.if-kind-gt-VOTE_2.false, ne_eqb _ _ c.if-slot-ne-PRESENT.true) refl

pub returns : goal.returns
unfolding moves within
returns c =
    rw (
      le-leb _ _ c.if-kind-lt-VOTE_1.false,
      le-leb _ _ c.if-kind-gt-VOTE_2.false,
      eq-eqb _ _ c.if-slot-ne-PRESENT.false,
    ) refl
