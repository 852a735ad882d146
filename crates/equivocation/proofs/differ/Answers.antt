-- `equivocation::differ` meets its contract: 'two different plans for one view'. Each branch decides one part.
-- Assumes nothing.
use mathlib.Core.Path.{refl}
use borrow.Author.Tests.{eq-eqb, ne_eqb}
use Rattle.equivocation.specs.inside.Records.{slots_differ}
use Rattle.equivocation.proofs.differ.Goals as goal

pub returns-then-a-ne-PRESENT : goal.returns-then-a-ne-PRESENT
unfolding slots_differ
returns-then-a-ne-PRESENT c = rw (ne_eqb _ _ c.if-a-ne-PRESENT.true) refl

pub returns-then-b-ne-PRESENT : goal.returns-then-b-ne-PRESENT
unfolding slots_differ
returns-then-b-ne-PRESENT c = rw (eq-eqb _ _ c.if-a-ne-PRESENT.false, ne_eqb _ _ c.if-b-ne-PRESENT.true) refl

pub returns-then-a-b : goal.returns-then-a-b
unfolding slots_differ
returns-then-a-b c =
    let a = c.args in
    rw (eq-eqb _ _ c.if-a-ne-PRESENT.false, eq-eqb _ _ c.if-b-ne-PRESENT.false, ne_eqb a.a.view a.b.view c.if-a-b.true) refl

pub returns : goal.returns
unfolding slots_differ
returns c =
    rw (eq-eqb _ _ c.if-a-ne-PRESENT.false, eq-eqb _ _ c.if-b-ne-PRESENT.false, eq-eqb _ _ c.if-a-b.false) refl
