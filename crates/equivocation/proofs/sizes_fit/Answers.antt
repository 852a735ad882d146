-- `equivocation::sizes_fit` meets its contract. The invariant: every length passed is that of a record.
-- Assumes nothing.
use mathlib.Core.Path.{◌≡◌, ap, sym, ◌∙◌}
use lib.ListN.{length}
use native.Mathlib.Omega.{arith}
use borrow.Author.Tests.{eq-eqb, ne_eqb}
use Rattle.sound.specs.inside.Sound.{all}
use Rattle.sound.proofs.Laws.{all_none, all_more, all_stop}
use Rattle.equivocation.specs.inside.Records.{size_fits}
use Rattle.equivocation.proofs.sizes_fit.Goals as goal

pub loop-length-init : goal.loop-length-init
loop-length-init c = (omega arith, all_none _)

pub returns-then-length-ne-LENGTH : goal.returns-then-length-ne-LENGTH
returns-then-length-ne-LENGTH c =
    let s = c.args.lengths.now in
    let h = c.loop-length in
    sym (all_stop (size_fits s) (length s) h.length-index c.loop-length-test.true (ne_eqb _ _ c.if-length-ne-LENGTH.true))

pub loop-length-preserved : goal.loop-length-preserved
loop-length-preserved c =
    let s = c.args.lengths.now in
    let h = c.loop-length in
    (omega arith, all_more (size_fits s) h.length-index h.invariant.1 (eq-eqb _ _ c.if-length-ne-LENGTH.false))

pub returns : goal.returns
returns c =
    let s = c.args.lengths.now in
    let h = c.loop-length in
    let e : h.length-index ≡ length s = omega arith in
    sym h.invariant.1 ∙ ap (all (size_fits s)) e
