-- `claims::highest_to` meets its contract.
-- The loop keeps the highest of the first r spans that are not above w, and `highest_more` adds one span.
-- Assumes nothing.
use Prim.Native.Nat.{max}
use mathlib.Core.Path.{sym, ◌∙◌}
use Rattle.claims.proofs.Spans.{highest_more, highest_none}
use Rattle.claims.proofs.highest_to.Goals as goal

pub loop-r-init : goal.loop-r-init
loop-r-init c = sym (highest_none _ _)

pub loop-r-preserved : goal.loop-r-preserved
loop-r-preserved c =
    let at = c.loop-r in
    let a = c.args in
    let step = c.max-best.ensures ∙ (λ i. max (at.invariant i) (c.span_to.ensures i)) in
    step ∙ sym (highest_more a.spans.now a.w at.r)
