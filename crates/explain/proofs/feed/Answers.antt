-- `explain::feed` meets its contract: what is behind a line that ended is within the piece, and its text is kept.
-- Assumes nothing.
use mathlib.Core.Path.{◌∙◌}
use native.Mathlib.Omega.{arith}
use Rattle.lines.proofs.Lines.{end_within}
use Rattle.explain.proofs.feed.Goals as goal

pub overflow_add-i : goal.overflow_add-i
overflow_add-i g c =
    let l = c.loop-i in
    omega (arith, end_within c.args.piece.now l.i _ l.invariant.3 c.take_line-taken.ensures.next_value, c.if-end-piece.false)

pub loop-i-preserved : goal.loop-i-preserved
loop-i-preserved g c =
    let l = c.loop-i in
    let t = c.take_line-taken in
    let end = end_within c.args.piece.now l.i _ l.invariant.3 t.ensures.next_value in
    (t.auto.text ∙ l.invariant.0, t.auto.text ∙ l.invariant.1, omega arith, omega (arith, end, c.if-end-piece.false))
