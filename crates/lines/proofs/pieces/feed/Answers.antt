-- `lines::pieces::feed` meets its contract: a piece of input, line by line. The invariant is `FeedTo`; the measure is what is left of the piece.
-- Assumes nothing.
use mathlib.Core.Path.{refl, sym, subst, ◌∙◌}
use native.Mathlib.Omega.{arith}
use Rattle.lines.proofs.Paged.{feed_none, feed_end, feed_line, feed_done, room_there, line_within}
use Rattle.lines.proofs.pieces.feed.Goals as goal

pub loop-i-init : goal.loop-i-init
loop-i-init g c =
    let p = g.L.LineProgram in (
      refl,
      c.requires.sized.0,
      c.requires.sized.2,
      feed_none p.program p.sizes c.args.state.now c.args.text.now c.args.page.now c.args.piece.now c.args.len
          c.requires.sized.1 c.requires.sized.3,
    )

pub take_line-taken-requires : goal.take_line-taken-requires
take_line-taken-requires g c =
    let l = c.loop-i in
    (omega (arith, l.invariant.1, l.invariant.3.few), l.invariant.3.within)

pub returns-then-end-piece : goal.returns-then-end-piece
returns-then-end-piece g c =
    let p = g.L.LineProgram in
    let l = c.loop-i in
    let t = c.take_line-taken in
    let all = feed_end p.program p.sizes l.invariant.3 l.invariant.1 l.invariant.2 t.auto.text t.ensures.kept_of t.ensures.next_value
    c.if-end-piece.true in
    record { fed = all.0; within = all.1 }

pub slice_bounds-answer_line-end : goal.slice_bounds-answer_line-end
slice_bounds-answer_line-end g c = c.take_line-taken.ensures.kept_of.few

pub answer_line-at-requires : goal.answer_line-at-requires
answer_line-at-requires g c =
    let p = g.L.LineProgram in
    let l = c.loop-i in
    let t = c.take_line-taken in
    (subst p.may_be (sym l.invariant.0) c.requires.state_fits, room_there p.program p.sizes l.invariant.3 l.invariant.1 l.invariant.2 t.auto.text t.ensures.kept_of t.ensures.next_value)

pub overflow_add-i : goal.overflow_add-i
overflow_add-i g c =
    let p = g.L.LineProgram in
    let l = c.loop-i in
    let t = c.take_line-taken in
    let low = line_within p.program p.sizes l.invariant.3 l.invariant.1 l.invariant.2 t.auto.text t.ensures.kept_of t.ensures.next_value in
    omega (arith, low, c.if-end-piece.false)

pub loop-i-preserved : goal.loop-i-preserved
loop-i-preserved g c =
    let p = g.L.LineProgram in
    let l = c.loop-i in
    let t = c.take_line-taken in
    let r = c.answer_line-at in (
      r.auto.state ∙ l.invariant.0,
      t.auto.text ∙ l.invariant.1,
      r.auto.page ∙ l.invariant.2,
      feed_line p.program p.sizes l.invariant.3 l.invariant.1 l.invariant.2 t.auto.text t.ensures.kept_of t.ensures.next_value g.met.L.LineProgram.enough
          c.if-end-piece.false r.new.state r.new.page r.result r.ensures.answered r.ensures.upper_bound,
    )

pub shape_of-text : goal.shape_of-text
shape_of-text g c = omega arith

pub returns : goal.returns
returns g c =
    let p = g.L.LineProgram in
    let l = c.loop-i in
    let all = feed_done p.program p.sizes l.invariant.3 l.invariant.1 l.invariant.2 c.loop-i-test.false in
    record { fed = all.0; within = all.1 }
