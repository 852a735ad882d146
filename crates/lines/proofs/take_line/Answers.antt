-- `lines::take_line` meets its contract: 'A line ends at byte 0a'. The invariant is `TakenTo`; the measure is what is left of the piece.
-- Assumes nothing.
use mathlib.Core.Path.{◌≡◌}
use native.Mathlib.Omega.{arith}
use lib.ListN.{get_or}
use Rattle.lines.proofs.Taking.{taken_none, taken_more, taken_end, taken_all}
use Rattle.lines.proofs.take_line.Goals as goal

pub loop-i-init : goal.loop-i-init
loop-i-init c = taken_none c.args.text.now c.args.len c.args.piece.now c.args.from c.requires.0 c.requires.1

pub shape_of-text-then-b-eq-LINE_END : goal.shape_of-text-then-b-eq-LINE_END
shape_of-text-then-b-eq-LINE_END c = omega arith

pub returns-then-b-eq-LINE_END : goal.returns-then-b-eq-LINE_END
returns-then-b-eq-LINE_END c =
    let l = c.loop-i in
    let a = c.args in
    let end : get_or a.piece.now l.i 0 ≡ 10 = omega (arith, c.if-b-eq-LINE_END.true) in
    let ended = taken_end _ _ _ _ l.text l.to l.i l.invariant c.loop-i-test.true end in
    record { kept_of = ended.0; next_value = ended.1 }

pub loop-i-preserved : goal.loop-i-preserved
loop-i-preserved c =
    let l = c.loop-i in
    let more = c.loop-i-test.true in
    let k = c.keep-to in
    taken_more _ _ _ _ l.text l.to l.i l.invariant more c.if-b-eq-LINE_END.false k.new.text k.result k.auto.text k.ensures

pub shape_of-text : goal.shape_of-text
shape_of-text c = omega arith

pub returns : goal.returns
returns c =
    let l = c.loop-i in
    let all = taken_all _ _ _ _ l.text l.to l.i l.invariant c.loop-i-test.false in
    record { kept_of = all.0; next_value = omega (arith, all.1, l.invariant.within) }
