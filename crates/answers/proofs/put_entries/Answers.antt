-- `answers::put_entries` meets its contract: 'one output entry a line'. The invariant is `PutTo`; the measure is what is left of the
-- bytes. A line of k bytes has 2k + 1 digits, at most 3k.
-- Assumes nothing.
use native.Mathlib.Omega.{arith}
use Rattle.answers.proofs.Entries.{put_none, next_is, put_more, put_all}
use Rattle.answers.proofs.put_entries.Goals as goal

pub loop-i-init : goal.loop-i-init
loop-i-init c = put_none c.args.page.now c.args.at c.args.s.now c.requires.0 c.requires.1

pub overflow_add-next : goal.overflow_add-next
overflow_add-next c =
    let l = c.loop-i in
    let n = next_is _ _ _ l.page l.i l.end l.invariant c.loop-i-test.true _ c.size_in.ensures in
    omega arith

pub slice_bounds-put_line-count : goal.slice_bounds-put_line-count
slice_bounds-put_line-count c =
    let l = c.loop-i in
    let n = next_is _ _ _ l.page l.i l.end l.invariant c.loop-i-test.true _ c.size_in.ensures in
    omega arith

pub slice_bounds-put_line-end : goal.slice_bounds-put_line-end
slice_bounds-put_line-end c =
    let l = c.loop-i in
    let n = next_is _ _ _ l.page l.i l.end l.invariant c.loop-i-test.true _ c.size_in.ensures in
    omega arith

pub put_line-end-requires : goal.put_line-end-requires
put_line-end-requires c =
    let l = c.loop-i in
    let n = next_is _ _ _ l.page l.i l.end l.invariant c.loop-i-test.true _ c.size_in.ensures in
    omega arith

pub loop-i-smaller : goal.loop-i-smaller
loop-i-smaller c =
    let l = c.loop-i in
    let n = next_is _ _ _ l.page l.i l.end l.invariant c.loop-i-test.true _
    c.size_in.ensures in
    omega arith

pub loop-i-preserved : goal.loop-i-preserved
loop-i-preserved c =
    let l = c.loop-i in
    let p = c.put_line-end in
    put_more _ _ _ l.page l.i l.end l.invariant c.loop-i-test.true _
    c.size_in.ensures p.new.page p.result p.ensures

pub returns : goal.returns
returns c = let l = c.loop-i in put_all _ _ _ l.page l.i l.end l.invariant c.loop-i-test.false
