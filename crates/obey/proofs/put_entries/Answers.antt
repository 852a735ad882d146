-- `obey::put_entries` meets its contract: 'a new frame gets the smallest free one', one entry after the other. The invariant is `SentTo`; the
-- measure is what is left of the bytes. A line of an entry of k bytes has at most 2k + 5 digits, so at most 3k.
-- Assumes nothing.
use native.Mathlib.Omega.{arith}
use Rattle.obey.proofs.Sent.{sent_none, next_entry, sent_more, sent_all}
use Rattle.obey.proofs.put_entries.Goals as goal

pub loop-i-init : goal.loop-i-init
loop-i-init c =
    let a = c.args in
    sent_none a.writer a.stage.now a.page.now a.at a.s.now c.requires.0 c.requires.1

pub overflow_add-next : goal.overflow_add-next
overflow_add-next c =
    let l = c.loop-i in
    let n = next_entry _ _ _ _ _ l.stage l.page l.i l.end l.invariant c.loop-i-test.true _ c.size_in.ensures in
    omega arith

pub slice_bounds-put_entry-count : goal.slice_bounds-put_entry-count
slice_bounds-put_entry-count c =
    let l = c.loop-i in
    let n = next_entry _ _ _ _ _ l.stage l.page l.i l.end l.invariant c.loop-i-test.true _ c.size_in.ensures in
    omega arith

pub slice_bounds-put_entry-end : goal.slice_bounds-put_entry-end
slice_bounds-put_entry-end c =
    let l = c.loop-i in
    let n = next_entry _ _ _ _ _ l.stage l.page l.i l.end l.invariant c.loop-i-test.true _ c.size_in.ensures in
    omega arith

pub put_entry-end-requires : goal.put_entry-end-requires
put_entry-end-requires c =
    let l = c.loop-i in
    let n = next_entry _ _ _ _ _ l.stage l.page l.i l.end l.invariant c.loop-i-test.true _ c.size_in.ensures in
    (n.entry, omega (arith, n.least, n.fits, n.bytes, l.invariant.room))

pub loop-i-smaller : goal.loop-i-smaller
loop-i-smaller c =
    let l = c.loop-i in
    let n = next_entry _ _ _ _ _ l.stage l.page l.i l.end l.invariant c.loop-i-test.true _ c.size_in.ensures in
    omega arith

pub loop-i-preserved : goal.loop-i-preserved
loop-i-preserved c =
    let l = c.loop-i in
    let p = c.put_entry-end in
    sent_more _ _ _ _ _ l.stage l.page l.i l.end l.invariant c.loop-i-test.true _ c.size_in.ensures p.new.stage
    p.new.page p.result (omega arith) (omega arith) p.ensures

pub returns : goal.returns
returns c = let l = c.loop-i in sent_all _ _ _ _ _ l.stage l.page l.i l.end l.invariant c.loop-i-test.false
