-- `lines::bytes_in` meets its contract: 'not an even count of lower-case hex digits', or more than the limit; else the bytes that the
-- digits spell. The invariant is `SpelledTo`; the measure is what is left of the count.
-- Assumes nothing.
use mathlib.Core.Path.{refl, sym}
use native.Mathlib.Omega.{arith}
use Rattle.lines.proofs.Spelled.{long_spells_none, odd_spells_none, high_spells_none, low_spells_none, spelled_more, spelled_all, spelled_first}
use Rattle.lines.proofs.bytes_in.Goals as goal

pub returns-then-limit-text : goal.returns-then-limit-text
returns-then-limit-text c = (let a = c.args in long_spells_none a.limit a.text.now (omega arith), omega arith)

pub returns-then-text-ne0 : goal.returns-then-text-ne0
returns-then-text-ne0 c = (let a = c.args in odd_spells_none a.limit a.text.now (omega arith), omega arith)

pub loop-i-init : goal.loop-i-init
loop-i-init c =
    (c.requires, spelled_first c.args.limit c.args.text.now c.args.bytes.now _ refl (omega arith) (omega arith) c.requires)

pub returns-in_err-high : goal.returns-in_err-high
returns-in_err-high c =
    let l = c.loop-i in
    rw c.from_residual.ensures (
      high_spells_none _ _ l.bytes _ _ l.i l.invariant.1 c.loop-i-test.true 16 _ (sym (c.in_err-high.ensures)) refl (omega arith),
      omega arith,
    )

pub returns-in_err-low : goal.returns-in_err-low
returns-in_err-low c =
    let l = c.loop-i in
    let high = c.in_ok-high.ensures in
    rw c.from_residual-in_err-low.ensures (
      low_spells_none _ _ l.bytes _ _ l.i l.invariant.1 c.loop-i-test.true _ 16 high.0 (sym (c.in_err-low.ensures)) (omega (arith, high.1)) (omega arith),
      omega arith,
    )

pub loop-i-preserved : goal.loop-i-preserved
loop-i-preserved c =
    let l = c.loop-i in
    let high = c.in_ok-high.ensures in
    let low = c.in_ok-low.ensures in (
      l.invariant.0,
      spelled_more _ _ l.bytes _ _ l.i l.invariant.1 c.loop-i-test.true _ _ high.0 low.0 (omega (arith, high.1)) (omega (arith, low.1)),
    )

pub returns : goal.returns
returns c =
    let l = c.loop-i in
    (spelled_all _ _ l.bytes _ _ l.i l.invariant.1 c.loop-i-test.false, l.invariant.1.few)
