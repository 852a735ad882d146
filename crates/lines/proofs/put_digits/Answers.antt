-- `lines::put_digits` meets its contract: two digits for each byte; 'Output digits are lower-case'.
-- The invariant: the digits of the rest, put on what is there, give what is to come out.
-- Assumes nothing.
use mathlib.Core.Path.{◌∙◌}
use native.Mathlib.Omega.{arith}
use lib.ListN.{length-set}
use Rattle.lines.proofs.Digits.{digits_step, digits_done, length_digits_of}
use Rattle.lines.proofs.put_digits.Goals as goal

pub loop-b-preserved : goal.loop-b-preserved
loop-b-preserved c =
    let l = c.loop-b in
    let s = c.args.s.now in (
      omega arith,
      simp length-set l.invariant.1,
      rw (c.digit_of.ensures, c.digit_of-in-loop-b.ensures) (digits_step l.page s l.to l.b-index (omega arith) (omega arith) ∙ l.invariant.2),
    )

pub returns : goal.returns
returns c =
    let l = c.loop-b in
    let s = c.args.s.now in
    record {
      shown = digits_done l.page s l.to l.b-index (omega arith) ∙ l.invariant.2;
      ends = omega (arith, length_digits_of s);
    }
