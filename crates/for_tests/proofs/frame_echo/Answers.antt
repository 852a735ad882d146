-- `for_tests::frame_echo` meets its contract. 'Each gives its number, zero bytes written, record and output unchanged' (01, Refusals).
-- Each answer by the reading that led to it: 1 by the length, a refusal by `read`, the entries by `put_echo`.
-- Assumes nothing.
use Prim.Native.Nat.{ℕ, ◌+◌}
use mathlib.Core.Path.{ap, ◌∙◌}
use native.Mathlib.Omega.{arith}
use lib.ListN.{length}
use borrow.Author.Tests.{lt-ltb, le-ltb}
use Rattle.for_tests.specs.inside.Answers.{left, echo}
use Rattle.for_tests.proofs.Laws.{count_short}
use Rattle.for_tests.proofs.frame_echo.Goals as goal

pub returns-then-out-lt256 : goal.returns-then-out-lt256
unfolding echo
returns-then-out-lt256 c = simp (lt-ltb (length c.args.out.now) 256 (omega arith))

pub returns-in-Err : goal.returns-in-Err
unfolding echo
returns-in-Err c =
    let out = c.args.out.now in
    simp (le-ltb (length out) 256 (omega arith))
    (rw (← c.read.ensures, c.in-Err.is) (ap (λ (k : ℕ). left k out) (c.from-in-Err.ensures ∙ c.from.ensures)))

pub overflow_cast-result : goal.overflow_cast-result
overflow_cast-result c = omega (arith, count_short _ _ c.put_echo.ensures.0)

pub overflow_add-result : goal.overflow_add-result
overflow_add-result c = omega (arith, count_short _ _ c.put_echo.ensures.0)

pub returns-in-Ok : goal.returns-in-Ok
unfolding echo
returns-in-Ok c =
    let all = c.put_echo.ensures in
    simp (le-ltb (length c.args.out.now) 256 (omega arith))
    (rw (← c.read.ensures, c.in-Ok.is) (λ i. left (256 + all.0 i) (all.1 i)))
