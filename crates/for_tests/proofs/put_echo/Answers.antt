-- `for_tests::put_echo` meets its contract. 'Entries lie end to end' (01, Refusals).
-- Three entries put one after the other lie end to end, and three entries have room in 138 bytes.
-- Assumes nothing.
use native.Mathlib.Omega.{arith}
use lib.ListN.{length-append}
use Rattle.entry.specs.declared.Entry.TheVariants.{ForAll, Timer, Decision}
use Rattle.entry.proofs.Theorems.{entry_span, lays_layout}
use Rattle.for_tests.specs.inside.Answers.{echo_entries}
use Rattle.for_tests.proofs.Laws.{echo_short}
use Rattle.for_tests.proofs.put_echo.Goals as goal

pub put_entry-timer-requires : goal.put_entry-timer-requires
put_entry-timer-requires c = omega (arith, (entry_span (ForAll c.args.f)).1)

pub put_entry-decision-requires : goal.put_entry-decision-requires
put_entry-decision-requires c =
    let f = c.args.f in
    omega (arith, (entry_span (ForAll f)).1, (entry_span (Timer f.view 180)).1)

pub put_entry-requires : goal.put_entry-requires
put_entry-requires c =
    let f = c.args.f in
    omega (arith, (entry_span (ForAll f)).1, (entry_span (Timer f.view 180)).1, (entry_span (Decision f.view f.view)).1)

pub returns : goal.returns
returns c =
    let a = c.args in
    let frame = c.put_entry-timer.ensures in
    let timer = c.put_entry-decision.ensures in
    let decision = c.put_entry.ensures in (
      simp length-append (omega arith),
      rw (decision.1, timer.1, frame.1, timer.0, frame.0) (lays_layout (echo_entries a.f) a.out.now 0 (omega (arith, echo_short a.f))),
    )
