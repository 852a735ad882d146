-- `entry::put_entry` meets its contract. 'Entries lie end to end: a recipient byte .., then the frame' (01, Refusals).
-- Each variant by the call that its arm makes.
-- Assumes nothing.
use lib.ListN.{length-append}
use Rattle.wire.proofs.Laws.{length_digits}
use Rattle.entry.specs.Layout.{entry_bytes}
use Rattle.entry.proofs.put_entry.Goals as goal

pub put_frame-requires : goal.put_frame-requires
unfolding entry_bytes
put_frame-requires c = rw c.in-ForAll.is at c.requires

pub put_frame-requires-in-ForOne : goal.put_frame-requires-in-ForOne
unfolding entry_bytes
put_frame-requires-in-ForOne c = rw c.in-ForOne.is at c.requires

pub put_host-requires : goal.put_host-requires
unfolding entry_bytes
put_host-requires c = simp (length-append, length_digits) at (rw c.in-Timer.is at c.requires)

pub put_host-requires-in-Decision : goal.put_host-requires-in-Decision
unfolding entry_bytes
put_host-requires-in-Decision c = simp (length-append, length_digits) at (rw c.in-Decision.is at c.requires)

pub returns-in-ForAll : goal.returns-in-ForAll
unfolding entry_bytes
returns-in-ForAll c = rw c.in-ForAll.is c.put_frame.ensures

pub returns-in-ForOne : goal.returns-in-ForOne
unfolding entry_bytes
returns-in-ForOne c = rw c.in-ForOne.is c.put_frame-in-ForOne.ensures

pub returns-in-Timer : goal.returns-in-Timer
unfolding entry_bytes
returns-in-Timer c =
    let host = c.put_host.ensures in
    rw c.in-Timer.is (simp (length-append, length_digits) host.0, host.1)

pub returns-in-Decision : goal.returns-in-Decision
unfolding entry_bytes
returns-in-Decision c =
    let host = c.put_host-in-Decision.ensures in
    rw c.in-Decision.is (simp (length-append, length_digits) host.0, host.1)
