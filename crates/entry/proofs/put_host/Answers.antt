-- `entry::put_host` meets its contract. 'Host entries: 0b, view (4), milliseconds (4) for a timer; 0a, view (4), plan (8) for a decision' (01, Refusals).
-- Four fields put one after the other are the four spelt end to end.
-- Assumes nothing.
use native.Mathlib.Omega.{arith}
use Rattle.entry.specs.Layout.{host_fields}
use Rattle.wire.proofs.Output.{puts_spell}
use Rattle.entry.proofs.put_host.Goals as goal

pub returns : goal.returns
returns c =
    let a = c.args in
    let bytes = puts_spell (host_fields a.code a.view a.width a.value) a.out.now a.at
    c.requires in
    (omega arith, rw (c.put-4.ensures, c.put-3.ensures, c.put-2.ensures, c.put.ensures) bytes)
