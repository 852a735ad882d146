-- `equivocation::name` meets its contract: 'one byte each', for a vault that spoke twice.
-- Assumes nothing.
use Rattle.sound.proofs.Laws.{off, on}
use Rattle.equivocation.proofs.Laws.{put_nobody, put_one}
use Rattle.equivocation.proofs.name.Goals as goal

pub returns-then-not-spoke_twice : goal.returns-then-not-spoke_twice
returns-then-not-spoke_twice c =
    let a = c.args in
    put_nobody a.out.now a.at a.sender _ (off c.spoke_twice.ensures c.if-not-spoke_twice.true)

pub returns : goal.returns
returns c =
    let a = c.args in
    put_one a.out.now a.at a.sender _ (on c.spoke_twice.ensures c.if-not-spoke_twice.false) c.requires.2
