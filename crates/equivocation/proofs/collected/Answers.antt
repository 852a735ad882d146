-- `equivocation::collected` meets its contract: each return is decided by the first thing that does not fit. A sound record has one length, so the
-- lengths and the bytes are tested before any record is.
-- Assumes nothing.
use mathlib.Core.Path.{sym, ap, ◌∙◌}
use mathlib.Core.Bool.{not}
use Rattle.sound.proofs.Laws.{off, on}
use Rattle.equivocation.proofs.Handed.{few, many, sizes_off, sum_off, records_fit}
use Rattle.equivocation.proofs.collected.Goals as goal

pub returns-then-count-lt-FEWEST : goal.returns-then-count-lt-FEWEST
returns-then-count-lt-FEWEST c =
    let a = c.args in
    sym (ap not (few a.records.now a.lengths.now c.if-count-lt-FEWEST.true))

pub returns-then-count-gt-MOST : goal.returns-then-count-gt-MOST
returns-then-count-gt-MOST c =
    let a = c.args in
    sym (ap not (many a.records.now a.lengths.now c.if-count-gt-MOST.true))

pub returns-then-not-sizes_fit : goal.returns-then-not-sizes_fit
returns-then-not-sizes_fit c =
    let a = c.args in
    sym (ap not (sizes_off a.records.now a.lengths.now (off c.sizes_fit.ensures c.if-not-sizes_fit.true)))

pub returns-then-records-count : goal.returns-then-records-count
returns-then-records-count c =
    let a = c.args in
    sym (ap not (sum_off a.records.now a.lengths.now (on c.sizes_fit.ensures c.if-not-sizes_fit.false) c.if-records-count.true))

pub returns : goal.returns
returns c =
    let a = c.args in
    let sizes = on c.sizes_fit.ensures c.if-not-sizes_fit.false in
    c.records_fit.ensures
    ∙ records_fit a.records.now a.lengths.now c.if-count-lt-FEWEST.false c.if-count-gt-MOST.false sizes c.if-records-count.false
