-- `obey::put_entry` meets its contract: 'It prints as `vaultlines` does .., but a frame's entry is led by fc and its number'.
-- Assumes nothing.
use native.Mathlib.Omega.{arith}
use Rattle.obey.proofs.Sent.{is_entry_least, host_done, frame_done, frame_may}
use Rattle.obey.proofs.put_entry.Goals as goal

pub bounds-e-0 : goal.bounds-e-0
bounds-e-0 c = omega (arith, is_entry_least c.requires.0)

pub returns-then-e : goal.returns-then-e
returns-then-e c =
    let a = c.args in
    host_done a.writer a.stage.now a.e.now a.page.now a.at c.requires.0 c.if-e.true c.put_line.new.page c.put_line.result
    c.put_line.ensures

pub bounds-e-0-2 : goal.bounds-e-0-2
bounds-e-0-2 c = omega (arith, is_entry_least c.requires.0)

pub slice_bounds-send-count : goal.slice_bounds-send-count
slice_bounds-send-count c = omega (arith, is_entry_least c.requires.0)

pub slice_bounds-send-start : goal.slice_bounds-send-start
slice_bounds-send-start c = omega (arith, is_entry_least c.requires.0)

pub send-requires : goal.send-requires
send-requires c =
    let a = c.args in
    let may = frame_may a.writer a.stage.now a.e.now a.page.now a.at c.requires.0 c.if-e.false in
    (may.0, omega (arith, may.1, c.requires.1))

pub returns : goal.returns
returns c =
    let a = c.args in
    frame_done a.writer a.stage.now a.e.now a.page.now a.at c.requires.0 c.if-e.false c.send.new.stage c.send.new.page
    c.send.result c.send.ensures
