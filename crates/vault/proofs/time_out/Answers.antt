-- `vault::time_out` meets its contract: the view is asked for, and one pass runs.
-- Assumes nothing.
use Rattle.vault.proofs.Timers.{own_row, ask_requires, time_out_requires, time_out_ran}
use Rattle.vault.proofs.time_out.Goals as goal

pub wanted_view-w-requires : goal.wanted_view-w-requires
wanted_view-w-requires c = (c.requires.0.ready.size, own_row c.requires.0, c.requires.2)

pub ask_for-at-requires : goal.ask_for-at-requires
ask_for-at-requires c =
    let out = c.args.out.now in
    ask_requires c.requires.0 c.args.view c.requires.1 c.requires.2
    c.wanted_view-w.result c.wanted_view-w.ensures out c.requires.3

pub pass_from-requires : goal.pass_from-requires
pass_from-requires c =
    let out = c.args.out.now in
    time_out_requires c.requires.0 c.args.view c.requires.1 c.requires.2
    c.wanted_view-w.result c.wanted_view-w.ensures out c.requires.3
    c.ask_for-at.result c.ask_for-at.new.rec c.ask_for-at.new.out c.ask_for-at.ensures

pub returns : goal.returns
returns c =
    let out = c.args.out.now in
    time_out_ran c.requires.0 c.args.view c.requires.1 c.requires.2
    c.wanted_view-w.result c.wanted_view-w.ensures out c.requires.3
    c.ask_for-at.result c.ask_for-at.new.rec c.ask_for-at.new.out c.ask_for-at.ensures
    c.pass_from.result c.pass_from.new.rec c.pass_from.new.out c.pass_from.ensures
