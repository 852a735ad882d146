-- `pass::run_enter` meets its contract: step B on the own part, which is put back whole, its entries written.
-- Assumes nothing.
use Rattle.contents.specs.Contents.{contents_in}
use Rattle.acts.specs.inside.Acts.{act_at}
use Rattle.steps.proofs.Steps.{step_set, step_start}
use Rattle.pass.proofs.Runs.{some_own, did_step, room_taken, ran_step}
use Rattle.pass.proofs.Stored.{fits_left}
use Rattle.pass.proofs.run_enter.Goals as goal

pub step_b-left-requires : goal.step_b-left-requires
step_b-left-requires c = some_own c.args.rec.now c.requires.0.ready c.load-held.ensures

pub store-requires : goal.store-requires
unfolding act_at
store-requires c =
    fits_left c.args.rec.now c.args.id c.step_b-left.result.bytes c.requires.0.ready c.requires.0.own
    (did_step 1 c.args.rec.now c.requires.0 c.load-held.ensures
    c.step_b-left.result.bytes c.step_b-left.ensures)
    (step_set 1 (contents_in c.args.rec.now)) (step_start 1 (contents_in c.args.rec.now))

pub write_entries-requires : goal.write_entries-requires
unfolding act_at
write_entries-requires c =
    room_taken 1 c.args.rec.now c.requires.0 c.load-held.ensures
    c.step_b-left.result.bytes
    c.step_b-left.ensures c.args.at c.args.out.now c.requires.1

pub returns : goal.returns
unfolding act_at
returns c =
    let held = c.store.ensures in
    ran_step 1 c.args.rec.now c.requires.0
    c.load-held.ensures
    c.step_b-left.result.bytes
    c.step_b-left.ensures c.args.at
    c.args.out.now held c.write_entries.ensures
