-- `pass::run_cast` meets its contract: the step of a vote on the own part, the vote put back, its entries written.
-- Assumes nothing.
use Prim.Native.Nat.{◌+◌}
use Rattle.pass.proofs.Runs.{did_act, room_taken, ran_step}
use Rattle.pass.proofs.Stored.{cast_left}
use Rattle.pass.proofs.run_cast.Goals as goal

pub store_vote-requires : goal.store_vote-requires
store_vote-requires c = (
  cast_left c.args.rec.now c.requires.0.ready c.args.id c.requires.0.own c.step_cast-left.result.bytes
      c.args.k c.args.p c.requires.1
      (did_act (c.args.k + 2) c.args.rec.now c.requires.0 c.load-held.ensures
      c.step_cast-left.result.bytes c.step_cast-left.ensures),
  c.requires.1,
)

pub write_entries-requires : goal.write_entries-requires
write_entries-requires c =
    room_taken (c.args.k + 2) c.args.rec.now c.requires.0
    c.load-held.ensures
    c.step_cast-left.result.bytes
    c.step_cast-left.ensures c.args.at c.args.out.now c.requires.2

pub returns : goal.returns
returns c =
    ran_step (c.args.k + 2) c.args.rec.now c.requires.0
    c.load-held.ensures
    c.step_cast-left.result.bytes
    c.step_cast-left.ensures c.args.at c.args.out.now
    c.store_vote.ensures c.write_entries.ensures
