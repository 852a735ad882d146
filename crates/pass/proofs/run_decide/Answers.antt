-- `pass::run_decide` meets its contract: step H on the own part, the decision put back, its entries written.
-- Assumes nothing.
use Prim.Native.Nat.{ℕ, ◌<◌}
use mathlib.Core.Path.{sym, subst}
use native.Mathlib.Omega.{arith}
use Rattle.record.specs.Slots.{rows}
use Rattle.contents.proofs.Ready.{ready_row}
use Rattle.acts.specs.inside.Acts.{act_at}
use Rattle.pass.proofs.Runs.{did_act, room_taken, ran_step}
use Rattle.pass.proofs.Stored.{stored_one, decide_left}
use Rattle.pass.proofs.run_decide.Goals as goal

pub store_slot-requires : goal.store_slot-requires
unfolding act_at
store_slot-requires c = (
  subst (λ (i : ℕ). i < rows) (sym c.requires.0.own)
      (ready_row c.requires.0.ready),
  omega arith,
  c.requires.0.ready.size,
)

pub write_entries-requires : goal.write_entries-requires
unfolding act_at
write_entries-requires c =
    room_taken 7 c.args.rec.now c.requires.0 c.load-held.ensures
    c.step_h-left.result.bytes
    c.step_h-left.ensures c.args.at c.args.out.now c.requires.1

pub returns : goal.returns
unfolding act_at
returns c =
    let held = stored_one c.args.rec.now c.args.id
    c.step_h-left.result.bytes c.step_h-left.ensures.size
    (decide_left c.args.rec.now c.requires.0.ready c.args.id c.requires.0.own
    c.step_h-left.result.bytes
    c.args.p
    (did_act 7 c.args.rec.now c.requires.0
    c.load-held.ensures
    c.step_h-left.result.bytes
    c.step_h-left.ensures)) 16 (omega arith) (λ i e. e)
    c.store_slot.ensures in
    ran_step 7 c.args.rec.now c.requires.0
    c.load-held.ensures
    c.step_h-left.result.bytes
    c.step_h-left.ensures c.args.at
    c.args.out.now held c.write_entries.ensures
