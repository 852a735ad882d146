-- `pass::take_step` meets its contract: the act says which step it is of.
-- Assumes nothing.
use mathlib.Core.Path.{◌∙◌, ap}
use Rattle.std.specs.Prelude.{Some}
use Rattle.contents.specs.Contents.{contents_in}
use Rattle.acts.specs.inside.Acts.{as_act}
use Rattle.pass.proofs.Passes.{ran_idle, number_is, due_as, room_as, ran_as}
use Rattle.pass.proofs.take_step.Goals as goal

pub run_ask-requires : goal.run_ask-requires
run_ask-requires c =
    let n = number_is c.args.act c.requires.0 (ap as_act (c.in-Some-Ask.is ∙ ap Some (rw c.in-Some-Ask.is at c.in-Some-Ask.field-0-is))) in (
      due_as c.args.act c.requires.0 (ap as_act (c.in-Some-Ask.is ∙ ap Some (rw c.in-Some-Ask.is at c.in-Some-Ask.field-0-is))) n,
      room_as n (contents_in c.args.rec.now) c.args.at
          c.args.out.now c.requires.1,
    )

pub run_enter-requires : goal.run_enter-requires
run_enter-requires c =
    let n = number_is c.args.act c.requires.0 (ap as_act (c.in-Some-Enter.is ∙ ap Some (rw c.in-Some-Enter.is at c.in-Some-Enter.field-0-is))) in (
      due_as c.args.act c.requires.0 (ap as_act (c.in-Some-Enter.is ∙ ap Some (rw c.in-Some-Enter.is at c.in-Some-Enter.field-0-is))) n,
      room_as n (contents_in c.args.rec.now) c.args.at
          c.args.out.now c.requires.1,
    )

pub run_cast-requires : goal.run_cast-requires
run_cast-requires c =
    let n = number_is c.args.act c.requires.0 (ap as_act (c.in-Some-Cast.is ∙ ap Some (rw c.in-Some-Cast.is at c.in-Some-Cast.field-0-is))) in (
      due_as c.args.act c.requires.0 (ap as_act (c.in-Some-Cast.is ∙ ap Some (rw c.in-Some-Cast.is at c.in-Some-Cast.field-0-is))) n.0,
      n.1,
      room_as n.0 (contents_in c.args.rec.now)
          c.args.at c.args.out.now c.requires.1,
    )

pub run_decide-requires : goal.run_decide-requires
run_decide-requires c =
    let n = number_is c.args.act c.requires.0 (ap as_act (c.in-Some-Decide.is ∙ ap Some (rw c.in-Some-Decide.is at c.in-Some-Decide.field-0-is))) in (
      due_as c.args.act c.requires.0 (ap as_act (c.in-Some-Decide.is ∙ ap Some (rw c.in-Some-Decide.is at c.in-Some-Decide.field-0-is))) n,
      room_as n (contents_in c.args.rec.now) c.args.at
          c.args.out.now c.requires.1,
    )

pub returns-in-Some-Ask : goal.returns-in-Some-Ask
returns-in-Some-Ask c =
    let n = number_is c.args.act c.requires.0 (ap as_act (c.in-Some-Ask.is ∙ ap Some (rw c.in-Some-Ask.is at c.in-Some-Ask.field-0-is))) in
    ran_as n (contents_in c.args.rec.now) c.args.at c.args.out.now c.run_ask.ensures

pub returns-in-Some-Enter : goal.returns-in-Some-Enter
returns-in-Some-Enter c =
    let n = number_is c.args.act c.requires.0 (ap as_act (c.in-Some-Enter.is ∙ ap Some (rw c.in-Some-Enter.is at c.in-Some-Enter.field-0-is))) in
    ran_as n (contents_in c.args.rec.now) c.args.at c.args.out.now c.run_enter.ensures

pub returns-in-Some-Cast : goal.returns-in-Some-Cast
returns-in-Some-Cast c =
    let n = number_is c.args.act c.requires.0 (ap as_act (c.in-Some-Cast.is ∙ ap Some (rw c.in-Some-Cast.is at c.in-Some-Cast.field-0-is))) in
    ran_as n.0 (contents_in c.args.rec.now) c.args.at c.args.out.now c.run_cast.ensures

pub returns-in-Some-Decide : goal.returns-in-Some-Decide
returns-in-Some-Decide c =
    let n = number_is c.args.act c.requires.0 (ap as_act (c.in-Some-Decide.is ∙ ap Some (rw c.in-Some-Decide.is at c.in-Some-Decide.field-0-is))) in
    ran_as n (contents_in c.args.rec.now) c.args.at c.args.out.now c.run_decide.ensures

pub returns-in-None : goal.returns-in-None
returns-in-None c =
    let due = c.requires.0 in
    ran_idle c.args.k c.args.act c.args.rec.now due.ready due.is c.in-None.is c.args.at c.args.out.now
