-- `row::votes_sound` meets its contract: the two previous votes, and the decision.
-- Assumes nothing.
use mathlib.Core.Path.{ap, sym, ◌∙◌}
use mathlib.Core.Bool.{not}
use native.Mathlib.Omega.{arith}
use Rattle.frame.specs.declared.Report.{Report}
use Rattle.frame.specs.Refusal.{bad_form}
use Rattle.sound.proofs.Laws.{off, on, votes_first, votes_second, votes_decision}
use Rattle.remnant.specs.inside.Parts.{id_in, row_in}
use Rattle.remnant.proofs.Alone.{decision_there}
use Rattle.remnant.proofs.row.votes_sound.Goals as goal

pub returns-then-not-previous_sound : goal.returns-then-not-previous_sound
returns-then-not-previous_sound c =
    let own = c.args.own.now in
    sym (votes_first (row_in own) (id_in own) (off c.previous_sound.ensures c.if-not-previous_sound.true))

pub returns-then-not-previous_sound-2 : goal.returns-then-not-previous_sound-2
returns-then-not-previous_sound-2 c =
    let own = c.args.own.now in
    sym (votes_second (row_in own) (id_in own) (on c.previous_sound.ensures c.if-not-previous_sound.false)
    (off c.previous_sound-2.ensures c.if-not-previous_sound-2.true))

pub returns : goal.returns
returns c =
    let own = c.args.own.now in
    c.well_formed-2.ensures ∙ ap (λ (x : Report). not (bad_form x)) (c.slot_in.ensures ∙ decision_there own (omega arith) c.requires)
    ∙ sym (votes_decision (row_in own) (id_in own) (on c.previous_sound.ensures c.if-not-previous_sound.false)
    (on c.previous_sound-2.ensures c.if-not-previous_sound-2.false))
