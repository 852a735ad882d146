-- `steps::shift` meets its contract: by whether the kept vote moves.
-- Assumes nothing.
use Prim.Native.Nat.{◌≤◌}
use mathlib.Core.Path.{ap, ◌∙◌}
use Rattle.sound.proofs.Laws.{off, on}
use native.Mathlib.Omega.{arith}
use Rattle.record.proofs.Kept.{moves_kind}
use Rattle.own.specs.inside.Own.{own_in}
use Rattle.steps.proofs.Steps.{put_as, shift_stays, shift_moves}
use Rattle.steps.proofs.shift.Goals as goal
use Rattle.steps.proofs.shift.Goals.{Else-not-vote_moves}

pub returns-then-not-vote_moves : goal.returns-then-not-vote_moves
returns-then-not-vote_moves c =
    let slot = c.slot_in-slot.ensures ∙ ap (own_in c.args.part.now) c.slot_of_kind.ensures in
    shift_stays c.args.part.now (omega arith) c.args.kind c.args.p c.requires.0 c.requires.1 slot
    (off c.vote_moves.ensures c.if-not-vote_moves.true)

-- Only vote-1 and vote-2 move.
moved : (c : Else-not-vote_moves) → (2 ≤ c.args.kind) ×
    (c.args.kind ≤ 3)
moved c =
    let a = c.args in
    moves_kind c.slot_in-slot.result a.kind a.p (on c.vote_moves.ensures c.if-not-vote_moves.false)

pub slot_of_previous-requires : goal.slot_of_previous-requires
slot_of_previous-requires c = moved (goal.at.slot_of_previous-requires c).Else-not-vote_moves

pub put_in-requires : goal.put_in-requires
put_in-requires c =
    omega (arith, c.slot_of_previous.ensures, (moved (goal.at.put_in-requires c).Else-not-vote_moves).1)

pub returns : goal.returns
returns c =
    let slot = c.slot_in-slot.ensures ∙ ap (own_in c.args.part.now)
    c.slot_of_kind.ensures in
    shift_moves c.args.part.now (omega arith) c.args.kind c.args.p c.requires.0 c.requires.1 slot
    (on c.vote_moves.ensures c.if-not-vote_moves.false)
    (put_as _ c.slot_of_previous.ensures c.put_in.ensures.changes)
