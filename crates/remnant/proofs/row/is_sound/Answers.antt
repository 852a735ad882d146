-- `row::is_sound` meets its contract: the own frames, then the own votes.
-- Assumes nothing.
use mathlib.Core.Path.{sym, ◌∙◌}
use borrow.Author.Rules.{rules}
use Rattle.sound.proofs.Laws.{off, on}
use Rattle.remnant.proofs.Alone.{fitting_row, own_frames, own_votes}
use Rattle.remnant.proofs.row.is_sound.Goals as goal

pub returns-then-not-frames_sound : goal.returns-then-not-frames_sound
returns-then-not-frames_sound c =
    sym (own_frames c.args.own.now (λ i. search rules) c.requires c.view_in.ensures
    (off c.frames_sound.ensures c.if-not-frames_sound.true))

pub votes_sound-requires : goal.votes_sound-requires
votes_sound-requires c =
    fitting_row c.args.own.now c.requires

pub returns : goal.returns
returns c =
    c.votes_sound.ensures
    ∙ sym (own_votes c.args.own.now (λ i. search rules) c.requires c.view_in.ensures
    (on c.frames_sound.ensures c.if-not-frames_sound.false))
