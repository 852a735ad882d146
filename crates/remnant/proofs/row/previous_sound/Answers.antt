-- `row::previous_sound` meets its contract: the two slots stand where the definition has them.
-- Assumes nothing.
use mathlib.Core.Path.{◌≡◌, ◌∙◌}
use native.Mathlib.Omega.{arith}
use lib.ListN.{length}
use Rattle.own.specs.Size.{remnant_size}
use Rattle.sound.specs.inside.Sound.{stands, previous_sound}
use Rattle.remnant.proofs.Alone.{head_there, last_there}
use Rattle.remnant.proofs.row.previous_sound.Goals as goal

pub returns : goal.returns
unfolding previous_sound
returns c =
    let own = c.args.own.now in
    let kind = c.args.kind in
    let (low, high, row) = c.requires in
    let size : length own ≡ remnant_size = omega arith in
    let highest = c.slot_in-highest.ensures ∙ head_there own size row kind (omega arith) (omega arith) in
    let previous = c.slot_in-previous.ensures ∙ last_there own size row kind low high in
    c.previous_stands.ensures ∙ (λ i. stands (highest i) (previous i))
