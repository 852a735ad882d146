-- `sound::lent_refusal` meets its contract: by what the lent bytes are.
-- Assumes nothing.
use mathlib.Core.Path.{sym, ap, ◌∙◌}
use Rattle.sound.specs.inside.Sound.{lent_refusal}
use Rattle.sound.proofs.lent_refusal.Goals as goal

pub returns-in-Blank : goal.returns-in-Blank
returns-in-Blank c = sym (ap lent_refusal (sym c.classify.ensures ∙ c.in-Blank.is))
