-- `remnant::makes_sound` meets its contract: settings that are refused make no sound record.
-- Assumes nothing.
use mathlib.Core.Path.{sym, ap, ◌∙◌}
use Rattle.frame.specs.Refusal.{first}
use Rattle.frame.proofs.Laws.{told, refuses, passes}
use Rattle.settings.specs.declared.Settings.{Settings}
use Rattle.settings.specs.Settings.{setting_rows}
use Rattle.remnant.proofs.Laws.{back_refused}
use Rattle.remnant.proofs.makes_sound.Goals as goal

pub returns-then-is_err : goal.returns-then-is_err
returns-then-is_err c =
    let remnant = c.args.remnant.now in
    let gives = c.settings_refusal.ensures ∙ ap (λ (set : Settings). first (setting_rows set)) c.requires in
    sym (back_refused remnant (refuses _ (told c.is_err.ensures.value c.if-is_err.true) gives))

pub is_sound-requires : goal.is_sound-requires
is_sound-requires c =
    record {
      is = c.requires;
      good = passes _ (told c.is_err.ensures.value c.if-is_err.false) c.settings_refusal.ensures;
    }
