-- `equivocation::record_fits` meets its contract: by what the lent bytes are, 'a blank or unsound record, or records differing in n or f'.
-- Assumes nothing.
use mathlib.Core.Path.{refl, sym, ap, ◌∙◌}
use mathlib.Core.Bool.{not}
use Rattle.sound.specs.declared.Lent.TheVariants.{Blank, Unsound, Sound}
use Rattle.settings.specs.declared.Settings.{Settings}
use Rattle.contents.proofs.Sound.{size_sound}
use Rattle.equivocation.specs.Call.{unlike}
use Rattle.equivocation.proofs.Laws.{fits_by}
use Rattle.equivocation.proofs.record_fits.Goals as goal

pub settings_of-requires : goal.settings_of-requires
settings_of-requires c =
    size_sound c.args.rec.now (sym c.classify-lent.ensures ∙ c.in-Sound.is)

pub returns-in-Blank : goal.returns-in-Blank
returns-in-Blank c =
    let a = c.args in
    fits_by a.set a.rec.now Blank _ (sym c.classify-lent.ensures ∙ c.in-Blank.is) refl

pub returns-in-Unsound : goal.returns-in-Unsound
returns-in-Unsound c =
    let a = c.args in
    fits_by a.set a.rec.now Unsound _ (sym c.classify-lent.ensures ∙ c.in-Unsound.is) refl

pub returns-in-Sound : goal.returns-in-Sound
returns-in-Sound c =
    let a = c.args in
    fits_by a.set a.rec.now Sound _ (sym c.classify-lent.ensures ∙ c.in-Sound.is)
    (c.alike.ensures ∙ ap (λ (set : Settings). not (unlike a.set set)) c.settings_of.ensures)
