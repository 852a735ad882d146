-- `questions::current_of` meets its contract: by what the lent bytes are, a refusal or what a sound record tells.
-- Assumes nothing.
use mathlib.Core.Path.{◌≡◌, ap, ◌∙◌}
use borrow.Author.Rules.{rules}
use Rattle.std.specs.Prelude.{Ok, Err}
use Rattle.sound.specs.declared.Lent.TheVariants.{Sound}
use Rattle.sound.specs.inside.Sound.{lent_is}
use Rattle.questions.proofs.Laws.{unsound_current, sound_lent, current_is}
use Rattle.questions.proofs.current_of.Goals as goal

pub entered-requires : goal.entered-requires
entered-requires c = sound_lent (lent_is c.args.rec.now) _ c.in_ok-lent_refusal.ensures

pub returns-in_err-lent_refusal : goal.returns-in_err-lent_refusal
returns-in_err-lent_refusal c =
    let is : c.from_residual.result ≡ Err c.in_err-lent_refusal.field-0.0 = search rules in
    rw is (unsound_current c.args.rec.now _ c.in_err-lent_refusal.ensures)

pub returns : goal.returns
returns c =
    let is = sound_lent (lent_is c.args.rec.now) _ c.in_ok-lent_refusal.ensures in
    ap (λ x. Ok x) c.entered.ensures ∙ current_is c.args.rec.now Sound is
