-- `questions::decision_of` meets its contract: by what the lent bytes are, a refusal or what a sound record tells.
-- Assumes nothing.
use mathlib.Core.Path.{◌≡◌, ap, ◌∙◌}
use borrow.Author.Rules.{rules}
use Rattle.std.specs.Prelude.{Ok, Err}
use Rattle.sound.specs.declared.Lent.TheVariants.{Sound}
use Rattle.sound.specs.inside.Sound.{lent_is}
use Rattle.questions.proofs.Laws.{unsound_decision, sound_lent, decision_is}
use Rattle.questions.proofs.decision_of.Goals as goal

pub made-requires : goal.made-requires
made-requires c = sound_lent (lent_is c.args.bytes.now) _ c.in_ok-lent_refusal.ensures

pub returns-in_err-lent_refusal : goal.returns-in_err-lent_refusal
returns-in_err-lent_refusal c =
    let is : c.from_residual.result ≡ Err c.in_err-lent_refusal.field-0.0 = search rules in
    rw is (unsound_decision c.args.bytes.now _ c.in_err-lent_refusal.ensures)

pub returns : goal.returns
returns c =
    let is = sound_lent (lent_is c.args.bytes.now) _ c.in_ok-lent_refusal.ensures in
    ap (λ x. Ok x) c.made.ensures ∙ decision_is c.args.bytes.now Sound is
