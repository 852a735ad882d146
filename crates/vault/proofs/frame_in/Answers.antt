-- `vault::frame_in` meets its contract: by what the frame reader answers.
-- Assumes nothing.
use borrow.Author.Rules.{rules}
use mathlib.Core.Path.{refl, sym, ap, ◌∙◌}
use Rattle.frame.specs.Answers.{reading}
use Rattle.contents.proofs.Sound.{size_sound}
use Rattle.vault.proofs.Heard.{read_refused, read_accepted, read_then}
use Rattle.vault.proofs.frame_in.Goals as goal

pub settings_of-set-requires : goal.settings_of-set-requires
settings_of-set-requires c =
    let rec = c.args.rec.now in
    size_sound rec c.requires.0

pub returns-in_default : goal.returns-in_default
returns-in_default c =
    let rec = c.args.rec.now in
    let out = c.args.out.now in
    read_refused rec c.args.bytes.now c.args.sender out c.requires.0 c.requires.1
    c.settings_of-set.result c.settings_of-set.ensures _ (ap reading (sym c.unwrap_err.ensures) ∙ c.read-got.ensures) _ refl

pub frame_read-requires : goal.frame_read-requires
frame_read-requires c =
    let rec = c.args.rec.now in
    let out = c.args.out.now in
    let read = read_then rec c.args.bytes.now c.args.sender out c.requires.0 c.requires.1
    c.settings_of-set.result c.settings_of-set.ensures _ c.in-Ok.ensures
    (λ i. search rules) (λ i. (c.type_inv.bytes i).fits) c.in-Ok.f refl in
    (read, c.requires.1)

pub returns : goal.returns
returns c =
    let rec = c.args.rec.now in
    let out = c.args.out.now in
    c.frame_read.ensures
    ∙ read_accepted rec c.args.bytes.now c.args.sender out c.requires.0 c.requires.1
    c.settings_of-set.result c.settings_of-set.ensures _ c.in-Ok.ensures c.in-Ok.f refl
