-- `sound::classify` meets its contract: the length, then n, then the bytes where they lie.
-- Assumes nothing.
use mathlib.Core.Path.{ap, sym, ◌∙◌}
use mathlib.Core.Bool.{Bool, cond}
use Rattle.record.specs.Slots.{slot_of}
use Rattle.record.specs.Layout.{decode_record}
use Rattle.sound.specs.declared.Lent.TheVariants.{Unsound, Sound}
use Rattle.sound.specs.inside.Sound.{sound_in}
use Rattle.sound.proofs.Laws.{lent_length, lent_blank, lent_other}
use Rattle.sound.proofs.classify.Goals as goal

pub returns-then-rec-ne-SIZE : goal.returns-then-rec-ne-SIZE
returns-then-rec-ne-SIZE c = sym (lent_length c.args.rec.now c.if-rec-ne-SIZE.true)

pub returns-then-rec-eq0 : goal.returns-then-rec-eq0
unfolding decode_record
returns-then-rec-eq0 c = sym (lent_blank c.args.rec.now c.if-rec-ne-SIZE.false c.if-rec-eq0.true)

pub returns-then-sound_in : goal.returns-then-sound_in
unfolding decode_record
returns-then-sound_in c =
    let s = c.args.rec.now in
    let set = c.settings_of-set.ensures in
    let view = c.view_of.ensures in
    let e = sym (c.sound_in.ensures ∙ (λ i. sound_in (slot_of (decode_record s)) (set i) (view i))) ∙ c.if-sound_in.true in
    sym (lent_other s c.if-rec-ne-SIZE.false c.if-rec-eq0.false ∙ ap (λ (b : Bool). cond b Sound Unsound) e)

pub returns : goal.returns
unfolding decode_record
returns c =
    let s = c.args.rec.now in
    let set = c.settings_of-set.ensures in
    let view = c.view_of.ensures in
    let e = sym (c.sound_in.ensures ∙ (λ i. sound_in (slot_of (decode_record s)) (set i) (view i))) ∙ c.if-sound_in.false in
    sym (lent_other s c.if-rec-ne-SIZE.false c.if-rec-eq0.false ∙ ap (λ (b : Bool). cond b Sound Unsound) e)
