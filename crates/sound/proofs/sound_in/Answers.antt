-- `sound::sound_in` meets its contract: settings that pass give an own row to look up.
-- Assumes nothing.
use mathlib.Core.Path.{sym, ◌∙◌}
use native.Mathlib.Omega.{arith}
use Rattle.frame.proofs.Laws.{told, refuses, passes}
use Rattle.settings.proofs.Allowed.{allowed}
use Rattle.record.specs.Slots.{slot_of}
use Rattle.record.specs.Layout.{decode_record}
use Rattle.sound.proofs.Laws.{off, on, sound_settings, sound_rows, sound_votes}
use Rattle.sound.proofs.sound_in.Goals as goal

pub returns-then-is_err : goal.returns-then-is_err
returns-then-is_err c =
    let a = c.args in
    sym (sound_settings (slot_of (decode_record a.rec.now)) a.set a.view (refuses _ (told c.is_err.ensures.value c.if-is_err.true) c.settings_refusal.ensures))

pub rows_sound-requires : goal.rows_sound-requires
rows_sound-requires c =
    let h = allowed c.args.set (passes _ (told c.is_err.ensures.value c.if-is_err.false) c.settings_refusal.ensures) in
    (omega arith, c.requires)

pub returns-then-not-rows_sound : goal.returns-then-not-rows_sound
returns-then-not-rows_sound c =
    let a = c.args in
    sym (sound_rows (slot_of (decode_record a.rec.now)) a.set a.view (passes _ (told c.is_err.ensures.value c.if-is_err.false) c.settings_refusal.ensures)
    (off c.rows_sound.ensures c.if-not-rows_sound.true))

pub votes_sound-requires : goal.votes_sound-requires
votes_sound-requires c =
    let h = allowed c.args.set (passes _ (told c.is_err.ensures.value c.if-is_err.false) c.settings_refusal.ensures) in
    (omega arith, c.requires)

pub returns : goal.returns
returns c =
    let a = c.args in
    c.votes_sound.ensures
    ∙ sym (sound_votes (slot_of (decode_record a.rec.now)) a.set a.view (passes _ (told c.is_err.ensures.value c.if-is_err.false) c.settings_refusal.ensures)
    (on c.rows_sound.ensures c.if-not-rows_sound.false))
