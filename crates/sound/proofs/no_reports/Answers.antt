-- `sound::no_reports` meets its contract: the three groups of a kind lie together.
-- Assumes nothing.
use mathlib.Core.Path.{ap, sym, ◌∙◌}
use native.Mathlib.Omega.{arith}
use Prim.Native.Nat.{ℕ, ◌*◌, ◌<◌}
use Rattle.record.specs.Slots.{rows, slot_of}
use Rattle.record.specs.Layout.{decode_record}
use Rattle.sound.specs.inside.Sound.{all}
use Rattle.sound.specs.inside.Bulk.{absent_from}
use Rattle.sound.proofs.Rows.{reports_short, told_whole}
use Rattle.sound.proofs.no_reports.Goals as goal

pub returns-then-kind-lt-SUGGEST : goal.returns-then-kind-lt-SUGGEST
returns-then-kind-lt-SUGGEST c =
    let a = c.args in
    sym (reports_short (slot_of (decode_record a.rec.now)) a.kind c.if-kind-lt-SUGGEST.true rows)

pub slots_absent-requires : goal.slots_absent-requires
slots_absent-requires c =
    let k = c.requires.1 in
    let h = c.report_slot.ensures in (
      record {
        below = omega (arith, h.2);
        whole = omega (arith, h.0, k, c.if-kind-lt-SUGGEST.false);
        part = λ (g : c.report_slot.result < rows). omega (arith, h.1, g);
      },
      c.requires.2,
    )

pub returns : goal.returns
returns c =
    let a = c.args in
    c.slots_absent.ensures ∙ ap (λ (x : ℕ). all (absent_from (slot_of (decode_record a.rec.now)) x) (3 * rows)) c.report_slot.ensures.0
    ∙ told_whole (slot_of (decode_record a.rec.now)) a.kind c.if-kind-lt-SUGGEST.false
