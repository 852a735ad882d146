-- `sound::report_fits` meets its contract: absent, or below the view.
-- Assumes nothing.
use Prim.Native.Nat.{ℕ}
use mathlib.Core.Path.{ap, sym, ◌∙◌}
use lib.Dec.{ltb}
use Rattle.frame.specs.Refusal.{absent}
use Rattle.record.specs.Layout.{slot_in}
use Rattle.sound.proofs.Forms.{report_absent, report_present}
use Rattle.sound.proofs.report_fits.Goals as goal

pub returns-then-rec-at-ne-PRESENT : goal.returns-then-rec-at-ne-PRESENT
returns-then-rec-at-ne-PRESENT c =
    let a = c.args in
    c.empty.ensures ∙ ap absent c.slot_at.ensures
    ∙ sym (report_absent a.view (slot_in a.rec.now a.at) c.if-rec-at-ne-PRESENT.true)

pub returns : goal.returns
returns c =
    let a = c.args in
    ap (λ (x : ℕ). ltb x a.view) c.view_at.ensures
    ∙ sym (report_present a.view (slot_in a.rec.now a.at) c.if-rec-at-ne-PRESENT.false)
