-- `keeping::put_reports` meets its contract: the three reports stand 64 slots apart.
-- Assumes nothing.
use Prim.Native.Nat.{◌+◌, ◌*◌}
use mathlib.Core.Path.{◌≡◌}
use native.Mathlib.Omega.{arith}
use Rattle.record.specs.Slots.{rows, report_slot}
use Rattle.record.proofs.Put.{held_reports}
use Rattle.record.proofs.keeping.put_reports.Goals as goal

pub returns : goal.returns
returns c =
    let a = c.args in
    let at = c.report_slot-first.result in
    let e₀ = c.report_slot-first.ensures.0 in
    let e₁ : at + rows ≡ report_slot a.kind 1 a.sender = omega (arith, e₀, c.requires.0) in
    let e₂ : at + 2 * rows ≡ report_slot a.kind 2 a.sender = omega (arith, e₀, c.requires.0) in
    held_reports _ _ _ _ a.kind a.sender a.t e₀ e₁ e₂
    c.put_slot.ensures c.put_slot-2.ensures c.put_slot-3.ensures
