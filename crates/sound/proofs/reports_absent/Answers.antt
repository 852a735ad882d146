-- `sound::reports_absent` meets its contract: the three reports stand a group apart.
-- Assumes nothing.
use Prim.Native.Nat.{◌+◌, ◌*◌}
use mathlib.Core.Path.{◌≡◌, ap, sym, ◌∙◌}
use native.Mathlib.Omega.{arith}
use Rattle.frame.specs.Refusal.{absent}
use Rattle.record.specs.Slots.{report_slot, slot_of}
use Rattle.record.specs.Layout.{place, decode_record}
use Rattle.sound.specs.inside.Bulk.{group_size}
use Rattle.sound.proofs.Laws.{off, on, reports_highest, reports_previous, reports_lock}
use Rattle.sound.proofs.Places.{report_there}
use Rattle.sound.proofs.reports_absent.Goals as goal

pub returns-then-not-empty : goal.returns-then-not-empty
returns-then-not-empty c =
    let a = c.args in
    let k = c.report_place-at in
    let e₀ : k.result ≡ place (report_slot a.kind 0 a.sender) + 0 * group_size = omega (arith, k.ensures.0) in
    let t₀ = c.slot_at.ensures ∙ report_there a.rec.now a.kind 0 a.sender c.requires.1 (omega arith) e₀ in
    sym (reports_highest (slot_of (decode_record a.rec.now)) a.kind a.sender (off (c.empty.ensures ∙ ap absent t₀) c.if-not-empty.true))

pub returns-then-not-empty-2 : goal.returns-then-not-empty-2
returns-then-not-empty-2 c =
    let a = c.args in
    let k = c.report_place-at in
    let e₀ : k.result ≡ place (report_slot a.kind 0 a.sender) + 0 * group_size = omega (arith, k.ensures.0) in
    let e₁ : k.result + group_size ≡ place (report_slot a.kind 0 a.sender) + 1 * group_size = omega (arith, k.ensures.0) in
    let t₀ = c.slot_at.ensures ∙ report_there a.rec.now a.kind 0 a.sender c.requires.1 (omega arith) e₀ in
    let t₁ = c.slot_at-2.ensures ∙ report_there a.rec.now a.kind 1 a.sender c.requires.1 (omega arith) e₁ in
    sym (reports_previous (slot_of (decode_record a.rec.now)) a.kind a.sender
    (on (c.empty.ensures ∙ ap absent t₀) c.if-not-empty.false) (off (c.empty-2.ensures ∙ ap absent t₁) c.if-not-empty-2.true))

pub returns : goal.returns
returns c =
    let a = c.args in
    let k = c.report_place-at in
    let e₀ : k.result ≡ place (report_slot a.kind 0 a.sender) + 0 * group_size = omega (arith, k.ensures.0) in
    let e₁ : k.result + group_size ≡ place (report_slot a.kind 0 a.sender) + 1 * group_size = omega (arith, k.ensures.0) in
    let e₂ : k.result + 2 * group_size ≡ place (report_slot a.kind 0 a.sender) + 2 * group_size = omega (arith, k.ensures.0) in
    let t₀ = c.slot_at.ensures ∙ report_there a.rec.now a.kind 0 a.sender c.requires.1 (omega arith) e₀ in
    let t₁ = c.slot_at-2.ensures ∙ report_there a.rec.now a.kind 1 a.sender c.requires.1 (omega arith) e₁ in
    let t₂ = c.slot_at-3.ensures ∙ report_there a.rec.now a.kind 2 a.sender c.requires.1 (omega arith) e₂ in
    c.empty-3.ensures ∙ ap absent t₂
    ∙ sym (reports_lock (slot_of (decode_record a.rec.now)) a.kind a.sender
    (on (c.empty.ensures ∙ ap absent t₀) c.if-not-empty.false) (on (c.empty-2.ensures ∙ ap absent t₁) c.if-not-empty-2.false))
