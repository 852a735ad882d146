-- `row::empty_at` meets its contract: the frame's slot, and the reports of kinds 7 and 8, one after the other.
-- Assumes nothing.
use mathlib.Core.Path.{◌≡◌, sym, ap, ◌∙◌}
use Rattle.frame.specs.declared.Reports.{Reports}
use Rattle.frame.specs.Refusal.{absent}
use Rattle.record.specs.Slots.{report_slot}
use Rattle.sound.specs.inside.Sound.{reports_absent, empty_at}
use Rattle.sound.proofs.Laws.{off, on, reports_highest, reports_previous, reports_lock, empty_frame, empty_short, empty_reports}
use Rattle.remnant.specs.inside.Parts.{id_in, row_in}
use Rattle.remnant.proofs.row.empty_at.Goals as goal
use Rattle.remnant.proofs.row.empty_at.Goals.{After-empty-2, After-empty-3, After-reports_in-told}

pub returns-then-not-empty : goal.returns-then-not-empty
returns-then-not-empty c =
    let own = c.args.own.now in
    sym (empty_frame (row_in own) c.args.kind (id_in own) (off (c.empty.ensures ∙ ap absent c.requires.1.is) c.if-not-empty.true))

pub returns-then-kind-lt-SUGGEST : goal.returns-then-kind-lt-SUGGEST
returns-then-kind-lt-SUGGEST c =
    let own = c.args.own.now in
    let none = on (c.empty.ensures ∙ ap absent c.requires.1.is) c.if-not-empty.false in
    sym (empty_short (row_in own) c.args.kind (id_in own) none c.if-kind-lt-SUGGEST.true)

-- The frame's slot is empty: the reports decide.
told : (c : After-reports_in-told) → let own = c.args.own.now in
    empty_at (row_in own) c.args.kind (id_in own) ≡ reports_absent (row_in own) c.args.kind (id_in own)
told c =
    let own = c.args.own.now in
    empty_reports (row_in own) c.args.kind (id_in own) (on (c.empty.ensures ∙ ap absent c.requires.1.is) c.if-not-empty.false) c.if-kind-lt-SUGGEST.false

-- Whether the highest is absent, and whether the previous is.
highest : (c : After-empty-2) → let own = c.args.own.now in
    c.empty-2.result ≡ absent (row_in own (report_slot c.args.kind 0 (id_in own)))
highest c = c.empty-2.ensures ∙ ap (λ (r : Reports). absent r.highest) c.reports_in-told.ensures

previous : (c : After-empty-3) → let own = c.args.own.now in
    c.empty-3.result ≡ absent (row_in own (report_slot c.args.kind 1 (id_in own)))
previous c = c.empty-3.ensures ∙ ap (λ (r : Reports). absent r.previous) c.reports_in-told.ensures

pub returns-then-not-empty-2 : goal.returns-then-not-empty-2
returns-then-not-empty-2 c =
    sym (told (goal.at.returns-then-not-empty-2 c).After-reports_in-told ∙ reports_highest _ _ _ (off (highest (goal.at.returns-then-not-empty-2 c).After-empty-2) c.if-not-empty-2.true))

pub returns-then-not-empty-3 : goal.returns-then-not-empty-3
returns-then-not-empty-3 c =
    sym (told (goal.at.returns-then-not-empty-3 c).After-reports_in-told ∙ reports_previous _ _ _ (on (highest (goal.at.returns-then-not-empty-3 c).After-empty-2) c.if-not-empty-2.false) (off (previous (goal.at.returns-then-not-empty-3 c).After-empty-3) c.if-not-empty-3.true))

pub returns : goal.returns
returns c =
    c.empty-4.ensures ∙ ap (λ (r : Reports). absent r.lock) c.reports_in-told.ensures
    ∙ sym (told (goal.at.returns c).After-reports_in-told ∙ reports_lock _ _ _ (on (highest (goal.at.returns c).After-empty-2) c.if-not-empty-2.false) (on (previous (goal.at.returns c).After-empty-3) c.if-not-empty-3.false))
