-- `sound::reports_fit` meets its contract: report by report, then the previous vote against the highest.
-- Assumes nothing.
use Prim.Native.Nat.{ℕ, ◌+◌, ◌*◌, ◌<◌}
use mathlib.Core.Path.{◌≡◌, ap, sym, ◌∙◌}
use mathlib.Core.Bool.{Bool, not}
use native.Mathlib.Omega.{arith}
use Rattle.frame.specs.Refusal.{bad_previous}
use Rattle.frame.specs.declared.Report.{Report}
use Rattle.frame.specs.declared.Reports.{Reports}
use Rattle.record.specs.Slots.{report_slot, slot_of}
use Rattle.record.specs.Layout.{slot_in, decode_record}
use Rattle.record.specs.Kept.{reports_in}
use Rattle.sound.specs.inside.Bulk.{group_size, report_fits}
use Rattle.sound.proofs.Laws.{off, on}
use Rattle.sound.proofs.Places.{report_there}
use Rattle.sound.proofs.Forms.{fits_highest, fits_previous, fits_lock, fits_all}
use Rattle.sound.proofs.reports_fit.Goals as goal
use Rattle.sound.proofs.reports_fit.Goals.{After-report_place-at}

-- The three reports of the row, and whether one fits.
abbrev row : After-report_place-at → Reports
row c = let a = c.args in reports_in (slot_of (decode_record a.rec.now)) a.kind a.sender

abbrev report : After-report_place-at → ℕ → Report
report c w = let a = c.args in slot_of (decode_record a.rec.now) (report_slot a.kind w a.sender)

abbrev fits : After-report_place-at → ℕ → Bool
fits c w = report_fits c.args.view (report c w)

-- Where report w stands.
there : (c : After-report_place-at) (w at : ℕ) → w < 3 → at ≡ c.report_place-at.result + w * group_size
    → slot_in c.args.rec.now at ≡ report c w
there c w at low is =
    report_there c.args.rec.now c.args.kind w c.args.sender c.requires.1 low (omega (arith, is, c.report_place-at.ensures.0))

-- What is told of one of the three.
one : (c : After-report_place-at) (w at : ℕ) (b : Bool) → w < 3 → at ≡ c.report_place-at.result + w * group_size
    → b ≡ report_fits c.args.view (slot_in c.args.rec.now at) → b ≡ fits c w
one c w at b low is e = e ∙ ap (report_fits _) (there c w at low is)

pub returns-then-not-report_fits : goal.returns-then-not-report_fits
returns-then-not-report_fits c = sym (fits_highest _ (row (goal.at.returns-then-not-report_fits c).After-report_place-at) (off (one (goal.at.returns-then-not-report_fits c).After-report_place-at 0 c.report_place-at.result c.report_fits.result (omega arith) (omega arith) c.report_fits.ensures) c.if-not-report_fits.true))

pub returns-then-not-report_fits-2 : goal.returns-then-not-report_fits-2
returns-then-not-report_fits-2 c =
    sym (fits_previous _ (row (goal.at.returns-then-not-report_fits-2 c).After-report_place-at) (on (one (goal.at.returns-then-not-report_fits-2 c).After-report_place-at 0 c.report_place-at.result c.report_fits.result (omega arith) (omega arith) c.report_fits.ensures) c.if-not-report_fits.false) (off (one (goal.at.returns-then-not-report_fits-2 c).After-report_place-at 1 (c.report_place-at.result + group_size) c.report_fits-2.result (omega arith) (omega arith) c.report_fits-2.ensures) c.if-not-report_fits-2.true))

pub returns-then-not-report_fits-3 : goal.returns-then-not-report_fits-3
returns-then-not-report_fits-3 c =
    sym (fits_lock _ (row (goal.at.returns-then-not-report_fits-3 c).After-report_place-at) (on (one (goal.at.returns-then-not-report_fits-3 c).After-report_place-at 0 c.report_place-at.result c.report_fits.result (omega arith) (omega arith) c.report_fits.ensures) c.if-not-report_fits.false) (on (one (goal.at.returns-then-not-report_fits-3 c).After-report_place-at 1 (c.report_place-at.result + group_size) c.report_fits-2.result (omega arith) (omega arith) c.report_fits-2.ensures) c.if-not-report_fits-2.false)
    (off (one (goal.at.returns-then-not-report_fits-3 c).After-report_place-at 2 (c.report_place-at.result + 2 * group_size) c.report_fits-3.result (omega arith) (omega arith) c.report_fits-3.ensures) c.if-not-report_fits-3.true))

pub returns : goal.returns
returns c =
    let h = c.slot_at.ensures ∙ there (goal.at.returns c).After-report_place-at 0 c.report_place-at.result (omega arith) (omega arith) in
    let p = c.slot_at-2.ensures ∙ there (goal.at.returns c).After-report_place-at 1 (c.report_place-at.result + group_size) (omega arith) (omega arith) in
    c.follows.ensures ∙ (λ i. not (bad_previous (h i) (p i)))
    ∙ sym (fits_all _ (row (goal.at.returns c).After-report_place-at) (on (one (goal.at.returns c).After-report_place-at 0 c.report_place-at.result c.report_fits.result (omega arith) (omega arith) c.report_fits.ensures) c.if-not-report_fits.false) (on (one (goal.at.returns c).After-report_place-at 1 (c.report_place-at.result + group_size) c.report_fits-2.result (omega arith) (omega arith) c.report_fits-2.ensures) c.if-not-report_fits-2.false) (on (one (goal.at.returns c).After-report_place-at 2 (c.report_place-at.result + 2 * group_size) c.report_fits-3.result (omega arith) (omega arith) c.report_fits-3.ensures) c.if-not-report_fits-3.false))
