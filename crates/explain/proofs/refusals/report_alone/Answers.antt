-- `explain::refusals::report_alone` meets its contract: the refusal says which test is asked.
-- Assumes nothing.
use Prim.Native.Nat.{ℕ}
use mathlib.Core.Path.{◌≡◌, refl, sym}
use Rattle.frame.specs.declared.Report.{Report}
use Rattle.frame.specs.declared.Refusal.{Refusal}
use Rattle.frame.specs.declared.Refusal.TheVariants as why
use Rattle.frame.specs.Numbers.{number_of}
use Rattle.explain.specs.inside.Faults.{fault_alone}
use Rattle.explain.proofs.refusals.report_alone.Goals as goal

-- Any other refusal finds nothing in a report.
other_alone : (reason : Refusal) (view : ℕ) (r : Report) → (reason ≡ why.Report → ⊥) → (reason ≡ why.ReportView → ⊥) → fault_alone (number_of reason) view r ≡ 0
unfolding fault_alone
other_alone why.Output view r not14 not21 = refl
other_alone why.Blank view r not14 not21 = refl
other_alone why.Unsound view r not14 not21 = refl
other_alone why.Started view r not14 not21 = refl
other_alone why.N view r not14 not21 = refl
other_alone why.F view r not14 not21 = refl
other_alone why.Id view r not14 not21 = refl
other_alone why.Class view r not14 not21 = refl
other_alone why.Kind view r not14 not21 = refl
other_alone why.Length view r not14 not21 = refl
other_alone why.Link view r not14 not21 = refl
other_alone why.Sender view r not14 not21 = refl
other_alone why.ViewZero view r not14 not21 = refl
other_alone why.Report view r not14 not21 = absurd (not14 refl)
other_alone why.Leader view r not14 not21 = refl
other_alone why.Over view r not14 not21 = refl
other_alone why.Kept view r not14 not21 = refl
other_alone why.Timer view r not14 not21 = refl
other_alone why.LastView view r not14 not21 = refl
other_alone why.Line view r not14 not21 = refl
other_alone why.ReportView view r not14 not21 = absurd (not21 refl)
other_alone why.Previous view r not14 not21 = refl
other_alone why.Name view r not14 not21 = refl
other_alone why.Records view r not14 not21 = refl
other_alone why.RemnantLength view r not14 not21 = refl
other_alone why.RemnantUnsound view r not14 not21 = refl

pub returns-in-Report : goal.returns-in-Report
unfolding fault_alone
returns-in-Report c = rw c.in-Report.is c.form_fault.ensures

pub returns-in-ReportView : goal.returns-in-ReportView
unfolding fault_alone
returns-in-ReportView c = rw c.in-ReportView.is c.view_fault.ensures

pub returns-in_default : goal.returns-in_default
returns-in_default c = sym (other_alone c.args.why c.args.view c.args.r c.in_default.not-Report c.in_default.not-ReportView)
