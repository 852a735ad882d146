-- Which sentence the desk is told of a report at fault, by the reader's own tests: 1 to 6, in the order of `say_wrong`, and 0 for none.
-- Assumes nothing.
use Rattle.std.specs.Prelude.{Option, Some, None, ℕ, cond, leb, ltb, eqb}
use Rattle.explain.specs.declared.refusals.Fault.{Fault}
use Rattle.explain.specs.declared.refusals.Fault.TheVariants.{BadMark, NotAllZero, ViewTooHigh, NoHighest, NotBelowHighest, HighestPlan}
use Rattle.frame.specs.declared.Report.{Report}
use Rattle.frame.specs.Refusal.{present, bad_form, too_high, bad_previous}

-- The number of the sentence for what is found; 0 for none.
abbrev pub fault_number : Option Fault → ℕ
fault_number None = 0
fault_number (Some BadMark) = 1
fault_number (Some NotAllZero) = 2
fault_number (Some ViewTooHigh) = 3
fault_number (Some NoHighest) = 4
fault_number (Some NotBelowHighest) = 5
fault_number (Some HighestPlan) = 6

-- 14: 'a bad mark or a nonzero byte in an absent report'
unfoldable pub form_fault : Report → ℕ
form_fault r = cond (bad_form r) (cond (ltb 1 r.mark) 1 2) 0

-- 21: 'a report whose view is not below the frame's'
unfoldable pub view_fault : ℕ → Report → ℕ
view_fault view r = cond (too_high view r) 3 0

-- What a refusal's number finds in one report of a frame for a view.
unfoldable pub fault_alone : ℕ → ℕ → Report → ℕ
fault_alone number view r = cond (eqb number 14) (form_fault r) (cond (eqb number 21) (view_fault view r) 0)

-- 22: 'previous without highest, not below it, or for its plan'
unfoldable pub previous_fault : Report → Report → ℕ
previous_fault highest previous =
    cond (bad_previous highest previous) (cond (present highest) (cond (leb highest.view previous.view) 5 6) 4) 0
