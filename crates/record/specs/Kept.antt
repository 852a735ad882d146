-- What a vault keeps, by contents: the frame of each kind and sender that the slots hold, and the record with a frame put there.
-- Slots are given as a function from places to what stands there.
-- Assumes nothing.
use Rattle.std.specs.Prelude.{ℕ, cond, eqb}
use Rattle.std.proofs.Math.Option.{Option, none, some}
use Rattle.frame.specs.declared.Report.{Report}
use Rattle.frame.specs.declared.Reports.{Reports}
use Rattle.frame.specs.declared.Body.{Body}
use Rattle.frame.specs.declared.Body.TheVariants.{Plan, Empty, Told}
use Rattle.frame.specs.declared.Frame.{Frame}
use Rattle.frame.specs.Format.{within}
use Rattle.frame.specs.Refusal.{present}
use Rattle.record.specs.Slots.{Record, frame_slot, report_slot, slot_of}

-- ---- what is kept

-- The three reports of a kept suggest or proof.
abbrev pub reports_in : (ℕ → Report) → ℕ → ℕ → Reports
reports_in slots kind sender =
    record {
      highest = slots (report_slot kind 0 sender);
      previous = slots (report_slot kind 1 sender);
      lock = slots (report_slot kind 2 sender);
    }

-- The table's column 'Rest': a plan in kinds 1 to 5, none in kind 6, three reports in kinds 7 and 8.
unfoldable pub body_in : (ℕ → Report) → ℕ → ℕ → Body
body_in slots kind sender =
    cond (within 1 5 kind) (Plan (slots (frame_slot kind sender)).plan)
    (cond (eqb kind 6) Empty (Told (reports_in slots kind sender)))

-- The frame that the slots of a kind and a sender hold; kind and sender are those of the place.
unfoldable pub frame_held : (ℕ → Report) → ℕ → ℕ → Frame
frame_held slots kind sender =
    record { kind = kind; sender = sender; view = (slots (frame_slot kind sender)).view; body = body_in slots kind sender }

-- 'For each sender and kind it keeps one frame': the frame, where one is kept.
unfoldable pub kept_in : (ℕ → Report) → ℕ → ℕ → Option Frame
kept_in slots kind sender = cond (present (slots (frame_slot kind sender))) (some (frame_held slots kind sender)) none

-- 'For each sender and kind it keeps one frame', of a record.
abbrev pub kept_frame : Record → ℕ → ℕ → Option Frame
kept_frame r kind sender = kept_in (slot_of r) kind sender

-- ---- keeping

-- The plan that a frame's own slot holds: that of kinds 1 to 5, and 0 in kinds 6 to 8.
abbrev pub plan_of : Body → ℕ
plan_of (Plan p) = p
plan_of Empty = 0
plan_of (Told t) = 0

-- What a frame's own slot holds.
abbrev pub head_slot : Frame → Report
head_slot f = record { mark = 1; view = f.view; plan = plan_of f.body }
