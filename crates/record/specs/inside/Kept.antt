-- The record with a frame put into its places, as the code puts it there.
-- Assumes nothing.
use Rattle.std.specs.Prelude.{ℕ}
use Rattle.frame.specs.declared.Reports.{Reports}
use Rattle.frame.specs.declared.Body.{Body}
use Rattle.frame.specs.declared.Body.TheVariants.{Plan, Empty, Told}
use Rattle.frame.specs.declared.Frame.{Frame}
use Rattle.record.specs.Slots.{Record, frame_slot, report_slot}
use Rattle.record.specs.inside.Slots.{with_slot}
use Rattle.record.specs.Kept.{head_slot}

-- The record with three reports put into the places of a kind and a sender.
unfoldable pub with_reports : Record → ℕ → ℕ → Reports → Record
with_reports r kind sender t =
    with_slot
    (with_slot
    (with_slot r (report_slot kind 0 sender) t.highest)
    (report_slot kind 1 sender) t.previous)
    (report_slot kind 2 sender) t.lock

-- A suggest or a proof from a sender.
abbrev pub told : ℕ → ℕ → ℕ → Reports → Frame
told kind sender view t = record { kind = kind; sender = sender; view = view; body = Told t }

-- The record with what follows a frame's head: only reports have slots of their own.
abbrev pub with_body : Record → ℕ → ℕ → Body → Record
with_body r kind sender (Plan p) = r
with_body r kind sender Empty = r
with_body r kind sender (Told t) = with_reports r kind sender t

-- 'it keeps one frame: the one with the highest view so far': the record with a frame put into a sender's row.
unfoldable pub keep_frame : Record → ℕ → Frame → Record
keep_frame r sender f = with_body (with_slot r (frame_slot f.kind sender) (head_slot f)) f.kind sender f.body
