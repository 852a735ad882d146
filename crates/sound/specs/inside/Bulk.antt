-- Tests of many bytes and slots at once, and what the tests of one place are about: words for the contracts of the code.
-- Assumes nothing.
use Rattle.std.specs.Prelude.{ℕ, ◌+◌, ◌*◌, ◌≤◌, ◌<◌, ◌≡◌, Bool, not, ◌&&◌, List, eqb, get_or}
use Rattle.frame.specs.declared.Report.{Report}
use Rattle.frame.specs.declared.Reports.{Reports}
use Rattle.frame.specs.declared.Frame.{Frame}
use Rattle.frame.specs.declared.Body.TheVariants.{Plan, Empty, Told}
use Rattle.frame.specs.Refusal.{absent, bad_form, too_high}
use Rattle.settings.specs.declared.Settings.{Settings}
use Rattle.record.specs.Slots.{rows, slot_count, frame_slot}
use Rattle.sound.specs.declared.Head.{Head}
use Rattle.sound.specs.inside.Sound.{all, empty_at, frame_sound}

-- ---- many slots

-- The bytes of one kind's slots, and of one group of its reports: 64 slots of 13 bytes.
abbrev pub group_size : ℕ
group_size = 832

-- A byte is 0.
abbrev pub zero_in : List ℕ → ℕ → Bool
zero_in s i = eqb (get_or s i 0) 0

-- The byte i places on is 0.
abbrev pub zero_from : List ℕ → ℕ → ℕ → Bool
zero_from s from i = eqb (get_or s (from + i) 0) 0

-- 'Absent means all 13 bytes zero', of the slot i slots on.
abbrev pub absent_from : (ℕ → Report) → ℕ → ℕ → Bool
absent_from slots from i = absent (slots (from + i))

-- The reports of some rows are absent: the highest, the previous 64 slots on, and the locks 128 slots on.
unfoldable pub told_absent : (ℕ → Report) → ℕ → ℕ → Bool
told_absent slots from count =
    all (absent_from slots from) count
    && (all (absent_from slots (from + rows)) count && all (absent_from slots (from + 2 * rows)) count)

-- Nothing is kept for a kind and the sender i rows on.
abbrev pub empty_from : (ℕ → Report) → ℕ → ℕ → ℕ → Bool
empty_from slots kind from i = empty_at slots kind (from + i)

-- Slots whose bytes lie end to end: all in the shared part, or all in the block.
pub record Run (from count : ℕ) : Type 0 where
  pub below : from < slot_count
  pub whole : from + count ≤ slot_count
  pub part : from < rows → from + count ≤ rows

-- ---- one place

-- A frame is kept for a kind and a sender, and this is its view.
pub record Marked (slots : ℕ → Report) (head : Head) : Type 0 where
  pub mark : (slots (frame_slot head.kind head.sender)).mark ≡ 1
  pub view : head.view ≡ (slots (frame_slot head.kind head.sender)).view

-- The frames that a slot holds, by the table's column 'Rest': with a plan, bare, and with three reports.
abbrev pub plan_frame : Head → ℕ → Frame
plan_frame head plan = record { kind = head.kind; sender = head.sender; view = head.view; body = Plan plan }

-- Whether a proposal or a vote is sound: its plan does not matter.
abbrev pub PlanSound : Bool → Settings → ℕ → Head → Type 0
PlanSound b set view head = (plan : ℕ) → b ≡ frame_sound set view (plan_frame head plan)

abbrev pub bare_frame : Head → Frame
bare_frame head = record { kind = head.kind; sender = head.sender; view = head.view; body = Empty }

abbrev pub told_frame : Head → Reports → Frame
told_frame head told = record { kind = head.kind; sender = head.sender; view = head.view; body = Told told }

-- 14 and 21 of one report: it has its form, and is below the view of its frame.
unfoldable pub report_fits : ℕ → Report → Bool
report_fits view r = not (bad_form r) && not (too_high view r)
