-- A record by slots. Everything that has a mark, a view and a plan is a slot: where each stands, what it holds, and the record with
-- one of them changed. How the slots lie in bytes is in Layout.
-- Assumes nothing.
use Rattle.std.specs.Prelude.{ℕ, ◌+◌, ◌-◌, ◌*◌, ◌%◌}
use Rattle.frame.specs.declared.Report.{Report}
use Rattle.settings.specs.declared.Settings.{Settings}

-- ---- how many

-- 'n is 4 to 64': the senders that have a row.
abbrev pub rows : ℕ
rows = 64

-- 'Kind', 1 to 8.
abbrev pub kinds : ℕ
kinds = 8

-- The reports of one kind's rows: 'three reports' each.
abbrev pub reports_of_kind : ℕ
reports_of_kind = 192

-- Where the reports begin, behind the frames of all kinds and rows.
abbrev pub first_report : ℕ
first_report = 512

-- Where the own previous votes begin, behind the reports of suggests and proofs.
abbrev pub first_previous : ℕ
first_previous = 896

-- 'and the decision': where it stands, behind the two previous votes.
abbrev pub decision_slot : ℕ
decision_slot = 898

-- How many slots there are.
abbrev pub slot_count : ℕ
slot_count = 899

-- ---- where

-- 'For each sender and kind it keeps one frame': where it stands. The kinds' rows follow in a circle from the view-changes on: 6, 7, 8, 1 to 5.
abbrev pub frame_slot : ℕ → ℕ → ℕ
frame_slot kind sender = (kind + 2) % kinds * rows + sender

-- Where report j (0 highest, 1 previous, 2 lock) of a kept suggest or proof stands.
abbrev pub report_slot : ℕ → ℕ → ℕ → ℕ
report_slot kind which sender = first_report + (kind - 7) * reports_of_kind + which * rows + sender

-- 'its own previous vote-1 and vote-2': where that of kind 2 or 3 stands.
abbrev pub previous_slot : ℕ → ℕ
previous_slot kind = first_previous + (kind - 2)

-- ---- what

-- 'Absent means all 13 bytes zero': a slot that holds nothing.
abbrev pub empty_slot : Report
empty_slot = record { mark = 0; view = 0; plan = 0 }

-- 'n, f, id, class, starting plan, current view', and the slots.
pub record Record : Type 0 where
  pub set : Settings
  pub view : ℕ
  pub plan : ℕ
  pub slots : ℕ → Report

-- What stands at a slot of a record.
abbrev pub slot_of : Record → ℕ → Report
slot_of r at = r.slots at
