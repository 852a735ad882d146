-- The contents that a record's slots hold, and the slots that contents fill. Document 01 says what a vault keeps by contents;
-- how they lie in slots is the program's choice. Each content that calls reach has just one spelling.
-- Assumes nothing.
use Rattle.std.specs.Prelude.{ℕ, zero, suc, ◌+◌, ◌-◌, ◌/◌, ◌%◌, ◌&&◌, cond, List, ltb}
use Rattle.std.proofs.Math.Option.{Option, none, some}
use Rattle.frame.specs.declared.Report.{Report}
use Rattle.frame.specs.declared.Reports.{Reports}
use Rattle.frame.specs.declared.Body.{Body}
use Rattle.frame.specs.declared.Body.TheVariants.{Plan, Empty, Told}
use Rattle.frame.specs.declared.Frame.{Frame}
use Rattle.frame.specs.Format.{within}
use Rattle.record.specs.Slots as slots
use Rattle.record.specs.Slots.{rows, kinds, reports_of_kind, first_report, first_previous, decision_slot, slot_count, previous_slot, empty_slot, slot_of}
use Rattle.record.specs.Layout.{decode_record}
use Rattle.record.specs.Kept.{kept_frame, head_slot}
use Rattle.rules.specs.Rules.{Vote}
use Rattle.protocol.specs.Record.{Record, when, reported, spelt}
use Rattle.protocol.specs.Pass.{has_previous}

-- ---- from slots to contents

-- 'For each sender and kind it keeps one frame': kinds 1 to 8, and the 64 senders that have a row.
unfoldable pub kept_of : slots.Record → ℕ → ℕ → Option Frame
kept_of r k j = when (within 1 kinds k && ltb j rows) (kept_frame r k j)

-- 'its own previous vote-1 and vote-2': vote-k has kind k + 1.
unfoldable pub previous_of : slots.Record → ℕ → Option Vote
previous_of r k = when (has_previous k) (reported (slot_of r (previous_slot (suc k))))

-- The contents of a record.
unfoldable pub contents : slots.Record → Record
contents r = record {
  set = r.set;
  start = r.plan;
  view = r.view;
  kept = kept_of r;
  previous = previous_of r;
  decision = reported (slot_of r decision_slot);
}

-- ---- from contents to slots

-- What a frame's own slot holds, where one is kept.
abbrev pub head_of : Option Frame → Report
head_of none = empty_slot
head_of (some f) = head_slot f

-- Report j of three: 0 highest, 1 previous, 2 lock.
abbrev pub nth : ℕ → Reports → Report
nth zero t = t.highest
nth (suc zero) t = t.previous
nth (suc (suc j)) t = t.lock

-- Report j of a kept suggest or proof.
abbrev pub report_of_body : ℕ → Body → Report
report_of_body j (Plan p) = empty_slot
report_of_body j Empty = empty_slot
report_of_body j (Told t) = nth j t

abbrev pub report_of_frame : ℕ → Option Frame → Report
report_of_frame j none = empty_slot
report_of_frame j (some f) = report_of_body j f.body

-- A slot holds: kept frames by kind, from the view-changes on in a circle, and sender; reports by kind, report, sender; previous votes; the decision.
unfoldable pub slot_at : Record → ℕ → Report
slot_at c i =
    cond (ltb i first_report) (head_of (c.kept (suc ((i / rows + 5) % kinds)) (i % rows)))
    (cond (ltb i first_previous) (report_of_frame ((i - first_report) / rows % 3) (c.kept (7 + (i - first_report) / reports_of_kind) (i % rows)))
    (cond (ltb i decision_slot) (spelt (c.previous (suc (i - first_previous)))) (spelt c.decision)))

-- What stands at a number: beyond the last slot there is nothing.
abbrev pub slots_at : Record → ℕ → Report
slots_at c i = cond (ltb i slot_count) (slot_at c i) empty_slot

-- The record whose slots these contents fill.
unfoldable pub slotted : Record → slots.Record
slotted c = record { set = c.set; view = c.view; plan = c.start; slots = slots_at c }

-- The contents of a record's bytes.
abbrev pub contents_in : List ℕ → Record
contents_in s = contents (decode_record s)
