-- The reports that steps C and D search: read off the block once, into the table of the search (document 01, 'When a plan is safe').
-- Assumes nothing.
use Rattle.std.specs.Prelude.{ℕ, ◌+◌, ◌*◌, ◌≤◌, ◌<◌, ◌≡◌, cond, ◌&&◌, List, eqb, length, get_or, set}
use Rattle.std.proofs.Math.Option.{Option, none, some}
use Rattle.rules.specs.Rules.{Vote, Report, Reports}
use Rattle.claims.specs.Table.{column, table_size, vote_above, reports_in_table}
use Rattle.frame.specs.declared.Report as Slot
use Rattle.frame.specs.Refusal.{present}
use Rattle.record.specs.Slots.{frame_slot, report_slot}
use Rattle.record.specs.Layout.{slot_in}
use Rattle.tally.specs.inside.Parts.{block_place}

-- A vote's view + 1, 0 where it is absent.
unfoldable pub above_of : Slot.Report → ℕ
above_of x = cond (eqb x.mark 1) (x.view + 1) 0

-- The vote in a slot, as the table tells it.
abbrev pub slot_vote : Slot.Report → Option Vote
slot_vote x = vote_above (above_of x) x.plan

-- The three votes that sender j's suggest (kind 7) or proof (kind 8) reports.
abbrev pub report_in_block : List ℕ → ℕ → ℕ → Report
report_in_block block kind j = record {
  highest = slot_vote (slot_in block (block_place (report_slot kind 0 j)));
  previous = slot_vote (slot_in block (block_place (report_slot kind 1 j)));
  lock = slot_vote (slot_in block (block_place (report_slot kind 2 j)));
}

-- 'Reports are those in kept suggests (Rule 1) or proofs (Rule 3) of view v'.
unfoldable pub reports_by : List ℕ → ℕ → ℕ → Reports
reports_by block kind v j =
    cond (present (slot_in block (block_place (frame_slot kind j))) && eqb (slot_in block (block_place (frame_slot kind j))).view v)
    (some (report_in_block block kind j)) none

-- The table with a vote in two columns.
abbrev pub with_vote : List ℕ → ℕ → Slot.Report → List ℕ
with_vote t at x = set (set t at (above_of x)) (at + column) x.plan

-- The table with what sender i reports: its highest vote, its previous vote and its lock.
abbrev pub with_report : List ℕ → ℕ → Slot.Report → Slot.Report → Slot.Report → List ℕ
with_report t i highest previous lock =
    with_vote (with_vote (with_vote (set t i 1) (column + i) highest) (3 * column + i) previous) (5 * column + i) lock

-- The table holds the reports of the first k senders, and of no other.
pub record Filled (reports : Reports) (k : ℕ) (t : List ℕ) : Type 0 where
  pub size : length t ≡ table_size
  pub done : (j : ℕ) → j < k → reports_in_table t j ≡ reports j
  pub rest : (j : ℕ) → k ≤ j → j < column → get_or t j 0 ≡ 0
