-- Start, frame and timer, by contents (document 01, 'One pass' and 'Refusals, place by place').
-- Rows 9 to 15, 21 and 22 are in frame's table, and 1 and 3 are tests on bytes; the rest is here.
-- Assumes nothing.
use Rattle.std.specs.Prelude.{ℕ, zero, suc, Bool, cond, not, List, [], ◌∷◌, leb, ltb, eqb}
use Rattle.std.proofs.Math.Option.{Option, none, some}
use Rattle.rules.specs.Options.{holds}
use Rattle.frame.specs.declared.Frame.{Frame}
use Rattle.frame.specs.Refusal.{Reading, Accepted, Refused}
use Rattle.frame.specs.Refusal.{Row, row, first}
use Rattle.settings.specs.Settings.{setting_rows}
use Rattle.protocol.specs.Record.{Record, changed, keeping, change_of}
use Rattle.settings.specs.declared.Settings.{Settings}
use Rattle.protocol.specs.Pass.{timer_entry, ask, does, writes, Out, onward, pass, from_a, from_c}

-- 'view below current (kind 6: at or below)'.
abbrev pub is_old : Record → Frame → Bool
is_old r f = cond (eqb f.kind 6) (leb f.view r.view) (ltb f.view r.view)

-- Rows 16 and 17: 'view below current ..', 'same sender and kind kept at this view or a higher one'.
abbrev pub record_rows : Record → Frame → List Row
record_rows r f = row 16 (is_old r f) ∷ row 17 (holds (λ (g : Frame). leb f.view g.view) (r.kept f.kind f.sender)) ∷ []

-- Rows 18 and 19: 'view named is not the current one', 'current view is 4,294,967,295'.
abbrev pub timer_rows : Record → ℕ → List Row
timer_rows r v = row 18 (not (eqb v r.view)) ∷ row 19 (eqb r.view 4294967295) ∷ []

-- 'it enters view 0 .., no kept frames and no reports'.
abbrev pub fresh : Settings → ℕ → Record
fresh s p = record { set = s; start = p; view = 0; kept = λ k j. none; previous = λ k. none; decision = none }

-- 'Start .. enters view 0 with a timer entry .., then goes on from C'.
unfoldable pub started : Settings → ℕ → Out
started s p = onward (timer_entry (fresh s p) 0 ∷ []) (pass from_c (fresh s p))

-- The record with the frame kept.
unfoldable pub keep : Frame → Record → Record
keep f r = changed r r.view (keeping f r.kept) r.previous r.decision

-- An accepted frame is kept; then one pass.
unfoldable pub heard : Record → Frame → Out
heard r f = pass from_a (keep f r)

-- 'view-change for the next view, or repeats the vault's own if that is higher than the current view'.
abbrev pub wanted_from : ℕ → Option ℕ → ℕ
wanted_from v none = suc v
wanted_from v (some w) = cond (ltb v w) w (suc v)

abbrev pub wanted : Record → ℕ
wanted r = wanted_from r.view (change_of r r.set.id)

-- 'An accepted timer broadcasts view-change .., then goes from A.'
unfoldable pub timed_out : Record → Out
timed_out r = onward (writes r (ask (wanted r))) (pass from_a (does r (ask (wanted r))))

-- A call: start with settings and a plan; frame, with what the reader answers; a timer for a view; any with output space below 256 bytes.
pub data Call : Type 0 where
  start : Settings → ℕ → Call
  frame : Reading → Call
  timer : ℕ → Call
  short : Call

pub data Answer : Type 0 where
  refused : ℕ → Answer
  accepted : Out → Answer

-- 'Each gives its number, zero bytes written, record and output unchanged.'
abbrev pub unless : ℕ → Out → Answer
unless zero o = accepted o
unless (suc k) o = refused (suc k)

-- What a call on a blank record (none) or on a vault's record answers.
unfoldable pub answer : Option Record → Call → Answer
answer b short = refused 1
answer none (start s p) = unless (first (setting_rows s)) (started s p)
answer none (frame x) = refused 2
answer none (timer v) = refused 2
answer (some r) (start s p) = refused 4
answer (some r) (frame (Refused k)) = refused k
answer (some r) (frame (Accepted f)) = unless (first (record_rows r f)) (heard r f)
answer (some r) (timer v) = unless (first (timer_rows r v)) (timed_out r)
