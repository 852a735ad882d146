-- What document 02, wish 7, promises of the answer: it is 'the highest view at which it claims that plan', and 'Everything that asks about claims uses
-- this answer': the search for safe plans asks `reach`.
-- Assumes nothing.
use Rattle.std.specs.Prelude.{ℕ, ◌≤◌, ◌≡◌, ◌↔◌, false, List, drop}
use Rattle.std.proofs.Math.Option.{some}
use Rattle.wire.specs.Fields.{Bytes}
use Rattle.rules.specs.Rules.{Report, reach}
use Rattle.rules.specs.Sentences.{Says}
use Rattle.frame.specs.declared.Reports.{Reports}
use Rattle.frame.specs.declared.Frame.{Frame}
use Rattle.frame.specs.Refusal.{Accepted}
use Rattle.frame.specs.Format.{three_reports, reports_at, encode}
use Rattle.frame.specs.Refusal.{first, bad_previous_of, read_frame}
use Rattle.sound.specs.declared.Lent.TheVariants as lent
use Rattle.sound.specs.inside.Sound.{lent_is}
use Rattle.protocol.specs.Record.{reported, report_by}
use Rattle.contents.specs.Contents.{contents_in}
use Rattle.reach.specs.Call.{View}
use Rattle.reach.specs.Call.{told_rows, said_reach, claim_reach}

-- The three votes that a suggest or a proof tells.
abbrev pub votes_of : Reports → Report
votes_of t = record { highest = reported t.highest; previous = reported t.previous; lock = reported t.lock }

-- For reports that pass 22 the wish's sentence is `reach`, by which every claim goes. Proved as `reach_is_said` in proofs/Laws.
abbrev pub ReachIsSaid : Type 0
ReachIsSaid = (t : Reports) (p : ℕ) → bad_previous_of (three_reports t) ≡ false → reach (votes_of t) p ≡ said_reach t p

-- 'the highest view at which it claims that plan': for reports that pass 14 and 22, Rules 2 and 4 hold at a view exactly if it is at most the answer.
-- Proved as `reach_highest` in proofs/Laws.
abbrev pub ReachHighest : Type 0
ReachHighest = (t : Reports) (p x : ℕ) → first (told_rows (three_reports t)) ≡ 0 → Says (votes_of t) p x ↔ (x ≤ said_reach t p)

-- The same of the call's answer, whatever bytes it is lent. Proved as `answer_highest` in proofs/Laws.
abbrev pub AnswerHighest : Type 0
AnswerHighest = (s : List ℕ) (p view x : ℕ) → claim_reach s p ≡ View view → Says (votes_of (reports_at s 0)) p x ↔ (x ≤ view)

-- 'The reports come as the 39 bytes of a suggest or proof': those behind kind, sender and view.
abbrev pub behind_view : List ℕ → List ℕ
behind_view s = drop 6 s

-- 'Everything that asks about claims uses this answer': for every suggest or proof kept in a sound record, of whatever view, the call on its 39 bytes
-- answers with what the search asks, the reach of the report that the frame is. Proved as `kept_reach` in proofs/Kept.
abbrev pub KeptReach : Type 0
KeptReach = (s : List ℕ) → Bytes s → lent_is s ≡ lent.Sound → (k j p : ℕ) (x : Frame) (r : Report)
    → (contents_in s).kept k j ≡ some x → report_by x.body ≡ some r → claim_reach (behind_view (encode x)) p ≡ View (reach r p)

-- So it does on those of every suggest or proof that the frame call reads. Proved as `read_reach` in proofs/Kept.
abbrev pub ReadReach : Type 0
ReadReach = (s : List ℕ) (link n own p : ℕ) (x : Frame) (r : Report) → Bytes s → read_frame s link n own ≡ Accepted x
    → report_by x.body ≡ some r → claim_reach (behind_view s) p ≡ View (reach r p)
