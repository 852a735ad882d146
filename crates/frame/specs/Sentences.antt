-- Frames and their bytes determine each other: what the reader and the writer (document 01, 'the frame reader and writer') are to one another.
-- And which fault of a report each number tells (document 02, wish 1).
-- Assumes nothing.
use Rattle.std.specs.Prelude.{ℕ, ◌≤◌, ◌≡◌, ◌⊎◌, ◌↔◌, Bool, true, false, List, get_or}
use Rattle.wire.specs.Fields.{Bytes}
use Rattle.frame.specs.declared.Frame.{Frame}
use Rattle.frame.specs.declared.Report.{Report}
use Rattle.frame.specs.Refusal.{Reading, Accepted, Refused}
use Rattle.frame.specs.Format.{three_reports, reports_at, encode, decode}
use Rattle.frame.specs.Valid.{Valid}
use Rattle.frame.specs.Refusal.{first, any, bad_form, too_high, bad_previous_of, view_missing}
use Rattle.frame.specs.Refusal.{form_rows, link_rows, content_rows, leader_rows, read_frame}

-- 'Byte 0 is the kind, byte 1 the sender, bytes 2 to 5 the view', and the table's column 'Rest': a frame that is written reads back as
-- itself, wherever the rows on its link, its content and its leader, 11 to 15, 21 and 22, give nothing. Proved as `read_back` in proofs/Theorems.
abbrev pub FramesReadBack : Type 0
FramesReadBack = (f : Frame) (link n own : ℕ) → Valid f
    → first (link_rows f.sender link n own) ≡ 0
    → first (content_rows f) ≡ 0
    → first (leader_rows f n own) ≡ 0
    → read_frame (encode f) link n own ≡ Accepted f

-- 'Absent means all 13 bytes zero', 'length wrong for the kind': accepted bytes are the only spelling of their frame. Proved as
-- `only_spelling` in proofs/Theorems.
abbrev pub OneSpelling : Type 0
OneSpelling = (s : List ℕ) (link n own : ℕ) (f : Frame) → Bytes s → read_frame s link n own ≡ Accepted f → s ≡ encode f

-- What is answered where some form is bad or not, some view too high or not, and the previous vote at odds with its highest or not.
pub record FaultsTell (form view previous : Bool) (f : Frame) (answer : Reading) : Type 0 where
  -- 'Keep 14 for a bad mark or a nonzero byte in an absent report.'
  pub is14 : (form ≡ true) ↔ (answer ≡ Refused 14)
  -- 'Tell a report whose view is not below the frame's by one number'
  pub is21 : ((form ≡ false) × (view ≡ true)) ↔ (answer ≡ Refused 21)
  -- 'and a previous vote at odds with its highest by another.'
  pub is22 : ((form ≡ false) × (view ≡ false) × (previous ≡ true)) ↔ (answer ≡ Refused 22)
  -- Without a fault row 15 is left, or the frame is read.
  pub none : form ≡ false → view ≡ false → previous ≡ false → (answer ≡ Refused 15) ⊎ (answer ≡ Accepted f)

-- 'All three reports are tested for the first fault, then all for the second, then all for the third': so it is of a suggest or proof, kinds
-- 7 and 8, that passes 9 to 13. Proved as `faults_are_told` in proofs/Faults.
abbrev pub FaultsAreTold : Type 0
FaultsAreTold = (s : List ℕ) (link n own : ℕ) → 7 ≤ get_or s 0 0
    → first (form_rows s) ≡ 0
    → first (link_rows (get_or s 1 0) link n own) ≡ 0
    → view_missing (decode s).kind (decode s).view ≡ false
    → FaultsTell (any bad_form (three_reports (reports_at s 6))) (any (too_high (decode s).view) (three_reports (reports_at s 6)))
    (bad_previous_of (three_reports (reports_at s 6))) (decode s) (read_frame s link n own)

-- The reports of a frame for a view have none of the three faults.
pub record Faultless (view : ℕ) (rs : List Report) : Type 0 where
  pub form : any bad_form rs ≡ false
  pub below : any (too_high view) rs ≡ false
  pub previous : bad_previous_of rs ≡ false
