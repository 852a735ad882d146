-- Refusals 9 to 15 of document 01 ('Checked downwards'), with 21 and 22 of document 02, wish 1, between 14 and 15, in the four groups that
-- callers use apart, and what reading a frame answers.
-- Assumes nothing.
use Rattle.std.specs.Prelude.{ℕ, ◌%◌, Bool, false, not, ◌&&◌, ◌||◌, cond, List, [], ◌∷◌, ◌++◌, length, get_or, leb, eqb}
use Rattle.frame.specs.declared.Report.{Report}
use Rattle.frame.specs.declared.Frame.{Frame}
use Rattle.frame.specs.Format.{within, length_of, reports_of, decode}

-- What reading finds: a frame, or the number of a refusal.
pub data Reading : Type 0 where
  Accepted : Frame → Reading
  Refused : ℕ → Reading

-- A row of the table: 'No.' and 'Given if'.
pub data Row : Type 0 where
  row : ℕ → Bool → Row

-- 'Checked downwards': the number of the first row whose test holds, 0 where none does.
abbrev pub first : List Row → ℕ
first [] = 0
first (row number given ∷ rows) = cond given number (first rows)

-- Some report of a list has a fault.
abbrev pub any : (Report → Bool) → List Report → Bool
any fault [] = false
any fault (r ∷ rs) = fault r || any fault rs

-- 'a mark (1 present, 0 absent)'
abbrev pub present : Report → Bool
present r = eqb r.mark 1

-- 'Absent means all 13 bytes zero.'
abbrev pub absent : Report → Bool
absent r = eqb r.mark 0 && (eqb r.view 0 && eqb r.plan 0)

-- 'mark not 0 or 1; absent with a nonzero byte'
unfoldable pub bad_form : Report → Bool
bad_form r = not (present r || absent r)

-- 'view not below the frame's', of a report that is present
unfoldable pub too_high : ℕ → Report → Bool
too_high view r = present r && leb view r.view

-- 'previous without highest, not below it, or for its plan'
unfoldable pub bad_previous : Report → Report → Bool
bad_previous highest previous =
    present previous
    && (not (present highest)
    || (leb highest.view previous.view || eqb highest.plan previous.plan))

-- 'previous' and 'highest' are the second report and the first.
abbrev pub bad_previous_of : List Report → Bool
bad_previous_of [] = false
bad_previous_of (highest ∷ []) = false
bad_previous_of (highest ∷ previous ∷ rs) = bad_previous highest previous

-- 'view 0 in kind 6, 7 or 8'
unfoldable pub view_missing : ℕ → ℕ → Bool
view_missing kind view = within 6 8 kind && eqb view 0

-- 'its leader is vault (view mod n)'
abbrev pub leader_of : ℕ → ℕ → ℕ
leader_of view n = view % n

-- 'proposal not from its view's leader; suggest for a view this vault does not lead'
unfoldable pub misled : ℕ → ℕ → ℕ → ℕ → ℕ → Bool
misled kind sender view n own =
    (eqb kind 1 && not (eqb (leader_of view n) sender))
    || (eqb kind 7 && not (eqb (leader_of view n) own))

-- 'empty, or kind not 1 to 8'; 'length wrong for the kind'
abbrev pub form_rows : List ℕ → List Row
form_rows s =
    row 9 (eqb (length s) 0 || not (within 1 8 (get_or s 0 0)))
    ∷ row 10 (not (eqb (length s) (length_of (get_or s 0 0))))
    ∷ []

-- 'link's sender ≥ n or the vault's own number'; 'sender byte is not the link's'
abbrev pub link_rows : ℕ → ℕ → ℕ → ℕ → List Row
link_rows sender link n own = row 11 (leb n link || eqb link own) ∷ row 12 (not (eqb sender link)) ∷ []

-- 02, wish 1: 'Keep 14 for a bad mark or a nonzero byte in an absent report'
abbrev pub report_form_row : List Report → Row
report_form_row rs = row 14 (any bad_form rs)

-- 'a report whose view is not below the frame's by one number' (21)
abbrev pub report_view_row : ℕ → List Report → Row
report_view_row view rs = row 21 (any (too_high view) rs)

-- 'a previous vote at odds with its highest by another' (22)
abbrev pub previous_row : List Report → Row
previous_row rs = row 22 (bad_previous_of rs)

-- 'All three reports are tested for the first fault, then all for the second, then all for the third.'
abbrev pub report_rows : ℕ → List Report → List Row
report_rows view rs = report_form_row rs ∷ report_view_row view rs ∷ previous_row rs ∷ []

-- 'view 0 in kind 6, 7 or 8'; the reports
abbrev pub content_rows : Frame → List Row
content_rows f = row 13 (view_missing f.kind f.view) ∷ report_rows f.view (reports_of f.body)

-- 'proposal not from its view's leader; suggest for a view this vault does not lead'
abbrev pub leader_rows : Frame → ℕ → ℕ → List Row
leader_rows f n own = row 15 (misled f.kind f.sender f.view n own) ∷ []

-- The place 'frame bytes', whole: rows 9 to 14, 21, 22 and 15, for bytes that came over a link to vault own of n.
unfoldable pub refusal : List ℕ → ℕ → ℕ → ℕ → ℕ
refusal s link n own =
    first (form_rows s ++ (link_rows (get_or s 1 0) link n own ++ (content_rows (decode s) ++ leader_rows (decode s) n own)))

-- What reading answers: the frame that the bytes say, or the number that the table gives.
unfoldable pub read_frame : List ℕ → ℕ → ℕ → ℕ → Reading
read_frame s link n own = cond (eqb (refusal s link n own) 0) (Accepted (decode s)) (Refused (refusal s link n own))
