-- The frames of document 01: each kind's length, its fields in order, and what its bytes say.
-- Assumes nothing.
use Rattle.std.specs.Prelude.{ℕ, ◌+◌, Bool, ◌&&◌, cond, List, [], ◌∷◌, ◌++◌, get_or, leb, eqb}
use Rattle.wire.specs.Digits.{number_at}
use Rattle.wire.specs.Fields.{Field, field, spell}
use Rattle.frame.specs.declared.Report.{Report}
use Rattle.frame.specs.declared.Reports.{Reports}
use Rattle.frame.specs.declared.Body.{Body}
use Rattle.frame.specs.declared.Body.TheVariants.{Plan, Empty, Told}
use Rattle.frame.specs.declared.Frame.{Frame}

-- A range of kinds, as in '2 to 5'.
unfoldable pub within : ℕ → ℕ → ℕ → Bool
within low high k = leb low k && leb k high

-- The table's column 'Length', over its column 'Kind'; 0 where there is no such kind.
unfoldable pub length_of : ℕ → ℕ
length_of kind = cond (within 1 5 kind) 14 (cond (eqb kind 6) 6 (cond (within 7 8 kind) 45 0))

-- 'A suggest reports highest vote-2, previous vote-2, highest vote-3', and a proof its own three, in this order.
abbrev pub three_reports : Reports → List Report
three_reports r = r.highest ∷ r.previous ∷ r.lock ∷ []

-- The reports of a frame: those of a suggest or a proof, and none in another kind.
abbrev pub reports_of : Body → List Report
reports_of (Plan p) = []
reports_of Empty = []
reports_of (Told r) = three_reports r

-- 'Byte 0 is the kind, byte 1 the sender, bytes 2 to 5 the view.'
abbrev pub head_fields : Frame → List Field
head_fields f = field 1 f.kind ∷ field 1 f.sender ∷ field 4 f.view ∷ []

-- 'A report is a mark (1 present, 0 absent), a view (4 bytes) and a plan (8).'
abbrev pub report_fields : Report → List Field
report_fields r = field 1 r.mark ∷ field 4 r.view ∷ field 8 r.plan ∷ []

-- 'three reports', end to end.
abbrev pub reports_fields : Reports → List Field
reports_fields r = report_fields r.highest ++ (report_fields r.previous ++ report_fields r.lock)

-- The table's column 'Rest', as fields: 'plan, 8 bytes', 'none', 'three reports'.
abbrev pub body_fields : Body → List Field
body_fields (Plan p) = field 8 p ∷ []
body_fields Empty = []
body_fields (Told r) = reports_fields r

-- The fields of a frame in the order of its bytes.
abbrev pub fields_of : Frame → List Field
fields_of f = head_fields f ++ body_fields f.body

-- The bytes of a frame.
unfoldable pub encode : Frame → List ℕ
encode f = spell (fields_of f)

-- 'A report is a mark (1 present, 0 absent), a view (4 bytes) and a plan (8)': the report that stands at a place.
abbrev pub report_at : List ℕ → ℕ → Report
report_at s at = record { mark = get_or s at 0; view = number_at 4 s (at + 1); plan = number_at 8 s (at + 5) }

-- 'three reports': those that stand at a place, 13 bytes each.
abbrev pub reports_at : List ℕ → ℕ → Reports
reports_at s at = record { highest = report_at s at; previous = report_at s (at + 13); lock = report_at s (at + 26) }

-- The table's column 'Rest', as what the bytes from byte 6 say.
unfoldable pub body_as : ℕ → List ℕ → Body
body_as kind s = cond (within 1 5 kind) (Plan (number_at 8 s 6)) (cond (eqb kind 6) Empty (Told (reports_at s 6)))

-- 'Byte 0 is the kind, byte 1 the sender, bytes 2 to 5 the view': what the bytes of a whole frame say.
unfoldable pub decode : List ℕ → Frame
decode s = record { kind = get_or s 0 0; sender = get_or s 1 0; view = number_at 4 s 2; body = body_as (get_or s 0 0) s }
