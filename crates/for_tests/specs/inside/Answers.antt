-- What the exports answer, as numbers, and what they leave in an output, for any bytes, any table and any output.
-- Assumes nothing.
use Rattle.std.specs.Prelude.{ℕ, ◌+◌, Bool, cond, not, ◌&&◌, List, [], ◌∷◌, leb, ltb, eqb, length, set}
use Rattle.std.proofs.Math.Option.{Option, none, some}
use Rattle.wire.specs.Placed.{placed}
use Rattle.frame.specs.declared.Frame.{Frame}
use Rattle.frame.specs.Refusal.{Reading, Accepted, Refused}
use Rattle.frame.specs.Refusal.{read_frame}
use Rattle.entry.specs.declared.Entry.{Entry}
use Rattle.entry.specs.declared.Entry.TheVariants.{ForAll, Timer, Decision}
use Rattle.entry.specs.Layout.{layout}
use Rattle.rules.specs.Sets.{equals}
use Rattle.rules.specs.inside.Counts.{safe, choice}
use Rattle.claims.specs.Table.{column, table_size, reports_in_table}
use Rattle.safe.specs.Choices.{rule_of}
use Rattle.sound.specs.declared.Lent.{Lent}
use Rattle.sound.specs.declared.Lent.TheVariants.{Blank, Unsound, Sound}

-- What a call leaves: its answer, and all of the output.
pub data TestLeft : Type 0 where
  left : ℕ → List ℕ → TestLeft

-- ---- frames

-- One entry of each form, for an accepted frame.
abbrev pub echo_entries : Frame → List Entry
echo_entries f = ForAll f ∷ Timer f.view 180 ∷ Decision f.view f.view ∷ []

-- 'Each gives its number, zero bytes written, .. output unchanged'; else 256 and the count, with the entries at the output's start.
abbrev pub echoed : Reading → List ℕ → TestLeft
echoed (Accepted f) out = left (256 + length (layout (echo_entries f))) (placed out 0 (layout (echo_entries f)))
echoed (Refused number) out = left number out

-- 'output space below 256 bytes' is tested first.
unfoldable pub echo : List ℕ → ℕ → ℕ → ℕ → List ℕ → TestLeft
echo s link n own out = cond (ltb (length out) 256) (left 1 out) (echoed (read_frame s link n own) out)

-- ---- safe plans

-- The table has its size, n is at most 64, and f is below n.
unfoldable pub laid : List ℕ → ℕ → ℕ → Bool
laid table n f = eqb (length table) table_size && (leb n column && ltb f n)

-- 1 where plan p is safe, 0 where not, 2 where the call makes no sense. `three` 0 asks for Rule 1, else for Rule 3.
unfoldable pub safe_plan : List ℕ → ℕ → ℕ → ℕ → ℕ → ℕ → ℕ
safe_plan table n f v p three = cond (laid table n f) (cond (safe (rule_of (not (eqb three 0))) (equals n f) (reports_in_table table) v p) 1 0) 2

-- 1 with the plan in the output's first place, 0 where there is none.
abbrev pub proposed : Option ℕ → List ℕ → TestLeft
proposed none out = left 0 out
proposed (some p) out = left 1 (set out 0 p)

-- Step C's choice; 2 where the call makes no sense or the output is empty.
unfoldable pub choose_plan : List ℕ → ℕ → ℕ → ℕ → ℕ → List ℕ → TestLeft
choose_plan table n f v start out =
    cond (laid table n f && ltb 0 (length out)) (proposed (choice (equals n f) (reports_in_table table) v start) out) (left 2 out)

-- ---- records

-- 'blank', 'sound' and 'unsound' as numbers.
abbrev pub class_number : Lent → ℕ
class_number Blank = 0
class_number Sound = 1
class_number Unsound = 2
