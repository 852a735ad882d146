-- 'At most one vault may be declared lying in a script, and the rehearsal can show no two plans decided by the others' (document 02, wish 2).
-- Proved as `rehearsal_agrees` in proofs/Agrees.
-- Assumes nothing.
use Rattle.std.specs.Prelude.{ℕ, ◌≡◌, false, cond, List, [], ◌∷◌, ◌++◌, eqb}
use Rattle.entry.specs.declared.Entry.{Entry}
use Rattle.entry.specs.declared.Entry.TheVariants.{Decision}
use Rattle.protocol.specs.Tables.{◌∈◌}
use Rattle.runs.specs.Runs.{entries_in}
use Rattle.runs.specs.Fixed.{leaves}
use Rattle.lines.specs.Lines.{after}
use Rattle.answers.specs.Lines.{zeroed}
use Rattle.stage.specs.Stage.{empty_stage, record_of, is_liar}
use Rattle.stage.specs.Lines.{Meant, refuse, call, free, declare, make_up, line_meant, rehearsal}

-- What a line writes at vault i: the entries of the call that it makes there.
abbrev pub wrote_at : List ℕ → Meant → ℕ → List Entry
wrote_at s (refuse number) i = []
wrote_at s (call v a) i = cond (eqb v i) (entries_in (leaves (record_of s v) a zeroed)) []
wrote_at s (free k) i = []
wrote_at s (declare v) i = []
wrote_at s (make_up v bytes) i = []

-- What lines write at vault i, one after the other, from a stage on.
unfoldable pub written_at : List ℕ → List (List ℕ) → ℕ → List Entry
written_at s [] i = []
written_at s (text ∷ texts) i = wrote_at s (line_meant s text) i ++ written_at (rehearsal.next s text) texts i

-- Vault i decides p in a script: a call at it writes the host entry 0a with plan p, in whatever view.
abbrev pub DecidesAt : List (List ℕ) → ℕ → ℕ → Type 0
DecidesAt texts i p = (v : ℕ) × (Decision v p ∈ written_at empty_stage texts i)

-- 'the others': vault i is not declared by the script's end.
abbrev pub Undeclared : List (List ℕ) → ℕ → Type 0
Undeclared texts i = is_liar (after rehearsal empty_stage texts) i ≡ false

-- 'no two plans decided by the others', by any lines; all four count where none is declared.
abbrev pub RehearsalAgrees : Type 0
RehearsalAgrees = (texts : List (List ℕ)) (i j p q : ℕ) → Undeclared texts i → Undeclared texts j → DecidesAt texts i p → DecidesAt texts j q → p ≡ q
