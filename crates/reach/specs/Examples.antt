-- The worked cases of document 02, wish 7: the answers by the definition.
-- Assumes nothing.
use Rattle.std.specs.Prelude.{ℕ, ◌≡◌, List, [], ◌∷◌}
use Rattle.wire.specs.Fields.{spell}
use Rattle.frame.specs.declared.Report.{Report}
use Rattle.frame.specs.Format.{reports_fields}
use Rattle.frame.specs.Examples.{report}
use Rattle.reach.specs.Call.{View, Refused}
use Rattle.reach.specs.Call.{claim_reach}

-- The 39 bytes of highest, previous and lock.
abbrev pub bytes_of : Report → Report → Report → List ℕ
bytes_of highest previous lock = spell (reports_fields (record { highest = highest; previous = previous; lock = lock }))

-- A vote that is there, and one that is not.
abbrev pub voted : ℕ → ℕ → Report
voted view plan = report 1 view plan

abbrev pub gone : Report
gone = report 0 0 0

-- (4, 5), (2, 6), (3, 7).
abbrev pub three : List ℕ
three =
    1 ∷ 0 ∷ 0 ∷ 0 ∷ 4 ∷ 0 ∷ 0 ∷ 0 ∷ 0 ∷ 0 ∷ 0 ∷ 0 ∷ 5
    ∷ 1 ∷ 0 ∷ 0 ∷ 0 ∷ 2 ∷ 0 ∷ 0 ∷ 0 ∷ 0 ∷ 0 ∷ 0 ∷ 0 ∷ 6
    ∷ 1 ∷ 0 ∷ 0 ∷ 0 ∷ 3 ∷ 0 ∷ 0 ∷ 0 ∷ 0 ∷ 0 ∷ 0 ∷ 0 ∷ 7
    ∷ []

-- Proved as `worked_cases` in proofs/Examples.
pub record WorkedCases : Type 0 where
  -- The bytes spell these three votes.
  pub bytes : bytes_of (voted 4 5) (voted 2 6) (voted 3 7) ≡ three
  -- The highest vote is for the plan.
  pub highest : claim_reach three 5 ≡ View 4
  -- It is not: the previous vote counts, be it for the plan or not, and the lock never does.
  pub previous : claim_reach three 6 ≡ View 2
  pub other : claim_reach three 7 ≡ View 2
  -- There is none to count.
  pub neither : claim_reach (bytes_of (voted 4 5) gone (voted 3 7)) 6 ≡ View 0
  pub lock : claim_reach (bytes_of gone gone (voted 4294967295 7)) 7 ≡ View 0
  -- The last view of all.
  pub last : claim_reach (bytes_of (voted 4294967295 5) gone gone) 5 ≡ View 4294967295
  -- A previous vote without highest; 14 comes before it.
  pub odds : claim_reach (bytes_of gone (voted 2 6) gone) 6 ≡ Refused 22
  pub form : claim_reach (bytes_of gone (voted 2 6) (report 2 0 0)) 6 ≡ Refused 14
  -- Not 39 bytes: none, and two.
  pub empty : claim_reach [] 6 ≡ Refused 10
  pub two : claim_reach (1 ∷ 0 ∷ []) 6 ≡ Refused 10
