-- The marked edges M1 to M11 of document 01, as cases; and the run where only the two-set clause serves.
-- 'n = 4, f = 1 unless said; (1, a) means view 1 and plan a; a, b, c, d differ; reports are proofs.'
-- Assumes nothing.
use Rattle.std.specs.Prelude.{ℕ, ◌<◌, ◌≡◌, ◌≢◌, true, false, List, [], ◌∷◌, eqb, get_or}
use Rattle.std.proofs.Math.Option.{Option, none, some}
use Rattle.rules.specs.Sets.{Vaults, equals, size}
use Rattle.rules.specs.Quorums.{Quorum}
use Rattle.frame.specs.Refusal.{first}
use Rattle.settings.specs.Settings.{setting_rows}
use Rattle.rules.specs.Options.{holds}
use Rattle.rules.specs.Rules.{Vote, Report, Reports, Rule, rule1, rule3, allows, reporting, Backed, Safe}
use Rattle.protocol.specs.Record.{Record, vaults, plan_now}
use Rattle.protocol.specs.Pass.{has_quorum}

-- 'a, b, c, d differ'.
pub record Differ (a b c d : ℕ) : Type 0 where
  pub ab : a ≢ b
  pub ac : a ≢ c
  pub ad : a ≢ d
  pub bc : b ≢ c
  pub bd : b ≢ d
  pub cd : c ≢ d

-- 'n = 4, f = 1'.
abbrev pub four : Vaults
four = equals 4 1

-- '(1, a)'.
abbrev pub vote : ℕ → ℕ → Option Vote
vote view plan = some (record { view = view; plan = plan })

-- A report with a highest vote, a previous vote and a lock.
abbrev pub reports : Option Vote → Option Vote → Option Vote → Option Report
reports highest previous lock = some (record { highest = highest; previous = previous; lock = lock })

-- The reports of vaults 0, 1, ..; none past the end.
abbrev pub from : List (Option Report) → Reports
from l i = get_or l i none

-- How many vaults have a kept vote-k of the current view for plan p.
abbrev pub votes : Record → ℕ → ℕ → ℕ
votes r k p = size (vaults r) (λ j. holds (eqb p) (plan_now r k j))

-- A case: a claim on the rules, by its kind, and whether it holds.
pub data Case : Type 0 where
  -- a start with n and f, number 0 and class 0, is refused with k; k = 0 where it starts
  starting : ℕ → ℕ → ℕ → Case
  -- plan p is safe in view v by the rule
  safely : Rule → Reports → ℕ → ℕ → Case
  -- plan p is not safe
  unsafely : Rule → Reports → ℕ → ℕ → Case
  -- plan p is served by view u
  serving : Rule → Reports → ℕ → ℕ → ℕ → Case
  -- every plan is safe
  wholly : Rule → Reports → ℕ → Case
  -- so many votes of a kind for a plan, whoever sent them, are a quorum
  enough : ℕ → Case
  -- so many are none
  short : ℕ → Case

-- What a case claims, of the rules' own definitions.
abbrev pub CaseHolds : Case → Type 0
CaseHolds (starting n f k) = first (setting_rows (record { n = n; f = f; id = 0; class = 0 })) ≡ k
CaseHolds (safely rule rs v p) = Safe rule four rs v p
CaseHolds (unsafely rule rs v p) = ¬ Safe rule four rs v p
CaseHolds (serving rule rs v p u) = (u < v) × Quorum four (λ i. reporting rs (allows p u) i ≡ true) × Backed rule four rs v p u
CaseHolds (wholly rule rs v) = (p : ℕ) → Safe rule four rs v p
CaseHolds (enough m) = (r : Record) (k p : ℕ) → vaults r ≡ four → votes r k p ≡ m → has_quorum r k p ≡ true
CaseHolds (short m) = (r : Record) (k p : ℕ) → vaults r ≡ four → votes r k p ≡ m → has_quorum r k p ≡ false

-- Every case of a list holds.
abbrev pub All : List Case → Type 0
All [] = Unit {0}
All (x ∷ xs) = CaseHolds x × All xs

-- M4: 'without lock'; its other votes are any.
abbrev pub lockless : Report → Option Report
lockless r = reports r.highest r.previous none

-- M5: 'one of them has lock (0, a)'.
abbrev pub locked : Report → ℕ → Option Report
locked r a = reports r.highest r.previous (vote 0 a)

-- M7 to M10: 'vaults 0 and 1 report highest (1, a), 2 and 3 (2, b), no previous; 0 and 2 have lock (1, c)'.
abbrev pub halves : ℕ → ℕ → ℕ → Reports
halves a b c = from (reports (vote 1 a) none (vote 1 c) ∷ reports (vote 1 a) none none ∷ reports (vote 2 b) none (vote 1 c) ∷ reports (vote 2 b) none none ∷ [])

-- A run in which vault 1 lies. View 0, plan a: vaults 0 and 2 send vote-1 to vote-3, and 0 vote-4. View 1, plan b: 0 and 2 vote-1, 0 votes-2.
-- View 5, plan a: 2 and 3 vote-1, 0 votes-2. The proofs of 0, 2 and 3 in view 6:
abbrev pub proved : ℕ → ℕ → Reports
proved a b = from (reports (vote 1 b) (vote 0 a) (vote 0 a) ∷ none ∷ reports (vote 5 a) (vote 1 b) none ∷ reports (vote 5 a) none none ∷ [])

-- The suggests of all four in view 6, with what vault 1 makes up.
abbrev pub suggested : ℕ → ℕ → Reports
suggested a b =
    from (reports (vote 5 a) (vote 1 b) (vote 0 a) ∷ reports (vote 5 a) (vote 1 b) none ∷ reports (vote 0 a) none (vote 0 a) ∷ reports none none none ∷ [])

-- The marked edges, in their order: the proofs of M4 to M6 are as r has them but for the lock.
abbrev pub edges : (ℕ → Report) → ℕ → ℕ → ℕ → ℕ → List Case
edges r a b c d =
    -- M1 n = 64, f = 21 starts; M2 f = 22 gives 6; M3 n = 3 gives 5
    starting 64 21 0
    ∷ starting 64 22 6
    ∷ starting 3 1 5
    -- M4 view 1, three proofs without lock: any plan safe
    ∷ wholly rule3 (from (lockless (r 0) ∷ lockless (r 1) ∷ lockless (r 2) ∷ [])) 1
    -- M5 one of them has lock (0, a): a safe, b not
    ∷ safely rule3 (from (locked (r 0) a ∷ lockless (r 1) ∷ lockless (r 2) ∷ [])) 1 a
    ∷ unsafely rule3 (from (locked (r 0) a ∷ lockless (r 1) ∷ lockless (r 2) ∷ [])) 1 b
    -- M6 a fourth proof without lock: b safe
    ∷ safely rule3 (from (locked (r 0) a ∷ lockless (r 1) ∷ lockless (r 2) ∷ lockless (r 3) ∷ [])) 1 b
    -- M7 c is safe by the two-set clause: not without it
    ∷ safely rule3 (halves a b c) 3 c
    ∷ unsafely rule1 (halves a b c) 3 c
    -- M8 b safe with v' = 2
    ∷ serving rule3 (halves a b c) 3 b 2
    ∷ safely rule3 (halves a b c) 3 b
    -- M9 a not safe; M10 d not safe
    ∷ unsafely rule3 (halves a b c) 3 a
    ∷ unsafely rule3 (halves a b c) 3 d
    -- M11 two votes of a kind are no quorum, three are
    ∷ short 2
    ∷ enough 3
    -- the run with a lying leader: its next leader may propose c, at v' = 1; its vaults may vote for c, by the two-set clause alone
    ∷ serving rule1 (suggested a b) 6 c 1
    ∷ serving rule3 (proved a b) 6 c 1
    ∷ unsafely rule1 (proved a b) 6 c
    ∷ []

-- They hold of any four plans that differ. Proved as `marked` in proofs/Marked.
abbrev pub MarkedEdges : Type 0
MarkedEdges = (r : ℕ → Report) (a b c d : ℕ) → Differ a b c d → All (edges r a b c d)
