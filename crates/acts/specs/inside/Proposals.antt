-- What steps C and D go by, of a record's contents (document 01, 'When a plan is safe').
-- Assumes nothing.
use Rattle.std.specs.Prelude.{ℕ, Bool, cond, eqb}
use Rattle.std.proofs.Math.Option.{Option, none, some}
use Rattle.rules.specs.Rules.{Reports, rule3}
use Rattle.rules.specs.inside.Counts.{safe, choice}
use Rattle.protocol.specs.Record.{Record, when, each, report_by, vaults, reports_of}
use Rattle.protocol.specs.Pass as pass

-- 'its starting plan if that is safe by Rule 1, else the smallest safe plan'.
abbrev pub proposal_of : Record → Option ℕ
proposal_of c = pass.chosen c

-- 'safe by Rule 3'.
abbrev pub approved_by : Record → ℕ → Bool
approved_by c p = safe rule3 (vaults c) (reports_of c rule3) c.view p

-- 'Reports are those in kept suggests (Rule 1) or proofs (Rule 3) of view v', for the current view: by the kind of frame.
abbrev pub reports_now : Record → ℕ → Reports
reports_now c kind j = each (c.kept kind j) (λ f. when (eqb f.view c.view) (report_by f.body))

-- By suggests (kind 7): p if that is safe by Rule 1, else the smallest safe plan. By proofs (kind 8): p if that is safe by Rule 3.
unfoldable pub safe_plan : Record → ℕ → ℕ → Option ℕ
safe_plan c kind p =
    cond (eqb kind 7) (choice (vaults c) (reports_now c kind) c.view p) (cond (safe rule3 (vaults c) (reports_now c kind) c.view p) (some p) none)
