-- What a vault keeps, by contents (document 01, 'What a vault keeps'), and what it reads off that.
-- Assumes nothing.
use Rattle.std.specs.Prelude.{ℕ, zero, suc, Bool, true, false, cond, not, ltb, eqb}
use Rattle.std.proofs.Math.Option.{Option, none, some}
use Rattle.rules.specs.Sets.{Vaults}
use Rattle.rules.specs.Options.{is_none, holds}
use Rattle.rules.specs.Rules.{Vote, Report, Reports, Rule, rule1, rule3, claim_vote, lock_vote}
use Rattle.frame.specs.declared.Report as Slot
use Rattle.frame.specs.declared.Reports as Slots
use Rattle.frame.specs.declared.Body.{Body}
use Rattle.frame.specs.declared.Body.TheVariants.{Plan, Empty, Told}
use Rattle.frame.specs.declared.Frame.{Frame}
use Rattle.frame.specs.Refusal.{leader_of}
use Rattle.settings.specs.declared.Settings.{Settings}
use Rattle.settings.specs.Vaults.{vaults_of}
use Rattle.protocol.specs.Tables.{put₂}

-- 'For each sender and kind it keeps one frame', kept k j that of kind k from sender j; 'its own previous vote-1 and vote-2': previous 1 and 2.
pub record Record : Type 0 where
  pub set : Settings
  pub start : ℕ
  pub view : ℕ
  pub kept : ℕ → ℕ → Option Frame
  pub previous : ℕ → Option Vote
  pub decision : Option Vote

-- The record with another view, kept frames, previous votes and decision.
abbrev pub changed : Record → ℕ → (ℕ → ℕ → Option Frame) → (ℕ → Option Vote) → Option Vote → Record
changed r v t q d = record { set = r.set; start = r.start; view = v; kept = t; previous = q; decision = d }

-- ---- what may be missing

-- The option, where the test passes.
abbrev pub when : {A : Type 0} → Bool → Option A → Option A
when true o = o
when false o = none

-- What follows from an option, where there is one.
abbrev pub each : {A B : Type 0} → Option A → (A → Option B) → Option B
each none f = none
each (some a) f = f a

-- The higher of two numbers, either of which may be missing.
abbrev pub higher : Option ℕ → Option ℕ → Option ℕ
higher none o = o
higher (some a) none = some a
higher (some a) (some b) = some (cond (ltb b a) a b)

-- The highest of the numbers f 0 to f (n - 1) that pass the test.
unfoldable pub highest : (ℕ → Bool) → (ℕ → Option ℕ) → ℕ → Option ℕ
highest test f zero = none
highest test f (suc j) = higher (when (holds test (f j)) (f j)) (highest test f j)

-- ---- frames as votes and reports, and back

-- A frame of kinds 1 to 5 as a vote: its view and its plan.
abbrev pub vote_by : ℕ → Body → Option Vote
vote_by v (Plan p) = some (record { view = v; plan = p })
vote_by v Empty = none
vote_by v (Told x) = none

-- 'A report is a mark (1 present, 0 absent), a view and a plan': the vote that it reports.
abbrev pub reported : Slot.Report → Option Vote
reported x = cond (eqb x.mark 1) (some (record { view = x.view; plan = x.plan })) none

-- 'Absent means all 13 bytes zero': the report of a vote.
abbrev pub spelt : Option Vote → Slot.Report
spelt none = record { mark = 0; view = 0; plan = 0 }
spelt (some x) = record { mark = 1; view = x.view; plan = x.plan }

-- The report that a suggest or a proof is.
abbrev pub report_by : Body → Option Report
report_by (Plan p) = none
report_by Empty = none
report_by (Told x) = some (record { highest = reported x.highest; previous = reported x.previous; lock = reported x.lock })

-- 'in kept suggests (Rule 1) or proofs (Rule 3)': the kind of frame that carries a rule's reports.
abbrev pub kind_of : Rule → ℕ
kind_of rule1 = 7
kind_of rule3 = 8

-- The frame is put into its sender's row.
abbrev pub keeping : Frame → (ℕ → ℕ → Option Frame) → ℕ → ℕ → Option Frame
keeping f t = put₂ f.kind f.sender (some f) t

module _ (r : Record) where
  -- Its n vaults, of which f may break the rules.
  abbrev pub vaults : Vaults
  vaults = vaults_of r.set

  -- 'its leader is vault (view mod n)'.
  abbrev pub leader : ℕ → ℕ
  leader v = leader_of v r.set.n

  -- The vault itself leads view v.
  abbrev pub leads : ℕ → Bool
  leads v = eqb (leader v) r.set.id

  -- The kept vote-k of sender j; for k = 0 its proposal.
  abbrev pub vote_of : ℕ → ℕ → Option Vote
  vote_of k j = each (r.kept (suc k) j) (λ f. vote_by f.view f.body)

  -- The view for which sender j's kept view-change is.
  abbrev pub change_of : ℕ → Option ℕ
  change_of j = each (r.kept 6 j) (λ f. some f.view)

  -- 'Reports are those in kept suggests (Rule 1) or proofs (Rule 3) of view v', for the current view.
  abbrev pub reports_of : Rule → Reports
  reports_of rule j = each (r.kept (kind_of rule) j) (λ f. when (eqb f.view r.view) (report_by f.body))

  -- The plan of sender j's vote-k, where that is of the current view.
  abbrev pub plan_now : ℕ → ℕ → Option ℕ
  plan_now k j = each (vote_of k j) (λ x. when (eqb x.view r.view) (some x.plan))

  -- The vault's own vote-k was sent in this view.
  abbrev pub sent_now : ℕ → Bool
  sent_now k = not (is_none (plan_now k r.set.id))

  -- 'reports highest vote-2, previous vote-2, highest vote-3' and 'highest vote-1, previous vote-1, highest vote-4': its own.
  abbrev pub tells : Rule → Slots.Reports
  tells rule = record {
    highest = spelt (vote_of (claim_vote rule) r.set.id);
    previous = spelt (r.previous (claim_vote rule));
    lock = spelt (vote_of (lock_vote rule) r.set.id);
  }

  -- ---- the frames that the vault sends

  abbrev pub own_frame : ℕ → ℕ → Body → Frame
  own_frame kind v body = record { kind = kind; sender = r.set.id; view = v; body = body }

  -- View-change w.
  abbrev pub change_frame : ℕ → Frame
  change_frame w = own_frame 6 w Empty

  -- Vote-k for p in the current view; for k = 0 the proposal.
  abbrev pub vote_frame : ℕ → ℕ → Frame
  vote_frame k p = own_frame (suc k) r.view (Plan p)

  -- The suggest (Rule 1) or proof (Rule 3) for view w.
  abbrev pub report_frame : Rule → ℕ → Frame
  report_frame rule w = own_frame (kind_of rule) w (Told (tells rule))
