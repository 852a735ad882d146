-- One pass, by contents (document 01, 'One pass'): what each step does to the record and writes.
-- Assumes nothing.
use Rattle.std.specs.Prelude.{ℕ, suc, ◌*◌, Bool, true, false, cond, not, ◌&&◌, ◌||◌, List, [], ◌∷◌, ◌++◌, leb, ltb, eqb}
use Rattle.std.proofs.Math.Option.{Option, none, some}
use Rattle.rules.specs.Sets.{Vaults, Set}
use Rattle.rules.specs.Quorums.{is_quorum, is_blocking}
use Rattle.rules.specs.Options.{is_none, holds}
use Rattle.rules.specs.Rules.{Vote, rule1, rule3}
use Rattle.rules.specs.inside.Counts.{safe, choice}
use Rattle.frame.specs.declared.Frame.{Frame}
use Rattle.entry.specs.declared.Entry.{Entry}
use Rattle.entry.specs.declared.Entry.TheVariants.{ForAll, ForOne, Timer, Decision}
use Rattle.settings.specs.Settings.{delay_of}
use Rattle.protocol.specs.Record.{Record, changed, when, each, highest, keeping, vaults, leader, leads, vote_of, change_of, reports_of, plan_now}
use Rattle.protocol.specs.Record.{sent_now, change_frame, vote_frame, report_frame}
use Rattle.protocol.specs.Tables.{put}

-- ---- what a step does, and writes

-- Broadcast view-change w; enter view w; send vote-k for p (k = 0: propose p); decide p.
pub data Act : Type 0 where
  ask : ℕ → Act
  enter : ℕ → Act
  cast : ℕ → ℕ → Act
  decide : ℕ → Act

-- 'A timer is 9 × Δ'.
abbrev pub timer_entry : Record → ℕ → Entry
timer_entry r w = Timer w (9 * delay_of r.set.class)

-- 'a new vote for the same plan leaves previous alone': the previous vote, once a vote for p follows the highest so far.
abbrev pub shift : ℕ → Option Vote → Option Vote → Option Vote
shift p none old = old
shift p (some x) old = cond (eqb x.plan p) old (some x)

-- 'its own previous vote-1 and vote-2': only of these it keeps one.
abbrev pub has_previous : ℕ → Bool
has_previous k = eqb k 1 || eqb k 2

-- The previous votes, once vote-k for p is sent.
abbrev pub shifted : Record → ℕ → ℕ → ℕ → Option Vote
shifted r k p = cond (has_previous k) (put k (shift p (vote_of r k r.set.id) (r.previous k)) r.previous) r.previous

-- The kept frames, once view w is entered: 'a suggest goes there only where the vault leads that view'.
abbrev pub entered : Record → ℕ → Bool → ℕ → ℕ → Option Frame
entered r w true = keeping (report_frame r rule1 w) (keeping (report_frame r rule3 w) r.kept)
entered r w false = keeping (report_frame r rule3 w) r.kept

-- 'Its own broadcasts go into its own row': the record afterwards.
unfoldable pub does : Record → Act → Record
does r (ask w) = changed r r.view (keeping (change_frame r w) r.kept) r.previous r.decision
does r (enter w) = changed r w (entered r w (leads r w)) r.previous r.decision
does r (cast k p) = changed r r.view (keeping (vote_frame r k p) r.kept) (shifted r k p) r.decision
does r (decide p) = changed r r.view r.kept r.previous (some (record { view = r.view; plan = p }))

-- 'suggest to its leader (not sent to oneself)'.
abbrev pub suggest_entry : Record → ℕ → Bool → List Entry
suggest_entry r w true = []
suggest_entry r w false = ForOne (leader r w) (report_frame r rule1 w) ∷ []

-- The entries written: 'Enter it: timer entry, proof to all, suggest to its leader'.
unfoldable pub writes : Record → Act → List Entry
writes r (ask w) = ForAll (change_frame r w) ∷ []
writes r (enter w) = timer_entry r w ∷ ForAll (report_frame r rule3 w) ∷ suggest_entry r w (leads r w)
writes r (cast k p) = ForAll (vote_frame r k p) ∷ []
writes r (decide p) = Decision r.view p ∷ []

-- ---- when a step does something

module _ (r : Record) where
  -- Enough kept view-changes are for w or later: 'a kept view-change for w counts for every view up to w' (document 02, wish 3).
  abbrev pub asked : (Vaults → Set → Bool) → ℕ → Bool
  asked enough w = enough (vaults r) (λ j. holds (leb w) (change_of r j))

  -- 'above the current view and above the vault's own view-change, where it has sent one'.
  abbrev pub is_news : ℕ → Bool
  is_news w = ltb r.view w && not (holds (leb w) (change_of r r.set.id))

  -- A. 'Take the highest view w for which f + 1 kept view-changes are for w. If w is above .., broadcast view-change w.'
  abbrev pub act_a : Option Act
  act_a = each (highest (asked is_blocking) (change_of r) r.set.n) (λ w. when (is_news w) (some (ask w)))

  -- 'above the current view with n - f kept view-changes for w'.
  abbrev pub can_enter : ℕ → Bool
  can_enter w = ltb r.view w && asked is_quorum w

  -- B. 'Take the highest w above the current view with n - f kept view-changes for w. Enter it.'
  abbrev pub act_b : Option Act
  act_b = each (highest can_enter (change_of r) r.set.n) (λ w. some (enter w))

  -- 'A leader that has not proposed in this view'.
  abbrev pub may_propose : Bool
  may_propose = leads r r.view && not (sent_now r 0)

  -- 'its starting plan if that is safe by Rule 1, else the smallest safe plan': `choice` counts; `ChoiceIsTheRule` (rules/specs/Sentences) says it by sets.
  abbrev pub chosen : Option ℕ
  chosen = choice (vaults r) (reports_of r rule1) r.view r.start

  -- C. 'A leader that has not proposed in this view proposes its starting plan .., else the smallest safe plan, else waits.'
  abbrev pub act_c : Option Act
  act_c = when may_propose (each chosen (λ p. some (cast 0 p)))

  -- 'vote-1 was not sent in this view and the leader's proposal .. is safe by Rule 3': `safe` counts; `CountingIsTheRule` (same file) says it by sets.
  abbrev pub approves : ℕ → Bool
  approves p = not (sent_now r 1) && safe rule3 (vaults r) (reports_of r rule3) r.view p

  -- D. 'If vote-1 was not sent in this view and the leader's proposal for it is kept and safe by Rule 3: vote-1.'
  abbrev pub act_d : Option Act
  act_d = each (plan_now r 0 (leader r r.view)) (λ p. when (approves p) (some (cast 1 p)))

  -- 'A quorum of vote-k for this view and one plan'.
  abbrev pub has_quorum : ℕ → ℕ → Bool
  has_quorum k p = is_quorum (vaults r) (λ j. holds (eqb p) (plan_now r k j))

  -- The plan that has it. No two plans do, and this is the one (`AtMostOnePlan`, `AgreedIsThePlan` in OnePlan).
  unfoldable pub agreed : ℕ → Option ℕ
  agreed k = highest (has_quorum k) (plan_now r k) r.set.n

  -- E, F, G, k = 1, 2, 3. 'A quorum of vote-1 (-2, -3) for this view and one plan: send vote-2 (-3, -4), once a view, whether or not the earlier .. was sent.'
  abbrev pub act_vote : ℕ → Option Act
  act_vote k = each (agreed k) (λ p. when (not (sent_now r (suc k))) (some (cast (suc k) p)))

  -- H. 'A quorum of vote-4 for this view and one plan: decide, if nothing was decided.'
  abbrev pub act_h : Option Act
  act_h = each (agreed 4) (λ p. when (is_none r.decision) (some (decide p)))

-- ---- one pass

-- The record that is left, and the entries written.
pub record Out : Type 0 where
  pub left : Record
  pub wrote : List Entry

abbrev pub Step : Type 0
Step = Record → Out

-- The act is done, if there is one.
abbrev pub taken : Record → Option Act → Out
taken r none = record { left = r; wrote = [] }
taken r (some a) = record { left = does r a; wrote = writes r a }

unfoldable pub step_a : Step
step_a r = taken r (act_a r)

unfoldable pub step_b : Step
step_b r = taken r (act_b r)

unfoldable pub step_c : Step
step_c r = taken r (act_c r)

unfoldable pub step_d : Step
step_d r = taken r (act_d r)

-- Steps E, F, G for k = 1, 2, 3.
unfoldable pub step_vote : ℕ → Step
step_vote k r = taken r (act_vote r k)

unfoldable pub step_h : Step
step_h r = taken r (act_h r)

-- Entries written before what follows.
abbrev pub onward : List Entry → Out → Out
onward es o = record { left = o.left; wrote = es ++ o.wrote }

-- 'in this order': each step on the record that the one before it left.
unfoldable pub pass : List Step → Step
pass [] r = record { left = r; wrote = [] }
pass (s ∷ rest) r = onward (s r).wrote (pass rest (s r).left)

-- From C, as after a start.
abbrev pub from_c : List Step
from_c = step_c ∷ step_d ∷ step_vote 1 ∷ step_vote 2 ∷ step_vote 3 ∷ step_h ∷ []

-- From A.
abbrev pub from_a : List Step
from_a = step_a ∷ step_b ∷ from_c
