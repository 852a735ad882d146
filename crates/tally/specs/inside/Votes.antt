-- Votes of this view, slot by slot, and the one plan that may have a quorum of them (document 01, 'One pass', E to H).
-- A quorum is more than half of the vaults. So votes for two plans are set off against each other, one by one: a plan that more
-- than half are for is the one that leads in the end.
-- Assumes nothing.
use Rattle.std.specs.Prelude.{ℕ, zero, suc, ◌+◌, ◌-◌, ◌≤◌, ◌<◌, ◌≡◌, Bool, cond, ◌&&◌, List, eqb}
use Rattle.std.proofs.Math.Option.{Option, none, some}
use Rattle.rules.specs.Sets.{equals}
use Rattle.rules.specs.Quorums.{is_quorum}
use Rattle.rules.specs.Options.{holds}
use Rattle.frame.specs.declared.Report.{Report}
use Rattle.frame.specs.Refusal.{present}
use Rattle.record.specs.Slots.{frame_slot}
use Rattle.record.specs.Layout.{slot_in}
use Rattle.tally.specs.inside.Parts.{block_place, row_in}
use Rattle.tally.specs.declared.Lead.{Lead}

-- 'for this view': the plan of the vote in a slot, where that is of view v.
unfoldable pub voted : ℕ → Report → Option ℕ
voted v slot = cond (present slot && eqb slot.view v) (some slot.plan) none

-- The plan of a sender's vote-k (0: proposal), where that is of view v.
abbrev pub vote_in_block : List ℕ → ℕ → ℕ → ℕ → Option ℕ
vote_in_block block v k j = voted v (slot_in block (block_place (frame_slot (k + 1) j)))

-- The plans of the votes of view v that stand from a place on.
abbrev pub row_votes : List ℕ → ℕ → ℕ → ℕ → Option ℕ
row_votes block v from j = voted v (row_in block from j)

-- A vote for x: one more for the plan that leads, or one against it.
unfoldable pub lead_with : Lead → ℕ → Lead
lead_with b x =
    cond (eqb x b.plan) (record { plan = x; margin = b.margin + 1; votes = b.votes + 1 })
    (cond (eqb b.margin 0) (record { plan = x; margin = 1; votes = b.votes + 1 })
    (record { plan = b.plan; margin = b.margin - 1; votes = b.votes + 1 }))

-- The plan that leads, once a vote, if there is one, is counted.
abbrev pub lead_after : Lead → Option ℕ → Lead
lead_after b none = b
lead_after b (some x) = lead_with b x

-- The plan that leads among the first k votes.
unfoldable pub leading : (ℕ → Option ℕ) → ℕ → Lead
leading vote zero = record { plan = 0; margin = 0; votes = 0 }
leading vote (suc k) = lead_after (leading vote k) (vote k)

-- The lead after n votes; where more than f are missing, only that they are.
pub record Leads (vote : ℕ → Option ℕ) (n f : ℕ) (b : Lead) : Type 0 where
  pub few : b.votes + f < n → (leading vote n).votes + f < n
  pub all : n ≤ b.votes + f → b ≡ leading vote n

-- 'A quorum .. for this view and one plan'.
abbrev pub quorum_for : (ℕ → Option ℕ) → ℕ → ℕ → ℕ → Bool
quorum_for vote n f p = is_quorum (equals n f) (λ j. holds (eqb p) (vote j))

-- The plan that leads, where a quorum is for it.
unfoldable pub agreed_in : (ℕ → Option ℕ) → ℕ → ℕ → Option ℕ
agreed_in vote n f = cond (quorum_for vote n f (leading vote n).plan) (some (leading vote n).plan) none
