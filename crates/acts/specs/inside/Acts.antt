-- What the code's answers mean: each is what document 01's definition of the step gives for the record's contents.
-- Assumes nothing.
use Rattle.std.specs.Prelude as prelude
use Rattle.std.specs.Prelude.{ℕ, [], ◌∷◌, get_or, Some, None}
use Rattle.std.proofs.Math.Option.{Option, none, some}
use Rattle.protocol.specs.Record.{Record}
use Rattle.protocol.specs.Pass as pass
use Rattle.protocol.specs.Pass.{act_a, act_b, act_c, act_d, act_vote, act_h}
use Rattle.acts.specs.declared.Act.{Act}
use Rattle.acts.specs.declared.Act.TheVariants.{Ask, Enter, Cast, Decide}

-- 'broadcast view-change w', 'Enter it', 'send vote-k' (0: propose), 'decide', or nothing.
abbrev pub as_act : prelude.Option Act → Option pass.Act
as_act (Some (Ask w)) = some (pass.ask w)
as_act (Some (Enter w)) = some (pass.enter w)
as_act (Some (Cast k p)) = some (pass.cast k p)
as_act (Some (Decide p)) = some (pass.decide p)
as_act None = none

-- 'A' to 'H', by their numbers 0 to 7: what the step is to do. Past H there is nothing.
unfoldable pub act_at : ℕ → Record → Option pass.Act
act_at k = get_or (act_a ∷ act_b ∷ act_c ∷ act_d ∷ (λ c. act_vote c 1) ∷ (λ c. act_vote c 2) ∷ (λ c. act_vote c 3) ∷ act_h ∷ []) k (λ c. none)
