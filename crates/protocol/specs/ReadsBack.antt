-- Each frame that an accepted call writes is accepted, as itself, by every vault that it is for (document 01, 'Refusals, place by
-- place', 9 to 15, and 21 and 22).
-- Assumes nothing.
use Rattle.std.specs.Prelude.{ℕ, ◌<◌, ◌≡◌, ◌≢◌, ◌⊎◌, List}
use Rattle.frame.specs.declared.Frame.{Frame}
use Rattle.frame.specs.Refusal.{Accepted}
use Rattle.frame.specs.Format.{encode}
use Rattle.frame.specs.Refusal.{read_frame}
use Rattle.entry.specs.declared.Entry.{Entry}
use Rattle.entry.specs.declared.Entry.TheVariants.{ForAll, ForOne}
use Rattle.settings.specs.declared.Settings.{Settings}
use Rattle.protocol.specs.Tables.{◌∈◌}

-- 'in an entry for all or for this vault': frame x, for vault j.
abbrev pub IsFor : ℕ → Frame → List Entry → Type 0
IsFor j x es = (ForAll x ∈ es) ⊎ (ForOne j x ∈ es)

-- 'ff all vaults, else a vault's number': every other vault j below n that a frame is for reads it as that frame, with the own number as link.
abbrev pub ReadBy : Settings → List Entry → Type 0
ReadBy s es = (j : ℕ) (x : Frame) → j < s.n → j ≢ s.id → IsFor j x es → read_frame (encode x) s.id s.n j ≡ Accepted x
