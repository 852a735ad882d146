-- `vault_c::vault_current` meets its contract: refusal 1, or what the question on the record answers.
-- Assumes nothing.
use Prim.Native.Nat.{ℕ}
use mathlib.Core.Path.{sym, ap, ◌∙◌}
use Rattle.vault_c.specs.Asked.{told}
use Rattle.vault_c.proofs.Asked.{no_room, current_told, two_set}
use Rattle.vault_c.proofs.vault_current.Goals as goal

pub returns-then-out-lt2 : goal.returns-then-out-lt2
returns-then-out-lt2 c = no_room c.args.out.now _ c.if-out-lt2.true

pub returns-in-Ok : goal.returns-in-Ok
returns-in-Ok c =
    let out = c.args.out.now in
    current_told out _ _ _ c.if-out-lt2.false (sym c.in-Ok.is ∙ c.current_of.ensures)
    (ap (told 256) (two_set out _ _ c.if-out-lt2.false))

pub returns-in-Err : goal.returns-in-Err
returns-in-Err c =
    let out = c.args.out.now in
    current_told out _ _ _ c.if-out-lt2.false (sym c.in-Err.is ∙ c.current_of.ensures) (ap (λ (k : ℕ). told k out) c.refused.ensures)
