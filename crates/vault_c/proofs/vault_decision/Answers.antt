-- `vault_c::vault_decision` meets its contract: refusal 1, or what the question on the record answers.
-- Assumes nothing.
use Prim.Native.Nat.{ℕ}
use mathlib.Core.Path.{refl, sym, ap, ◌∙◌}
use Rattle.std.specs.Prelude.{Ok, Some, None}
use Rattle.vault_c.specs.Asked.{told}
use Rattle.vault_c.proofs.Asked.{no_room, decision_told, two_set}
use Rattle.vault_c.proofs.vault_decision.Goals as goal

pub returns-then-out-lt2 : goal.returns-then-out-lt2
returns-then-out-lt2 c = no_room c.args.out.now _ c.if-out-lt2.true

pub returns-in-Ok-Some : goal.returns-in-Ok-Some
returns-in-Ok-Some c =
    let out = c.args.out.now in
    decision_told out _ (Ok (Some c.in-Ok-Some.decision)) _ c.if-out-lt2.false (let inner = sym c.in-Ok-Some.field-0-is in (λ i. Ok (inner i)) ∙ c.in-Ok-Some.ensures)
    (ap (told 257) (two_set out _ _ c.if-out-lt2.false))

pub returns-in-Ok-None : goal.returns-in-Ok-None
returns-in-Ok-None c =
    let out = c.args.out.now in
    decision_told out _ (Ok None) _ c.if-out-lt2.false (let inner = sym c.in-Ok-None.field-0-is in (λ i. Ok (inner i)) ∙ c.in-Ok-None.ensures) refl

pub returns-in-Err : goal.returns-in-Err
returns-in-Err c =
    let out = c.args.out.now in
    decision_told out _ _ _ c.if-out-lt2.false (sym c.in-Err.is ∙ c.decision_of.ensures) (ap (λ (k : ℕ). told k out) c.refused.ensures)
