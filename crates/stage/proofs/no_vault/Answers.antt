-- `stage::no_vault` meets its contract: 'a vault above 3'; 02 names none.
-- Assumes nothing.
use mathlib.Core.Path.{◌≡◌, refl, ◌∙◌}
use borrow.Author.Tests.{ne_eqb}
use Rattle.stage.specs.Lines.{kind_of}
use Rattle.stage.proofs.no_vault.Goals as goal

pub returns-then-byte_at-ne-DROP : goal.returns-then-byte_at-ne-DROP
returns-then-byte_at-ne-DROP c =
    let b = c.args.bytes.now in
    rw (ne_eqb (kind_of b) 2 (λ (e : kind_of b ≡ 2). c.if-byte_at-ne-DROP.true (c.byte_at.ensures ∙ e)), c.vault_in.ensures) refl
