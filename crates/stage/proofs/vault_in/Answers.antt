-- `stage::vault_in` meets its contract: '01 deliver (frame number, vault)' names the vault behind the number, the others behind their kind.
-- Assumes nothing.
use mathlib.Core.Path.{◌≡◌, ◌∙◌}
use borrow.Author.Tests.{eq-eqb, ne_eqb}
use Rattle.frame.proofs.Laws.{told}
use Rattle.stage.specs.Lines.{kind_of, vault_in}
use Rattle.stage.proofs.vault_in.Goals as goal

pub returns-then-byte_at-eq-DELIVER : goal.returns-then-byte_at-eq-DELIVER
unfolding vault_in
returns-then-byte_at-eq-DELIVER c =
    let b = c.args.bytes.now in
    rw (eq-eqb (kind_of b) 1 (told c.byte_at.ensures c.if-byte_at-eq-DELIVER.true)) c.byte_at-then-byte_at-eq-DELIVER.ensures

pub returns : goal.returns
unfolding vault_in
returns c =
    let b = c.args.bytes.now in
    rw (ne_eqb (kind_of b) 1 (λ (e : kind_of b ≡ 1). c.if-byte_at-eq-DELIVER.false (c.byte_at.ensures ∙ e))) c.byte_at-2.ensures
