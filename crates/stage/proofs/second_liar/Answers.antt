-- `stage::second_liar` meets its contract: 'declaring a second liar'. Declaring the liar again is none.
-- Assumes nothing.
use mathlib.Core.Path.{◌≡◌, refl}
use borrow.Author.Tests.{eq-eqb, ne_eqb}
use Rattle.frame.proofs.Laws.{told}
use Rattle.stage.specs.Lines.{kind_of}
use Rattle.stage.proofs.second_liar.Goals as goal

pub returns-then-byte_at-ne-DECLARE : goal.returns-then-byte_at-ne-DECLARE
returns-then-byte_at-ne-DECLARE c = rw (← c.byte_at.ensures, ne_eqb _ 3 c.if-byte_at-ne-DECLARE.true) refl

pub returns-then-no_liar : goal.returns-then-no_liar
returns-then-no_liar c =
    let b = c.args.bytes.now in
    let third : kind_of b ≡ 3 = told c.byte_at.ensures c.if-byte_at-ne-DECLARE.false in
    rw (eq-eqb (kind_of b) 3 third, told c.no_liar.ensures c.if-no_liar.true) refl

pub returns : goal.returns
returns c =
    let b = c.args.bytes.now in
    let third : kind_of b ≡ 3 = told c.byte_at.ensures c.if-byte_at-ne-DECLARE.false in
    let somebody = told c.no_liar.ensures c.if-no_liar.false in
    rw (eq-eqb (kind_of b) 3 third, somebody, c.is_liar.ensures, c.vault_in.ensures) refl
