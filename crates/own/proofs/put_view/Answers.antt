-- `own::put_view` meets its contract: four bytes of the head.
-- Assumes nothing.
use Prim.Native.Nat.{ℕ}
use mathlib.Core.Path.{sym, subst}
use mathlib.Core.List.{List}
use native.Mathlib.Omega.{arith}
use Rattle.wire.specs.Digits.{digits}
use Rattle.wire.specs.Fields.{Bytes}
use Rattle.wire.proofs.Laws.{bytes_digits}
use Rattle.wire.proofs.Output.{bytes_placed}
use Rattle.record.specs.inside.Slots.{with_view}
use Rattle.own.specs.inside.Own.{Changes}
use Rattle.own.proofs.Changes.{view_changes}
use borrow.Author.Rules.{rules}
use Rattle.own.proofs.put_view.Goals as goal

pub returns-clause-changes : goal.returns-clause-changes
returns-clause-changes c =
    let o = c.args.own.now in
    let w = c.args.w in
    subst (λ (l : List ℕ). Changes (λ r. with_view r w) o l) (sym c.put.ensures) (view_changes o (omega arith) w (search rules))

pub returns-clause-bytes : goal.returns-clause-bytes
returns-clause-bytes c =
    subst Bytes (sym c.put.ensures) (bytes_placed c.args.own.now 4 (digits 4 c.args.w) c.fits-own (bytes_digits 4 c.args.w))
