-- `layout::put_view` meets its contract: four bytes of the shared part's head.
-- Assumes nothing.
use Prim.Native.Nat.{ℕ}
use mathlib.Core.Path.{sym, subst}
use mathlib.Core.List.{List}
use Rattle.record.specs.inside.Slots.{with_view}
use Rattle.record.specs.Layout.{decode_record}
use Rattle.record.specs.inside.Layout.{HoldsRecord}
use Rattle.record.proofs.Laws.{holds_view}
use borrow.Author.Rules.{rules}
use Rattle.record.proofs.put_view.Goals as goal

pub returns : goal.returns
returns c =
    let o = c.args.rec.now in
    let e = c.put.ensures in
    subst (λ (l : List ℕ). HoldsRecord l (with_view (decode_record o) c.args.view)) (sym e)
    (holds_view o c.args.view c.requires (search rules))
