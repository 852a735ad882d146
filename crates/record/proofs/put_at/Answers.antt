-- `layout::put_at` meets its contract: a byte stored and two numbers put behind it are the slot.
-- Assumes nothing.
use Prim.Native.Nat.{ℕ, ◌+◌}
use mathlib.Core.Path.{◌≡◌, ap, ◌∙◌}
use mathlib.Core.List.{List}
use native.Mathlib.Omega.{arith}
use lib.ListN.{set}
use Rattle.wire.specs.Digits.{digits}
use Rattle.wire.specs.Placed.{placed}
use Rattle.record.proofs.Laws.{slot_stores}
use Rattle.record.proofs.put_at.Goals as goal

pub returns : goal.returns
returns c =
    let o = c.args.part.now in
    let at = c.args.at in
    let x = c.args.slot in
    let view : c.put.new.out ≡ placed (set o at x.mark) (at + 1) (digits 4 x.view) = c.put.ensures in
    c.put-2.ensures
    ∙ ap (λ (l : List ℕ). placed l (at + 5) (digits 8 x.plan))
    view
    ∙ slot_stores o at x (omega arith)
