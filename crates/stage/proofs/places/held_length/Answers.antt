-- `stage::places::held_length` meets its contract: 'then 0 to 45 bytes'. One less than the mark, but no more than a place has room for.
-- Assumes nothing.
use Prim.Native.Nat.{◌-◌}
use mathlib.Core.Path.{◌≡◌, ◌∙◌}
use native.Mathlib.Decide.{dec_le}
use native.Mathlib.Omega.{arith}
use Rattle.stage.proofs.Waiting.{held_most, held_rest}
use Rattle.stage.proofs.places.held_length.Goals as goal

pub returns : goal.returns
returns c =
    let mark : c.saturating_sub.result ≡ c.args.mark - 1 = rw (c.saturating_sub.ensures, c.from.ensures) in
    elim (dec_le (c.args.mark - 1) 45) [
      | yes h ↦ let is : c.min.result ≡ c.args.mark - 1 = omega (arith, c.min.ensures) in (is ∙ held_rest c.args.mark h, omega arith)
      | no g ↦ let is : c.min.result ≡ 45 = omega (arith, c.min.ensures) in (is ∙ held_most c.args.mark (omega arith), omega arith)
    ]
