-- `entries::frame_size` meets its contract: the recipient byte, and the length of the kind.
-- Assumes nothing.
use Prim.Native.Nat.{ℕ, ◌+◌, ◌≤◌}
use mathlib.Core.Path.{sym, ap, subst, ◌∙◌}
use native.Mathlib.Omega.{arith}
use Rattle.entry.proofs.Laws.{length_short, frame_none, frame_some}
use Rattle.entry.proofs.frame_size.Goals as goal

pub returns-then-length-eq0 : goal.returns-then-length-eq0
returns-then-length-eq0 c = sym (frame_none _ (sym c.length_of-length.ensures ∙ c.if-length-eq0.true))

pub overflow_add-result : goal.overflow_add-result
overflow_add-result c =
    let short : c.length_of-length.result ≤ 45 = subst (λ (m : ℕ). m ≤ 45) (sym c.length_of-length.ensures) (length_short _) in
    omega arith

pub returns : goal.returns
returns c =
    let e = c.length_of-length.ensures in
    ap (λ (m : ℕ). 1 + m) e ∙ sym (frame_some _ (λ z. c.if-length-eq0.false (e ∙ z)))
