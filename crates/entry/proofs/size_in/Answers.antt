-- `entries::size_in` meets its contract: the first two bytes tell the size, and all of it must be there.
-- Assumes nothing.
use Prim.Native.Nat.{ℕ, ◌≤◌, ◌<◌}
use mathlib.Core.Path.{sym, subst, ◌∙◌}
use lib.ListN.{length}
use Rattle.entry.proofs.Laws.{in_short, in_cut, in_whole}
use Rattle.entry.proofs.size_in.Goals as goal

pub returns-then-s-lt2 : goal.returns-then-s-lt2
returns-then-s-lt2 c = sym (in_short _ c.if-s-lt2.true)

pub returns-then-s-size : goal.returns-then-s-size
returns-then-s-size c =
    let s = c.args.s.now in
    sym (in_cut s (subst (λ (k : ℕ). length s < k) c.size_by-size.ensures c.if-s-size.true))

pub returns : goal.returns
returns c =
    let s = c.args.s.now in
    c.size_by-size.ensures ∙ sym (in_whole s (subst (λ (k : ℕ). k ≤ length s) c.size_by-size.ensures c.if-s-size.false))
