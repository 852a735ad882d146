-- `reach::highest_claim` meets its contract: the leaf of crate claims computes the wish's sentence (`leaf_reach`).
-- Assumes nothing.
use Prim.Native.Nat.{◌<◌, max}
use mathlib.Core.Path.{◌≡◌, ◌∙◌}
use mathlib.Core.Bool.{cond}
use native.Mathlib.Omega.{arith}
use borrow.Author.Rules.{rules}
use lib.Dec.{eqb}
use Rattle.reach.proofs.Laws.{leaf_most, leaf_reach}
use Rattle.reach.proofs.highest_claim.Goals as goal

pub overflow_cast-result : goal.overflow_cast-result
overflow_cast-result c =
    let a = c.args in
    let high : a.told.highest.view < 4294967296 = search rules in
    let before : a.told.previous.view < 4294967296 = search rules in
    let most = leaf_most (eqb a.told.highest.plan a.plan) _ _ high before in
    omega (arith, c.reach.ensures, most)

pub returns : goal.returns
returns c =
    let t = c.args.told in
    let leaf : c.reach.result ≡ max (cond (eqb t.highest.plan c.args.plan) t.highest.view 0) t.previous.view = c.reach.ensures in
    leaf ∙ leaf_reach t c.args.plan c.requires
