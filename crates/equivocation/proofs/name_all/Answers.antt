-- `equivocation::name_all` meets its contract: 'by rising number'. The invariant: those of the vaults passed that spoke twice are written, one behind
-- the other, and so there is room for the next.
-- Assumes nothing.
use Prim.Native.Nat.{ℕ, ◌<◌}
use mathlib.Core.Path.{◌≡◌, refl, subst, ◌∙◌}
use native.Mathlib.Omega.{arith}
use lib.ListN.{length}
use Rattle.equivocation.specs.Named.{rising}
use Rattle.equivocation.specs.inside.Records.{twice_in, Put}
use Rattle.equivocation.proofs.Laws.{put_none, put_more, put_few, put_long}
use Rattle.equivocation.proofs.name_all.Goals as goal

pub loop-sender-init : goal.loop-sender-init
loop-sender-init c = (omega arith, refl, put_none _ _)

pub name-at-requires : goal.name-at-requires
name-at-requires c =
    let given = c.requires in
    let i = c.loop-sender.invariant in
    let few = put_few _ _ _ _ _ i.2 in
    let below : c.loop-sender.sender < 64 = omega (arith, given.1, c.loop-sender-test.true) in
    (given.0, below, omega (arith, given.2, below, i.1, few))

pub loop-sender-smaller : goal.loop-sender-smaller
loop-sender-smaller c = omega (arith, c.loop-sender-test.true)

pub loop-sender-preserved : goal.loop-sender-preserved
loop-sender-preserved c =
    let given = c.requires in
    let who = twice_in c.args.records.now c.args.count in
    let i = c.loop-sender.invariant in
    let test = c.loop-sender-test.true in
    let few = put_few _ _ _ _ _ i.2 in
    let room : c.loop-sender.at < length c.loop-sender.out = omega (arith, given.1, given.2, test, i.1, few) in
    let long = put_long _ _ _ _ c.loop-sender.sender (who c.loop-sender.sender) room c.name-at.ensures ∙ i.1 in
    (omega (arith, test), long, put_more _ _ _ _ _ _ _ i.2 c.name-at.ensures)

pub shape_of-out : goal.shape_of-out
shape_of-out c = c.loop-sender.invariant.1

pub returns : goal.returns
returns c =
    let a = c.args in
    let e : c.loop-sender.sender ≡ a.n = omega (arith, c.loop-sender-test.false, c.loop-sender.invariant.0) in
    subst (λ (k : ℕ). Put a.out.now 0 (rising (twice_in a.records.now a.count) k) c.loop-sender.out c.loop-sender.at) e c.loop-sender.invariant.2
