-- `claims::serving_view` meets its contract.
-- The walk down the candidate views. Outer invariant: no view finished so far serves, and the count is that of the claimers at the last of them
-- (`Walked`). Inner invariant: the first r of those that come in for one plan are counted too. A view that f + 1 claim serves; else the next is tried.
-- Assumes nothing.
use Prim.Native.Nat.{ℕ, ◌+◌, ◌-◌, ◌≤◌}
use mathlib.Core.Path.{◌≡◌, refl, sym, ◌∙◌, ap}
use mathlib.Core.Bool.{true}
use native.Mathlib.Omega.{arith}
use lib.Dec.{eqb}
use lib.ListN.{get_or}
use Rattle.claims.proofs.Rows.{count_none, count_step}
use Rattle.claims.proofs.Walk.{end_bounds, coming_fits, others_bound, walk_begins, walk_over, walk_step, walk_on}
use Rattle.claims.specs.declared.Coming.{Coming}
use Rattle.claims.specs.inside.Rows.{count_of}
use Rattle.claims.specs.inside.Walk.{coming_for, FitsComing, coming_at, Walked}
use Rattle.claims.specs.Table.{column}
use Rattle.rules.proofs.Quorums.{share_most}
use Rattle.claims.proofs.serving_view.Goals as goal
use Rattle.claims.proofs.serving_view.Goals.{After-is_blocking, After-others_for}

pub views-init : goal.views-init
views-init c =
    let a = c.args in
    let begins : Walked a.plans.now a.c a.low a.p c.end_of-end.result 0
    = walk_begins a.plans.now a.c a.low a.p c.end_of-end.result c.end_of-end.ensures in
    (refl, omega arith, omega arith, begins)

-- Who comes in at a view has a place in the row.
fits : (c : After-others_for) → FitsComing c.coming_at-coming.result
fits c =
    let w = c.views.end - 1 in
    coming_fits c.args.c w c.coming_at-coming.result c.coming_at-coming.ensures c.requires.1 c.requires.2

-- Of the others no more come in than there are.
most : (c : After-others_for) → c.others_for.result ≤ column
most c = others_bound _ _ _ _ c.others_for.ensures (omega (arith, (fits c).1))

pub overflow_add-claimers : goal.overflow_add-claimers
overflow_add-claimers c = let d = (goal.at.overflow_add-claimers c).After-others_for in omega (arith, most d, (fits d).0)

pub overflow_add-claimers-in-views : goal.overflow_add-claimers-in-views
overflow_add-claimers-in-views c =
    let d = (goal.at.overflow_add-claimers-in-views c).After-others_for in
    omega (arith, most d, (fits d).0, c.views.invariant.2)

pub reporters-init : goal.reporters-init
reporters-init c =
    let a = c.args in
    let d = (goal.at.reporters-init c).After-others_for in
    let (every, others, from, some) = fits d in (
      omega arith,
      omega (arith, count_none a.plans.now c.coming_at-coming.result.from a.p),
      from,
      some,
      omega (arith, most d, every, c.views.invariant.2),
    )

pub reporters-preserved : goal.reporters-preserved
reporters-preserved c =
    let a = c.args in
    let at = c.reporters in
    let from = c.coming_at-coming.result.from in
    let share = share_most (eqb (get_or a.plans.now (from + at.r) 0) a.p) 1 c.plan_share-claimers.result c.plan_share-claimers.ensures in (
      omega (arith, share),
      count_step a.plans.now from at.r a.p _ at.claimers c.plan_share-claimers.result at.invariant.1 c.plan_share-claimers.ensures,
      at.invariant.2,
      at.invariant.3,
      at.invariant.4,
    )

abbrev view : After-is_blocking → ℕ
view c = c.views.end - 1

-- All who come in there are counted.
comes : (c : After-is_blocking) → let a = c.args in
    c.reporters.claimers ≡ c.views.claimers + coming_for a.plans.now (coming_at a.c (view c)) a.p
comes c =
    let a = c.args in
    let t = c.coming_at-coming.result in
    let at = c.reporters in
    let was = c.views.claimers in
    let all : at.r ≡ t.some = omega arith in
    let sum : at.claimers ≡ was + coming_for a.plans.now t a.p
    = omega (arith, at.invariant.1, c.others_for.ensures, ap (λ (k : ℕ). count_of a.plans.now t.from k a.p) all) in
    sum ∙ ap (λ (t : Coming). was + coming_for a.plans.now t a.p) c.coming_at-coming.ensures

pub views-preserved : goal.views-preserved
views-preserved c =
    let a = c.args in
    let last = c.views in
    let (below, two, most') = end_bounds a.c.u a.c.v c.requires.0 in
    let few = sym c.is_blocking.ensures ∙ c.if-is_blocking.false in (
      last.invariant.0,
      omega (arith, last.invariant.1),
      omega (
        arith,
        last.invariant.1,
        last.invariant.2,
        c.if-end-low.false,
        c.reporters.invariant.0,
        (fits (goal.at.views-preserved c).After-others_for).0,
        (fits (goal.at.views-preserved c).After-others_for).3,
        most (goal.at.views-preserved c).After-others_for,
      ),
      walk_on a.plans.now a.c a.low a.p last.end (view (goal.at.views-preserved c).After-is_blocking) last.claimers _ last.invariant.3
          c.if-end-low.false refl (comes (goal.at.views-preserved c).After-is_blocking) below two few,
    )

pub returns-then-end-low : goal.returns-then-end-low
returns-then-end-low c =
    let a = c.args in
    let last = c.views in
    walk_over a.plans.now a.c a.low a.p last.end last.claimers last.invariant.3 c.if-end-low.true

pub returns-then-is_blocking : goal.returns-then-is_blocking
returns-then-is_blocking c =
    let a = c.args in
    let last = c.views in
    let d = (goal.at.returns-then-is_blocking c).After-is_blocking in
    sym (walk_step a.plans.now a.c a.low a.p last.end (view d) last.claimers _ last.invariant.3 c.if-end-low.false refl (comes d) true
    (sym c.is_blocking.ensures ∙ c.if-is_blocking.true))
