-- `claims::lowest_cleared` meets its contract.
-- The search over locks carries its count from candidate to candidate. Outer invariant: `LocksCarried`. Inner invariant: among the first r
-- vaults those whose span ends at the candidate have come in. A candidate that f + 1 cover is the highest view with enough (`locks_found`);
-- else the count goes on with the search (`locks_next`), and without a candidate left no view has enough (`locks_none`).
-- Assumes nothing.
use Prim.Native.Nat.{ℕ, ◌+◌, ◌-◌}
use mathlib.Core.Path.{◌≡◌, sym, ◌∙◌, ap}
use native.Mathlib.Omega.{arith}
use Rattle.claims.specs.inside.Spans.{covering, stands_at}
use Rattle.claims.proofs.Spans.{highest_low, locks_first, locks_more, locks_found, locks_next, locks_none}
use Rattle.rules.specs.Sets.{weigh}
use Rattle.rules.proofs.Quorums.{weigh_none, weigh_most, share_most}
use Rattle.claims.proofs.lowest_cleared.Goals as goal
use Rattle.claims.proofs.lowest_cleared.Goals.{After-is_blocking}

pub views-init : goal.views-init
views-init c =
    let a = c.args in
    locks_first a.spans.now a.n a.f a.v c.highest_to-t.result c.requires.1 c.highest_to-t.ensures

pub reporters-init : goal.reporters-init
reporters-init c =
    let a = c.args in
    let at = c.views in
    let none = weigh_none (λ i. 1) (stands_at a.spans.now at.t) in
    let most = weigh_most (covering a.spans.now at.t) a.n in
    (omega arith, omega (arith, none), omega (arith, most, at.invariant.are, c.requires.0))

pub reporters-preserved : goal.reporters-preserved
reporters-preserved c =
    let a = c.args in
    let t = c.views.t in
    let locks = c.views.locks in
    let share = c.share_at-locks in
    let inv = c.reporters.invariant in
    let most = share_most (stands_at a.spans.now t c.reporters.r) 1 share.result share.ensures in (
      omega (arith, most),
      locks_more a.spans.now a.n a.f t c.reporters.r locks c.reporters.locks share.result inv.1 share.ensures,
      inv.2,
    )

pub views-smaller : goal.views-smaller
views-smaller c =
    let a = c.args in
    omega (arith, c.highest_to-t-in-views.ensures, highest_low a.spans.now a.n a.f (c.views.t - 1) a.n)

-- All whose span ends at the candidate have come in.
counted : (c : After-is_blocking)
    → c.reporters.locks ≡ c.views.locks + weigh (λ i. 1) (stands_at c.args.spans.now c.views.t) c.args.n
counted c =
    let last = c.reporters in
    last.invariant.1 ∙ ap (λ (k : ℕ). c.views.locks + weigh (λ i. 1) (stands_at c.args.spans.now c.views.t) k) (omega arith)

pub views-preserved : goal.views-preserved
views-preserved c =
    let a = c.args in
    let at = c.views in
    let few = sym c.is_blocking.ensures ∙ c.if-is_blocking.false in
    locks_next a.spans.now a.n a.f a.v at.t at.locks at.invariant (omega arith) c.reporters.locks (counted (goal.at.views-preserved c).After-is_blocking) few
    c.highest_to-t-in-views.result c.highest_to-t-in-views.ensures

pub returns-then-t-eq0 : goal.returns-then-t-eq0
returns-then-t-eq0 c =
    let a = c.args in
    locks_none a.spans.now a.n a.f a.v c.views.t c.views.locks c.views.invariant c.if-t-eq0.true

pub returns-then-is_blocking : goal.returns-then-is_blocking
returns-then-is_blocking c =
    let a = c.args in
    let at = c.views in
    let enough = sym c.is_blocking.ensures ∙ c.if-is_blocking.true in
    locks_found a.spans.now a.n a.f a.v at.t at.locks at.invariant (omega arith) c.reporters.locks
    (counted (goal.at.returns-then-is_blocking c).After-is_blocking) enough
