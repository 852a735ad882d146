-- The plan that steps E to H act on is the only one with a quorum, so it may be found in any way: two quorums of one vote share
-- a sender, and a sender has one kept vote of a number.
-- Assumes nothing.
use Prim.Native.Nat.{ℕ, ◌*◌, ◌<◌}
use mathlib.Core.Path.{◌≡◌, sym, ◌∙◌, ap}
use mathlib.Core.Bool.{true}
use mathlib.Core.Option.{some}
use native.Mathlib.Omega.{arith}
use lib.Dec.{eqb}
use borrow.Author.Tests.{eqb-true}
use Rattle.rules.specs.inside.Mostly.{Mostly}
use Rattle.rules.specs.Quorums.{Quorum}
use Rattle.rules.proofs.Quorums.{group_map, quorums_meet, quorum_blocks, blocking_keeper, count_quorum, mostly_equals, total_equals}
use Rattle.rules.specs.Options.{holds}
use Rattle.rules.proofs.Laws.{holds_where}
use Rattle.settings.specs.declared.Settings.{Settings}
use Rattle.settings.specs.Vaults.{vaults_of}
use Rattle.protocol.specs.Record.{Record, vaults, plan_now}
use Rattle.protocol.specs.Pass.{has_quorum, agreed}
use Rattle.protocol.specs.OnePlan.{AtMostOnePlan, AgreedIsThePlan}
use Rattle.protocol.proofs.Tables.{highest_has, highest_most}

-- Where 3f is below n, sets of vaults meet as if all kept the rules.
everyone : (s : Settings) → 3 * s.f < s.n → Mostly (vaults_of s) (λ i. true)
everyone s third = mostly_equals s.n s.f (λ i. true) third (omega (arith, total_equals s.n s.f))

module _ (r : Record) (third : 3 * r.set.f < r.set.n) where
  -- A quorum has a member.
  pub quorum_member : {P : ℕ → Type 0} → Quorum (vaults r) P → (j : ℕ) × (j < r.set.n) × P j
  quorum_member {P} q =
      let most = everyone r.set third in
      let enough : Quorum (vaults_of r.set) P = q in
      let (j, low, all, here) = blocking_keeper most (group_map (λ i low h keeps. h) (quorum_blocks most enough)) in
      (j, low, here)

  -- The quorum for p, member by member: each has a vote-k for p in this view.
  voters : (k p : ℕ) → has_quorum r k p ≡ true → Quorum (vaults r) (λ j. plan_now r k j ≡ some p)
  voters k p h =
      group_map (λ j low t. let (q, is, same) = holds_where (plan_now r k j) (eqb p) t in is ∙ ap some (sym (eqb-true p q same)))
      ((count_quorum (vaults r) (λ j. holds (eqb p) (plan_now r k j))).1 h)

-- At most one plan has a quorum.
pub one_plan : AtMostOnePlan
one_plan r third k p q hp hq =
    let most = everyone r.set third in
    let (i, low, all, a, b) = quorums_meet most (group_map (λ i low x keeps. x) (voters r third k p hp)) (group_map (λ i low x keeps. x) (voters r third k q hq))
    in
    let same : p ≡ q = cc in
    same

-- The plan that steps E to H act on is the one that has it.
pub agreed_is : AgreedIsThePlan
unfolding agreed
agreed_is r third k p = (λ e. (highest_has (has_quorum r k) (plan_now r k) r.set.n e).0, found)
  where
    found : has_quorum r k p ≡ true → agreed r k ≡ some p
    found h =
        let (j, low, at) = quorum_member r third (voters r third k p h) in
        let (w, is, le) = highest_most (has_quorum r k) (plan_now r k) r.set.n j p low at h in
        is ∙ ap some (one_plan r third k w p (highest_has (has_quorum r k) (plan_now r k) r.set.n is).0 h)
