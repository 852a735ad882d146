-- Any two plans with a quorum of vote-4 are the same plan (002, Lemmas 6 to 8).
-- In one view: behind vote-(k + 1) stands a quorum of vote-k, down to vote-1, and two quorums share a rule-keeper, who votes-1
-- once. In a later view: among the proofs behind a vote-1 is one of a rule-keeper who sent vote-4 for p in view v, so by Rule 3
-- the vote's plan is claimed above v, or that lock at v is for it; and above v true reports claim only p, by induction over views.
-- Assumes nothing.
use Prim.Native.Nat.{ℕ, zero, suc, ◌<◌}
use mathlib.Core.Path.{◌≡◌, sym, ◌∙◌}
use mathlib.Core.Logic.{inl, inr}
use mathlib.Core.Bool.{true}
use native.Mathlib.Omega.{arith}
use native.Mathlib.Decide.{dec_lt}
use Rattle.rules.specs.Sets.{Vaults, Set}
use Rattle.rules.specs.Quorums.{Quorum}
use Rattle.rules.specs.inside.Mostly.{Mostly}
use Rattle.rules.proofs.Quorums.{group_map, quorums_meet, blocking_keeper, quorum_blocks}
use Rattle.rules.specs.Rules.{Report, rule3, Safe, at_start, no_lock, since, Claimed, Backed, claims, unlocked, allows}
use Rattle.rules.specs.Sentences.{Says, always, for_it, for_any}
use Rattle.rules.proofs.Single.{claims_says}
use Rattle.rules.proofs.Laws.{holds_where}
use Rattle.rules.specs.inside.Law.{History, Exact, Vouched, Lawful, Locked}
use Rattle.rules.proofs.Reports.{none≢some, allowed_lock, unlocked_none}

module _ {vs : Vaults} {keeps : Set} (most : Mostly vs keeps) {voted : History} (law : Lawful vs keeps voted) where
  -- Vote-k for p in view v, by a quorum as far as rule-keepers go.
  abbrev Full : ℕ → ℕ → ℕ → Type 0
  Full k v p = Quorum vs (λ j. keeps j ≡ true → voted j k v p)

  -- Behind a quorum of any vote stands one of vote-1.
  pub rooted : {v p : ℕ} (k : ℕ) → Full (suc k) v p → Full 1 v p
  rooted zero q = q
  rooted (suc k) q =
      let (j, low, h, x) = blocking_keeper most (quorum_blocks most q) in
      rooted k (law.chain k h x)

  -- In one view all quorums are for one plan (Lemmas 6 and 7).
  one_in_view : {v p q : ℕ} (k l : ℕ) → Full (suc k) v p → Full (suc l) v q → p ≡ q
  one_in_view k l a b =
      let (j, low, h, x, y) = quorums_meet most (rooted k a) (rooted l b) in
      law.once h x y

  -- p has a quorum of vote-4 in view v; a vault votes-1 for q in a later view u; between the two every vote-1 was for p.
  module _ {v p u q : ℕ} (locks : Locked vs keeps voted v p) (later : v < u)
      (before : (w : ℕ) → v < w → w < u → (j x : ℕ) → keeps j ≡ true → voted j 1 w x → x ≡ p) (c : Vouched vs keeps (λ j. Exact (voted j) rule3 u) u q) where
    -- An exact report that claims a plan above v claims p.
    claim_is_p : {j a x : ℕ} (r : Report) → v < a → keeps j ≡ true → Exact (voted j) rule3 u r → claims x a r ≡ true → x ≡ p
    claim_is_p {j} {a} {x} r above h t says = go ((claims_says r x a).0 says)
      where
        go : Says r x a → x ≡ p
        go (always e) = absurd (omega arith)
        go (for_it {x = y} e same le) = sym same ∙ before y.view (omega arith) (t.highest.low e) j y.plan h (t.highest.sent e)
        go (for_any {x = y} e le) =
            let (vote, named) = t.previous.sent e in
            let (z, f, other) = named in
            let (top, g, high) = t.highest.top y.view y.plan (t.previous.low e) vote in
            let y_p = before y.view (omega arith) (t.previous.low e) j y.plan h vote in
            let top_p = before top.view (omega arith) (t.highest.low g) j top.plan h (t.highest.sent g) in
            let same : y.plan ≡ z.plan = cc in
            absurd (other same)

    -- A plan that a blocking set claims above v is p, as one of the set keeps the rules.
    claimed_is_p : {a x : ℕ} → v < a → Claimed vs c.proofs x a → x ≡ p
    claimed_is_p {a} {x} above b =
        let (j, low, h, m) = blocking_keeper most (group_map (λ i low m h. m) b) in
        let (r, e, says) = holds_where (c.proofs j) (claims x a) m in
        claim_is_p r above h (c.from j r h e) says

    -- So what Rule 3 asks of the claims above v is had by p only: two plans cannot both be p.
    backed_is_p : {a : ℕ} → v < a → Backed rule3 vs c.proofs u q a → q ≡ p
    backed_is_p above (inl b) = claimed_is_p above b
    backed_is_p above (inr t) =
        let first = claimed_is_p (omega (arith, t.from)) t.first in
        let second = claimed_is_p (omega (arith, t.from, t.later)) t.second in
        absurd (t.another (second ∙ sym first))

    -- So u's plan is p too (Lemma 8's step).
    next_is_p : Safe rule3 vs c.proofs u q → q ≡ p
    next_is_p (at_start e) = absurd (omega arith)
    next_is_p (no_lock quorum) =
        let (j, low, h, m, lock) = quorums_meet most (group_map (λ i low m h. m) quorum) locks in
        let (r, kept, free) = holds_where (c.proofs j) unlocked m in
        let (x, e, le) = (c.from j r h kept).lock.top v p later lock in
        absurd (none≢some (sym (unlocked_none r free) ∙ e))
    next_is_p (since w below quorum support) =
        let (j, low, h, m, lock) = quorums_meet most (group_map (λ i low m h. m) quorum) locks in
        let (r, kept, fits) = holds_where (c.proofs j) (allows q w) m in
        let t = (c.from j r h kept).lock in
        let (x, e, le) = t.top v p later lock in
        let (under, same) = allowed_lock r fits e in
        let go : Dec (v < w) → q ≡ p = elim [
          | yes lt ↦ backed_is_p lt support
          | no ge ↦
              let xq = same (omega arith) in
              let here : x.view ≡ v = omega arith in
              sym xq ∙ one_in_view 2 2 (law.chain 2 h (rw here at (t.sent e))) (law.chain 2 h lock)
        ] in
        go (dec_lt v w)

  -- After a quorum of vote-4 every vote-1 is for its plan (Lemma 8). The induction is on a bound of the view.
  later_votes_agree : {v p : ℕ} → Locked vs keeps voted v p → (bound u : ℕ) → u < bound → v < u → (j q : ℕ) → keeps j ≡ true → voted j 1 u q → q ≡ p
  later_votes_agree locks zero u low later j q h x = absurd (omega arith)
  later_votes_agree locks (suc bound) u low later j q h x =
      let c = law.vouched h x in
      next_is_p locks later (λ w a b. later_votes_agree locks bound w (omega arith) a) c c.safe

  -- A quorum of vote-4 in a later view is for the same plan, as a vote-1 stands behind it.
  ordered : {v w p q : ℕ} → Locked vs keeps voted v p → Locked vs keeps voted w q → v < w → p ≡ q
  ordered {w} {q} a b later =
      let (j, low, h, x) = blocking_keeper most (quorum_blocks most (rooted 3 b)) in
      sym (later_votes_agree a (suc w) w (omega arith) later j q h x)

  -- Any two plans with a quorum of vote-4, in whatever views, are the same.
  pub locks_agree : {v w p q : ℕ} → Locked vs keeps voted v p → Locked vs keeps voted w q → p ≡ q
  locks_agree {v} {w} {p} {q} a b = go (dec_lt v w) (dec_lt w v)
    where
      go : Dec (v < w) → Dec (w < v) → p ≡ q
      go (yes lt) other = ordered a b lt
      go (no ge) (yes lt) = sym (ordered b a lt)
      go (no ge) (no le) =
          let same : v ≡ w = omega arith in
          one_in_view 3 3 a (rw (← same) at b)
