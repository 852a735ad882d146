-- What a vault's own row and previous votes are of its votes: the highest, and the highest for another plan than that.
-- A vote for p moves the highest into previous only if that was for another plan ('a new vote for the same plan leaves previous
-- alone', `shift_tops`); a report taken of them is exact (`exact_report`).
-- Assumes nothing.
use Prim.Native.Nat.{ℕ, ◌≤◌, ◌<◌}
use mathlib.Core.Path.{◌≡◌, refl, sym, ◌∙◌}
use mathlib.Core.Logic.{◌≢◌, ◌⊎◌, ⊎_elim}
use mathlib.Core.Bool.{Bool, true, false, cond}
use mathlib.Core.Option.{Option, none, some}
use native.Mathlib.Omega.{arith}
use lib.Dec.{eqb}
use borrow.Author.Tests.{eqb-true, eqb-false}
use Rattle.rules.specs.Rules.{Vote, Report, Rule, rule1, rule3, claim_vote, lock_vote}
use Rattle.rules.specs.inside.Law.{HighestVote, Other, Exact}
use Rattle.rules.proofs.Reports.{none≢some}
use Rattle.protocol.specs.Pass.{shift, has_previous}

-- Of the votes that are P, o is the highest, if there is any.
pub record Tops (P : ℕ → ℕ → Type 0) (o : Option Vote) : Type 0 where
  pub sent : {x : Vote} → o ≡ some x → P x.view x.plan
  pub top : (u p : ℕ) → P u p → (x : Vote) × (o ≡ some x) × (u ≤ x.view)

-- The highest of the same votes, said in other words.
pub tops_on : {P Q : ℕ → ℕ → Type 0} {o : Option Vote} → ((u p : ℕ) → P u p → Q u p) → ((u p : ℕ) → Q u p → P u p) → Tops P o → Tops Q o
tops_on to back t = record { sent = λ {x} e. to x.view x.plan (t.sent e); top = λ u p at. t.top u p (back u p at) }

-- Of no votes there is no highest.
pub tops_none : {P : ℕ → ℕ → Type 0} → ((u p : ℕ) → ¬ P u p) → Tops P none
tops_none never = record { sent = λ e. absurd (none≢some e); top = λ u p at. absurd (never u p at) }

-- The highest of all is the highest below w, where all are below w.
tops_highest : {P : ℕ → ℕ → Type 0} {o : Option Vote} (w : ℕ) → ((u p : ℕ) → P u p → u < w) → Tops P o → HighestVote P w o
tops_highest w below t = record { low = λ {x} e. below x.view x.plan (t.sent e); sent = λ {x} e. t.sent e; top = λ u p under at. t.top u p at }

-- One more vote, for p in view v, that is no lower than the others.
module _ {P Q : ℕ → ℕ → Type 0} (v p : ℕ) (to : (u s : ℕ) → P u s → Q u s) (back : (u s : ℕ) → Q u s → P u s ⊎ ((u ≡ v) × (s ≡ p))) where
  -- The new vote.
  abbrev this : Vote
  this = record { view = v; plan = p }

  -- The new vote is the highest.
  pub new_tops : Q v p → ((u s : ℕ) → Q u s → u ≤ v) → Tops Q (some this)
  new_tops new below = record {
    sent = λ {x} e. let is : this ≡ x = cc in rw (← is) new;
    top = λ u s at. (this, refl, below u s at);
  }

  -- A vote for another plan is an old one.
  elder : (u s : ℕ) → Other Q (some this) u s → P u s × (s ≢ p)
  elder u s (at, (x, e, ne)) =
      let differs : s ≢ p = λ same. ne (cc) in
      (⊎_elim (λ was. was) (λ here. absurd (differs here.1)) (back u s at), differs)

  -- The shifted previous vote is the highest for another plan than the new vote's.
  pub shift_tops : {o q : Option Vote} → Tops P o → Tops (Other P o) q → Tops (Other Q (some this)) (shift p o q)
  shift_tops {o} {q} high prev = go o refl
    where
      go : (z : Option Vote) → o ≡ z → Tops (Other Q (some this)) (shift p z q)
      go none e = record {
        sent = λ {x} f. let (y, is, ne) = (prev.sent f).1 in absurd (none≢some {A = Vote} {x = y} (sym e ∙ is));
        top = λ u s at. let (x, is, le) = high.top u s (elder u s at).0 in absurd (none≢some {A = Vote} {x = x} (sym e ∙ is));
      }
      go (some x) e = by (eqb x.plan p) refl
        where
          by : (b : Bool) → eqb x.plan p ≡ b → Tops (Other Q (some this)) (cond b q (some x))
          by true same = record {
            sent = λ {x = y} f.
                let (at, named) = prev.sent f in
                let (z, is, ne) = named in
                let xp : x.plan ≡ p = eqb-true x.plan p same in
                (to y.view y.plan at, (this, refl, λ yp. ne (cc)));
            top = λ u s at.
                let (was, ne) = elder u s at in
                let xp : x.plan ≡ p = eqb-true x.plan p same in
                prev.top u s (was, (x, e, λ sx. ne (sx ∙ xp)));
          }
          by false other = record {
            sent = λ {x = y} f.
                let is : x ≡ y = cc in
                rw (← is) (to x.view x.plan (high.sent e), (this, refl, eqb-false x.plan p other));
            top = λ u s at.
                let (z, is, le) = high.top u s (elder u s at).0 in
                let same : z ≡ x = cc in
                (x, refl, rw same at le);
          }

-- What a report tells as highest is a vote that has a previous one.
pub claim_below : (rule : Rule) → (claim_vote rule < 5) × (has_previous (claim_vote rule) ≡ true)
claim_below rule1 = (omega arith, refl)
claim_below rule3 = (omega arith, refl)

-- A lock is one of the four votes.
pub lock_below : (rule : Rule) → lock_vote rule < 5
lock_below rule1 = omega arith
lock_below rule3 = omega arith

-- A report of the highest, the previous and the lock is exact for a view above all votes.
pub exact_report : {voted : ℕ → ℕ → ℕ → Type 0} (rule : Rule) (w : ℕ) (r : Report) → ((k u p : ℕ) → voted k u p → u < w)
    → Tops (voted (claim_vote rule)) r.highest
    → Tops (Other (voted (claim_vote rule)) r.highest) r.previous → Tops (voted (lock_vote rule)) r.lock → Exact voted rule w r
exact_report rule w r below high prev lock = record {
  highest = tops_highest w (below (claim_vote rule)) high;
  previous = tops_highest w (λ u p (at, o). below (claim_vote rule) u p at) prev;
  lock = tops_highest w (below (lock_vote rule)) lock;
}
