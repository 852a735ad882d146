-- M1 to M11 hold of the rules (document 01, 'Marked edges'; 'The weight of each public call', 4), and the run where only the two_set
-- clause serves. Each case has a test by the rules as counts (`safe_iff`, `backed_iff`, `count_quorum`), which computes once the comparisons
-- of the four plans are decided; `marked` does that for the whole list at once.
-- Assumes nothing.
use Prim.Native.Nat.{ℕ, ◌-◌}
use mathlib.Core.Path.{◌≡◌, refl, sym, ◌∙◌, ap}
use mathlib.Core.Bool.{Bool, true, false, not, cond, ◌&&◌, ◌||◌}
use mathlib.Core.Option.{Option, none, some}
use mathlib.Core.List.{List, [], ◌∷◌}
use lib.Dec.{leb, ltb, eqb, leb-zero}
use borrow.Author.Tests.{ltb-true, not-true, eqb-true, eq-eqb, ne_eqb}
use Rattle.rules.specs.inside.Bools.{any_below}
use Rattle.rules.specs.Sets.{Vaults, size, total, weigh}
use Rattle.rules.specs.Quorums.{is_quorum, is_blocking}
use Rattle.rules.proofs.Bools.{clash, both_split}
use Rattle.rules.proofs.Quorums.{count_quorum}
use Rattle.rules.specs.Rules.{reach, claims, unlocked, allows, reporting, no_lock}
use Rattle.rules.specs.inside.Counts.{claimed, free, allowed, two_sets, backed, safe}
use Rattle.rules.proofs.Laws.{backed_iff, safe_iff}
use Rattle.frame.specs.Refusal.{first}
use Rattle.settings.specs.Settings.{setting_rows}
use Rattle.rules.proofs.Reports.{none≢some}
use Rattle.protocol.specs.Record.{vaults}
use Rattle.protocol.specs.Edges.{four, Case, starting, safely, unsafely, serving, wholly, enough, short, CaseHolds, All, edges, MarkedEdges}

-- The case's test.
right : Case → Bool
right (starting n f k) = eqb (first (setting_rows (record { n = n; f = f; id = 0; class = 0 }))) k
right (safely rule rs v p) = safe rule four rs v p
right (unsafely rule rs v p) = not (safe rule four rs v p)
right (serving rule rs v p u) = ltb u v && (allowed four rs p u && backed rule four rs v p u)
right (wholly rule rs v) = free four rs
right (enough m) = leb 3 m
right (short m) = not (leb 3 m)

-- Of four vaults with f = 1, a set is a quorum exactly if it has three members.
three : (vs : Vaults) (s : ℕ → Bool) (m : ℕ) → vs ≡ four → size vs s ≡ m → is_quorum vs s ≡ leb 3 m
unfolding is_quorum weigh
three vs s m is count =
    let e : total vs - vs.f ≡ 3 = ap (λ (x : Vaults). total x - x.f) is in
    rw (e, count)

-- A case whose test passes case_holds of the rules.
case_holds : (x : Case) → right x ≡ true → CaseHolds x
unfolding right allowed free
case_holds (starting n f k) h = eqb-true _ k h
case_holds (safely rule rs v p) h = (safe_iff four rs rule v p).1 h
case_holds (unsafely rule rs v p) h = λ s. clash ((safe_iff four rs rule v p).0 s) (not-true _ h)
case_holds (serving rule rs v p u) h =
    let (low, both) = both_split (ltb u v) _ h in
    let (allow, back) = both_split (allowed four rs p u) _ both in
    (ltb-true u v low, (count_quorum four (reporting rs (allows p u))).1 allow, (backed_iff four rs rule v p u).1 back)
case_holds (wholly rule rs v) h = λ p. no_lock ((count_quorum four (reporting rs unlocked)).1 h)
case_holds (enough m) h = λ r k p is count. three (vaults r) _ m is count ∙ h
case_holds (short m) h = λ r k p is count. three (vaults r) _ m is count ∙ not-true _ h

-- The first wrong case of a list, none where all are right.
wrong : List Case → Option Case
wrong [] = none
wrong (x ∷ xs) = cond (right x) (wrong xs) (some x)

-- So all cases of a list hold where none of them is wrong.
all : (l : List Case) → wrong l ≡ none → All l
unfolding wrong
all [] h = tt
all (x ∷ xs) h = go (right x) refl (all xs) h
  where
    go : (b : Bool) → right x ≡ b → (wrong xs ≡ none → All xs) → cond b (wrong xs) (some x) ≡ none → CaseHolds x × All xs
    go true e rest h = (case_holds x e, rest h)
    go false e rest h = absurd (none≢some (sym h))

-- A plan is itself.
same : (p : ℕ) → eqb p p ≡ true
same p = eq-eqb p p refl

-- What is found later, whatever a test on a plan below two says.
or_true : (x : Bool) → (x || true) ≡ true
or_true true = refl
or_true false = refl

-- The marked edges hold.
pub marked : MarkedEdges
unfolding wrong right safe backed two_sets claimed allowed free is_blocking is_quorum any_below weigh claims reach unlocked allows
marked r a b c d x =
    let ab = ne_eqb a b x.ab in
    let ba = ne_eqb b a (λ e. x.ab (sym e)) in
    let ac = ne_eqb a c x.ac in
    let ca = ne_eqb c a (λ e. x.ac (sym e)) in
    let ad = ne_eqb a d x.ad in
    let bc = ne_eqb b c x.bc in
    let bd = ne_eqb b d x.bd in
    let cd = ne_eqb c d x.cd in
    all (edges r a b c d) (simp (same, ab, ba, ac, ca, ad, bc, bd, cd, leb-zero, or_true) (refl {a = none}))
