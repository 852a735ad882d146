-- What is left of a record after a restart (document 02, wish 6, 'a record with that row and no others'): the own row is as it was, and of others there
-- is nothing.
-- Assumes nothing.
use Prim.Native.Nat.{ℕ, suc}
use mathlib.Core.Path.{◌≡◌, refl, ◌∙◌, ap, fun_ext}
use mathlib.Core.Logic.{◌≢◌}
use mathlib.Core.Bool.{Bool, true, false}
use mathlib.Core.Option.{Option, none, some}
use lib.Dec.{eqb}
use borrow.Author.Tests.{eq-eqb, ne_eqb}
use Rattle.rules.specs.Rules.{Vote}
use Rattle.frame.specs.declared.Frame.{Frame}
use Rattle.frame.specs.Refusal.{bad_previous}
use Rattle.protocol.specs.Record.{Record, changed, when, each, spelt, vote_by, vote_of}
use Rattle.protocol.specs.Alone.{alone}
use Rattle.protocol.specs.Sound.{Sound}
use Rattle.protocol.specs.inside.Sound.{Ranged}
use Rattle.protocol.proofs.Tables.{when_some}

-- The own row is as before.
pub alone_own : (r : Record) (k : ℕ) → (alone r).kept k r.set.id ≡ r.kept k r.set.id
unfolding alone
alone_own r k = rw (eq-eqb r.set.id r.set.id refl)

-- Of another sender nothing is left.
pub alone_other : (r : Record) (k j : ℕ) → j ≢ r.set.id → (alone r).kept k j ≡ none
unfolding alone
alone_other r k j differs = rw (ne_eqb j r.set.id differs)

-- What is left was there before.
pub alone_was : (r : Record) (k j : ℕ) {x : Frame} → (alone r).kept k j ≡ some x → r.kept k j ≡ some x
unfolding alone
alone_was r k j e = (when_some (eqb j r.set.id) (r.kept k j) e).1

-- A second restart loses nothing more.
pub alone_twice : (r : Record) → alone (alone r) ≡ alone r
unfolding alone
alone_twice r =
    ap (λ (t : ℕ → ℕ → Option Frame). changed r r.view t r.previous r.decision) (fun_ext (λ k. fun_ext (λ j. go k j (eqb j r.set.id))))
  where
    go : (k j : ℕ) (b : Bool) → when b (when b (r.kept k j)) ≡ when b (r.kept k j)
    go k j true = refl
    go k j false = refl

-- The own votes are as before.
pub alone_vote : (r : Record) (k : ℕ) → vote_of (alone r) k r.set.id ≡ vote_of r k r.set.id
alone_vote r k = ap (λ (o : Option Frame). each o (λ y. vote_by y.view y.body)) (alone_own r (suc k))

-- A record with its own row alone is sound, and its numbers have their widths, where that is so with all rows.
pub alone_proper : (r : Record) → Sound r × Ranged r → Sound (alone r) × Ranged (alone r)
unfolding alone
alone_proper r (sound, ranged) = (
  record {
    settings = sound.settings;
    kept = λ k j x e. sound.kept k j x (alone_was r k j e);
    own = λ k x e other. sound.own k x (alone_was r k r.set.id e) other;
    previous = λ k has. ap (λ (o : Option Vote). bad_previous (spelt o) (spelt (r.previous k))) (alone_vote r k) ∙ sound.previous k has;
  },
  record { start = ranged.start; view = ranged.view; previous = ranged.previous; decision = ranged.decision },
)
