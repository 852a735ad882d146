-- Who asks for a view asks for every lower one too (document 02, wish 3), so the highest of the kept views that enough ask for is the
-- highest of all views that enough ask for: where enough ask for x, they are the same as ask for the least of the kept views from x on.
-- Assumes nothing.
use Prim.Native.Nat.{ℕ, ◌+◌, ◌*◌, ◌≤◌, ◌<◌}
use mathlib.Core.Path.{◌≡◌, refl}
use mathlib.Core.Bool.{Bool, true, false≢true}
use mathlib.Core.Option.{Option, none, some}
use native.Mathlib.Omega.{arith}
use lib.Dec.{leb, ltb}
use borrow.Author.Tests.{leb-true, le-leb, lt-ltb, ltb-true}
use Rattle.rules.specs.Sets.{Vaults, Set, size}
use Rattle.rules.specs.Quorums.{is_quorum, is_blocking}
use Rattle.rules.proofs.Bools.{not_true, both_split, both_join}
use Rattle.rules.proofs.Reports.{none≢some}
use Rattle.rules.proofs.Quorums.{ByWeight, quorum_by_weight, blocking_by_weight, quorum_weighs, blocking_weighs, enough_mono, total_equals}
use Rattle.rules.proofs.Least.{up_from, least_from}
use Rattle.protocol.specs.Record.{Record, highest, change_of, vaults}
use Rattle.protocol.specs.Pass.{asked, can_enter}
use Rattle.protocol.specs.Asked.{AskedFalls, HighestOfAll, AskedHighest}
use Rattle.protocol.proofs.Tables.{highest_has, highest_most}

-- ---- who asks for a view asks for every lower one

-- A view that enough ask for has enough at every lower view.
pub asked_falls : AskedFalls
asked_falls r w x le = (lower is_blocking (blocking_by_weight (vaults r)), lower is_quorum (quorum_by_weight (vaults r)))
  where
    -- Vault j asks for v, as the definition has it.
    asks : ℕ → Set
    asks v j = asked r (λ vs s. s j) v

    within : (j : ℕ) (o : Option ℕ) → change_of r j ≡ o → asks x j ≡ true → asks w j ≡ true
    within j none is h = absurd (false≢true (rw is at h))
    within j (some y) is h = let later : leb x y ≡ true = rw is at h in rw is (le-leb w y (omega (arith, leb-true x y later)))

    lower : (enough : Vaults → Set → Bool) → ByWeight (vaults r) (enough (vaults r)) → asked r enough x ≡ true → asked r enough w ≡ true
    lower enough by = enough_mono (vaults r) (enough (vaults r)) by (asks x) (asks w) (λ j low. within j (change_of r j) refl)

-- ---- the highest of the kept views is the highest of all

-- A kept view from w on passes the test.
pub record KeptFrom (test : ℕ → Bool) (f : ℕ → Option ℕ) (n w : ℕ) : Type 0 where
  pub who : ℕ
  pub view : ℕ
  pub below : who < n
  pub kept : f who ≡ some view
  pub up : w ≤ view
  pub passes : test view ≡ true

-- Where each view that passes has a kept one from it on that passes, the highest of the kept is the highest of all.
of_all : (test : ℕ → Bool) (f : ℕ → Option ℕ) (n : ℕ) → ((w : ℕ) → test w ≡ true → KeptFrom test f n w) → HighestOfAll test (highest test f n)
of_all test f n found = go (highest test f n) refl
  where
    go : (o : Option ℕ) → highest test f n ≡ o → HighestOfAll test o
    go none e = λ x. not_true (test x) (λ h.
        let k = found x h in
        let (w, is, le) = highest_most test f n k.who k.view k.below k.kept k.passes in
        let no : none ≡ some w = cc in
        none≢some no)
    go (some w) e = (
      (highest_has test f n e).0,
      λ x h.
          let k = found x h in
          let (v, is, le) = highest_most test f n k.who k.view k.below k.kept k.passes in
          let same : v ≡ w = cc in
          omega (arith, k.up),
    )

module _ (r : Record) where
  -- Those who ask for w are the same as ask for the least of their views, where they are anybody.
  kept_from : (enough : Vaults → Set → Bool) → ByWeight (vaults r) (enough (vaults r)) → (w : ℕ) → 0 < size (vaults r) (up_from (change_of r) w)
      → asked r enough w ≡ true → KeptFrom (asked r enough) (change_of r) r.set.n w
  kept_from enough by w somebody h =
      let l = least_from (change_of r) r.set.n (vaults r).weight w somebody in
      record {
        who = l.who;
        view = l.least;
        below = l.below;
        kept = l.has;
        up = l.up;
        passes = enough_mono (vaults r) (enough (vaults r)) by (up_from (change_of r) w) (up_from (change_of r) l.least) l.all h;
      }

  -- A blocking set is somebody: a view that one asks for has a kept view from it on that one asks for.
  pub blocking_kept : (w : ℕ) → asked r is_blocking w ≡ true → KeptFrom (asked r is_blocking) (change_of r) r.set.n w
  blocking_kept w h = kept_from is_blocking (blocking_by_weight (vaults r)) w (omega (arith, (blocking_weighs (vaults r) (up_from (change_of r) w)).0 h)) h

  -- So is a quorum: a view that can be entered has a kept view from it on that can be entered.
  pub enter_kept : 3 * r.set.f < r.set.n → (w : ℕ) → can_enter r w ≡ true → KeptFrom (can_enter r) (change_of r) r.set.n w
  enter_kept third w can =
      let (above, h) = both_split (ltb r.view w) (asked r is_quorum w) can in
      let whole : r.set.n ≤ size (vaults r) (up_from (change_of r) w) + r.set.f
      = omega (arith, total_equals r.set.n r.set.f, (quorum_weighs (vaults r) (up_from (change_of r) w)).0 h) in
      let k = kept_from is_quorum (quorum_by_weight (vaults r)) w (omega arith) h in
      let later : ltb r.view k.view ≡ true = lt-ltb r.view k.view (omega (arith, k.up, ltb-true r.view w above)) in
      record {
        who = k.who;
        view = k.view;
        below = k.below;
        kept = k.kept;
        up = k.up;
        passes = both_join (ltb r.view k.view) (asked r is_quorum k.view) later k.passes;
      }

-- So steps A and B act on the highest of all views.
pub asked_highest : AskedHighest
asked_highest r = (
  of_all (asked r is_blocking) (change_of r) r.set.n (blocking_kept r),
  λ third. of_all (can_enter r) (change_of r) r.set.n (enter_kept r third),
)
