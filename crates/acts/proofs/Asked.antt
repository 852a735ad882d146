-- Steps A and B by slots (document 01, 'One pass'; document 02, wish 3): the highest view that f + 1 or n - f view-changes ask for is the
-- highest that the search over the gathered views finds, since the sets of those who ask are the same below n. As 'above' only leaves out
-- the low end, it may be asked of each view, as the search does, or of the highest one, as A does.
-- Assumes nothing.
use Prim.Native.Nat.{ℕ, ◌+◌, ◌-◌, ◌≤◌, ◌<◌, max}
use mathlib.Core.Path.{◌≡◌, refl, sym, ◌∙◌, ap, fun_ext}
use mathlib.Core.Bool.{Bool, true, false, not, ◌&&◌}
use mathlib.Core.List.{List}
use mathlib.Core.Option.{Option, none, some}
use native.Mathlib.Omega.{arith}
use native.Mathlib.Decide.{dec_lt}
use lib.Dec.{leb, ltb}
use borrow.Author.Tests.{lt-ltb, le-ltb, le-leb, lt-leb}
use Rattle.rules.specs.Sets.{weigh}
use Rattle.rules.specs.Quorums.{is_quorum, is_blocking}
use Rattle.rules.proofs.Bools.{both_split}
use Rattle.rules.proofs.Quorums.{weigh_same, total_equals}
use Rattle.rules.specs.Options.{holds}
use Rattle.record.specs.Slots as slots
use Rattle.protocol.specs.Record.{when, each, change_of, highest}
use Rattle.protocol.specs.Pass.{Act, ask, enter, asked, is_news, can_enter, act_a, act_b}
use Rattle.protocol.proofs.Tables.{highest_has, highest_most}
use Rattle.protocol.proofs.Asked.{KeptFrom, blocking_kept, enter_kept}
use Rattle.contents.specs.Contents.{contents}
use Rattle.tally.specs.inside.Parts.{shared_part}
use Rattle.tally.specs.inside.Changes.{change_in, news_from, askers, enough, Highest}
use Rattle.tally.proofs.Changes.{highest_both}
use Rattle.acts.specs.inside.Lent.{Reads}
use Rattle.acts.proofs.Kept.{change_at}

-- ---- the highest

module _ (test : ℕ → Bool) (f : ℕ → Option ℕ) (n low best : ℕ) (h : Highest test low best)
    (found : (w : ℕ) → test w ≡ true → KeptFrom test f n w) where
  -- Where best is above low it is the highest, and otherwise the highest is not above low.
  top_acts : (act : ℕ → Act) → each (highest test f n) (λ w. when (ltb low w) (some (act w))) ≡ when (ltb low best) (some (act best))
  top_acts act = go (highest test f n) refl (dec_lt low best)
    where
      least : low < best → (w : ℕ) × (highest test f n ≡ some w) × (best ≤ w)
      least over =
          let k = found best (h.passes over) in
          let (w, is, le) = highest_most test f n k.who k.view k.below k.kept k.passes in
          (w, is, omega (arith, k.up))

      go : (o : Option ℕ) → highest test f n ≡ o → Dec (low < best) → each o (λ w. when (ltb low w) (some (act w))) ≡ when (ltb low best) (some (act best))
      go none e (no under) = rw (le-ltb low best (omega arith))
      go none e (yes over) = let (w, is, le) = least over in let z : ◌≡◌ {A = ℕ} 0 1 = cc in absurd (omega arith)
      go (some w) e (yes over) =
          let (x, is, le) = least over in
          let same : x ≡ w = cc in
          let most : w ≤ best = h.most w (omega arith) (highest_has test f n e).0 in
          let both : w ≡ best = omega arith in
          rw (both, lt-ltb low best over)
      go (some w) e (no under) = by (dec_lt low w)
        where
          by : Dec (low < w) → when (ltb low w) (some (act w)) ≡ when (ltb low best) (some (act best))
          by (yes above) = absurd (omega (arith, h.most w above (highest_has test f n e).0))
          by (no above) = rw (le-ltb low w (omega arith), le-ltb low best (omega arith))

-- 'above the current view and above the vault's own view-change, where it has sent one'.
news_is : (view w : ℕ) (own : Option ℕ) → (ltb view w && not (holds (leb w) own)) ≡ ltb (news_from view own) w
news_is view w none = go (ltb view w)
  where
    go : (b : Bool) → (b && true) ≡ b
    go true = refl
    go false = refl
news_is view w (some u) = go (dec_lt view w) (dec_lt u w)
  where
    go : Dec (view < w) → Dec (u < w) → (ltb view w && not (leb w u)) ≡ ltb (max view u) w
    go (yes a) (yes b) = rw (lt-ltb view w a, lt-leb w u b, lt-ltb (max view u) w (omega arith))
    go (yes a) (no b) = rw (lt-ltb view w a, le-leb w u (omega arith), le-ltb (max view u) w (omega arith))
    go (no a) b = rw (le-ltb view w (omega arith), le-ltb (max view u) w (omega arith))

-- ---- the record

module _ (s : List ℕ) (r : slots.Record) (reads : Reads s r) where
  -- How many vaults there are, by the record's settings.
  abbrev n : ℕ
  n = r.set.n

  -- The views for which the kept view-changes are, by sender.
  abbrev changes : ℕ → Option ℕ
  changes = change_in (shared_part s)

  -- As many ask for w by the slots as by the contents.
  askers_same : (w : ℕ) → weigh (λ i. 1) (λ j. holds (leb w) (change_of (contents r) j)) n ≡ weigh (λ i. 1) (askers changes w) n
  askers_same w =
      weigh_same (λ i. 1) (λ j. holds (leb w) (change_of (contents r) j)) (askers changes w) n
      (λ j low. ap (λ (o : Option ℕ). holds (leb w) o) (change_at s r reads j (omega (arith, reads.allows.most))))

  -- So f + 1 do by the slots just where a blocking set does by the contents.
  blocking_same : (w : ℕ) → enough changes n (r.set.f + 1) w ≡ asked (contents r) is_blocking w
  unfolding contents is_blocking enough
  blocking_same w = sym (ap (leb (r.set.f + 1)) (askers_same w))

  -- And n - f do just where a quorum does.
  quorum_same : (w : ℕ) → enough changes n (n - r.set.f) w ≡ asked (contents r) is_quorum w
  unfolding contents is_quorum enough
  quorum_same w = sym (λ i. leb (total_equals n r.set.f i - r.set.f) (askers_same w i))

  -- B. 'Take the highest w above the current view with n - f kept view-changes for w. Enter it.'
  module _ (w : ℕ) (top : Highest (enough changes n (n - r.set.f)) r.view w) where
    -- w is the highest view that can be entered, by contents.
    can_same : Highest (can_enter (contents r)) r.view w
    unfolding contents
    can_same =
        highest_both (enough changes n (n - r.set.f)) (can_enter (contents r)) r.view w
        (λ v above. quorum_same v ∙ sym (ap (λ (b : Bool). b && asked (contents r) is_quorum v) (lt-ltb r.view v above))) top

    -- Step B enters w where that is above the current view, and otherwise does nothing.
    enter_is : when (ltb r.view w) (some (enter w)) ≡ act_b (contents r)
    unfolding contents
    enter_is =
        sym (top_acts (can_enter (contents r)) (change_of (contents r)) n r.view w can_same (enter_kept (contents r) reads.allows.third) enter)
        ∙ go (highest (can_enter (contents r)) (change_of (contents r)) n) refl
      where
        go : (o : Option ℕ) → highest (can_enter (contents r)) (change_of (contents r)) n ≡ o
            → each o (λ v. when (ltb r.view v) (some (enter v))) ≡ each o (λ v. some (enter v))
        go none e = refl
        go (some v) e =
            let can = (highest_has (can_enter (contents r)) (change_of (contents r)) n e).0 in
            rw (both_split (ltb r.view v) (asked (contents r) is_quorum v) can).0

    -- w is above the current view: B enters it.
    pub enters : r.view < w → some (enter w) ≡ act_b (contents r)
    enters above = ap (λ (b : Bool). when b (some (enter w))) (sym (lt-ltb r.view w above)) ∙ enter_is

    -- It is not: B does nothing.
    pub stays : w ≤ r.view → none ≡ act_b (contents r)
    stays under = ap (λ (b : Bool). when b (some (enter w))) (sym (le-ltb r.view w under)) ∙ enter_is

  -- A. 'Take the highest view w for which f + 1 kept view-changes are for w. If w is above .., broadcast view-change w.'
  module _ (low w : ℕ) (from : low ≡ news_from r.view (changes r.set.id)) (top : Highest (enough changes n (r.set.f + 1)) low w) where
    -- 'above the current view and above the vault's own view-change' is: above low.
    news_same : (v : ℕ) → is_news (contents r) v ≡ ltb low v
    unfolding contents
    news_same v =
        ap (λ (o : Option ℕ). ltb r.view v && not (holds (leb v) o))
        (change_at s r reads r.set.id (omega (arith, reads.allows.most, reads.allows.own)))
        ∙ news_is r.view v (changes r.set.id) ∙ ap (λ (l : ℕ). ltb l v) (sym from)

    -- w is the highest view above low that a blocking set asks for, by contents.
    ask_same : Highest (asked (contents r) is_blocking) low w
    ask_same = highest_both (enough changes n (r.set.f + 1)) (asked (contents r) is_blocking) low w (λ v above. blocking_same v) top

    -- Step A broadcasts view-change w where that is above low, and otherwise does nothing.
    ask_is : when (ltb low w) (some (ask w)) ≡ act_a (contents r)
    unfolding contents
    ask_is =
        sym (top_acts (asked (contents r) is_blocking) (change_of (contents r)) n low w ask_same (blocking_kept (contents r)) ask)
        ∙ ap (λ (news : ℕ → Bool). each (highest (asked (contents r) is_blocking) (change_of (contents r)) n) (λ v. when (news v) (some (ask v))))
        (sym (fun_ext news_same))

    -- w is above low: A broadcasts view-change w.
    pub asks_for : low < w → some (ask w) ≡ act_a (contents r)
    asks_for above = ap (λ (b : Bool). when b (some (ask w))) (sym (lt-ltb low w above)) ∙ ask_is

    -- It is not: A does nothing.
    pub silent : w ≤ low → none ≡ act_a (contents r)
    silent under = ap (λ (b : Bool). when b (some (ask w))) (sym (le-ltb low w under)) ∙ ask_is
