-- The highest view with enough view-changes (document 01, 'One pass', A and B: 'Take the highest ..'; document 02, wish 3). The views
-- above low are gathered first: those who ask for a view above low are all among them. Then each view gathered is tried. No other need
-- be: those who ask for a view ask for the least of theirs too (`least_from`), and that one is tried.
-- Assumes nothing.
use Prim.Native.Nat.{ℕ, zero, suc, ◌+◌, ◌-◌, ◌≤◌, ◌<◌, max}
use mathlib.Core.Path.{◌≡◌, refl, sym, ◌∙◌, ap}
use mathlib.Core.Logic.{◌≢◌}
use mathlib.Core.Bool.{Bool, true, false, cond, ◌&&◌}
use mathlib.Core.List.{List}
use mathlib.Core.Option.{Option, none, some, some-injective}
use native.Mathlib.Omega.{arith}
use native.Mathlib.Decide.{dec_lt}
use lib.Dec.{leb, ltb}
use lib.ListN.{length, get_or, take, set, length-take}
use lib.Seq.{get_or-set_same, get_or-set_other, get_or-take}
use borrow.Author.Tests.{eq-eqb, ne_eqb, lt-ltb, le-ltb, le-leb, lt-leb, leb-true}
use Rattle.rules.specs.Sets.{Set, weigh}
use Rattle.rules.proofs.Bools.{clash}
use Rattle.rules.proofs.Quorums.{weigh_none, weigh_more, weigh_step, weigh_mono, weigh_same, weigh_most, share_most}
use Rattle.rules.proofs.Least.{least_from}
use Rattle.rules.specs.Options.{holds}
use Rattle.frame.specs.declared.Report.{Report}
use Rattle.tally.specs.inside.Changes.{asks, news_from, askers, enough, asking, Gathered, raised_to, Highest}

-- ---- a slot

module _ (low : ℕ) (slot : Report) where
  -- Without a view-change in the slot the bound stays low.
  pub news_none : slot.mark ≢ 1 → low ≡ news_from low (asks slot)
  unfolding asks
  news_none off = rw (ne_eqb slot.mark 1 off)

  -- With one the bound is its view, where that is higher.
  pub news_some : slot.mark ≡ 1 → max low slot.view ≡ news_from low (asks slot)
  unfolding asks
  news_some here = rw (eq-eqb slot.mark 1 here)

-- ---- how many ask for a view

-- Among d more there are at most d more of a set.
weigh_slack : (set : Set) (k d : ℕ) → weigh (λ i. 1) set (k + d) ≤ weigh (λ i. 1) set k + d
weigh_slack set k zero = let same : k + 0 ≡ k = omega arith in rw same (omega arith)
weigh_slack set k (suc d) =
    let next : k + suc d ≡ k + d + 1 = omega arith in
    rw next (omega (arith, weigh_more (λ i. 1) set (k + d), share_most (set (k + d)) 1 (cond (set (k + d)) 1 0) refl, weigh_slack set k d))

-- One place more: w has one asker more where that view is w or later.
asking_more : (views : List ℕ) (k w : ℕ) → asking views (k + 1) w ≡ asking views k w + cond (leb w (get_or views k 0)) 1 0
asking_more views k w = weigh_more (λ i. 1) (λ j. leb w (get_or views j 0)) k

-- The loop that counts.
pub asking_step : (views : List ℕ) (j w count more : ℕ) → count ≡ asking views j w → more ≡ cond (leb w (get_or views j 0)) 1 0
    → count + more ≡ asking views (j + 1) w
asking_step views j w count more was adds = weigh_step (λ i. 1) (λ i. leb w (get_or views i 0)) j count more was adds

-- What is put behind the first k does not count among them.
asking_put : (views : List ℕ) (k x w : ℕ) → asking (set views k x) k w ≡ asking views k w
asking_put views k x w =
    weigh_same (λ i. 1) (λ j. leb w (get_or (set views k x) j 0)) (λ j. leb w (get_or views j 0)) k
    (λ j low. ap (leb w) (get_or-set_other views k j x 0 (λ (e : j ≡ k). omega arith)))

-- ---- the views above low

-- Of the first j senders: as many of the views gathered as of them ask for a view above low.
pub record Passed (change : ℕ → Option ℕ) (j low : ℕ) (views : List ℕ) (count : ℕ) : Type 0 where
  pub most : count ≤ j
  pub same : (w : ℕ) → low < w → asking views count w ≡ weigh (λ i. 1) (askers change w) j

module _ (change : ℕ → Option ℕ) (low : ℕ) where
  -- Before the first sender nothing is gathered.
  pub pass_none : (views : List ℕ) → Passed change 0 low views 0
  pass_none views = record {
    most = omega arith;
    same = λ w above. weigh_none (λ i. 1) (λ j. leb w (get_or views j 0)) ∙ sym (weigh_none (λ i. 1) (askers change w));
  }

  module _ (views : List ℕ) (count j : ℕ) (was : Passed change j low views count) where
    module _ (x more : ℕ) (room : count < length views) where
      -- What is put behind those gathered does not count among them.
      old : (w : ℕ) → low < w → asking (set views count x) count w ≡ weigh (λ i. 1) (askers change w) j
      old w above = asking_put views count x w ∙ was.same w above

      -- The next sender's view is gathered where it is above low, and asks for a view above low just where the sender does.
      asked : (w : ℕ) → low < w → (o : Option ℕ) → x ≡ news_from low o → more ≡ cond (ltb low x) 1 0
          → asking (set views count x) (count + more) w ≡ weigh (λ i. 1) (askers change w) j + cond (holds (leb w) o) 1 0
      asked w above none is adds =
          let nothing : more ≡ 0 = adds ∙ rw (le-ltb low x (omega arith)) in
          let same : count + more ≡ count = omega arith in
          rw same (omega (arith, old w above))
      asked w above (some y) is adds = go (dec_lt low y)
        where
          go : Dec (low < y) → asking (set views count x) (count + more) w ≡ weigh (λ i. 1) (askers change w) j + cond (leb w y) 1 0
          go (yes over) =
              let one : more ≡ 1 = adds ∙ rw (lt-ltb low x (omega arith)) in
              let put : get_or (set views count x) count 0 ≡ y = get_or-set_same views count x 0 room ∙ omega arith in
              let next = asking_more (set views count x) count w ∙ ap (λ (z : ℕ). asking (set views count x) count w + cond (leb w z) 1 0) put in
              rw one (omega (arith, old w above, next))
          go (no under) =
              let nothing : more ≡ 0 = adds ∙ rw (le-ltb low x (omega arith)) in
              let same : count + more ≡ count = omega arith in
              let off : leb w y ≡ false = lt-leb w y (omega arith) in
              rw (same, off) (omega (arith, old w above))

      -- One sender more, one turn of the loop.
      pub pass_more : x ≡ news_from low (change j) → more ≡ cond (ltb low x) 1 0 → more ≤ 1 → Passed change (j + 1) low (set views count x) (count + more)
      pass_more is adds little = record {
        most = omega (arith, was.most);
        same = λ w above. asked w above (change j) is adds ∙ sym (weigh_more (λ i. 1) (askers change w) j);
      }

    module _ (n need : ℕ) where
      -- After all n senders the views gathered tell of each view above low whether enough ask for it.
      pub gathered : j ≡ n → Gathered change n need low views count
      unfolding enough
      gathered e = record {
        most = omega (arith, was.most);
        same = λ w above. ap (leb need) (was.same w above ∙ ap (weigh (λ i. 1) (askers change w)) e);
      }

      -- Too few are left: not enough ask for any view.
      pub gathered_few : j < n → count + (n - j) < need → Gathered change n need low views count
      unfolding enough
      gathered_few less few = record { most = omega (arith, was.most); same = both }
        where
          both : (w : ℕ) → low < w → leb need (asking views count w) ≡ leb need (weigh (λ i. 1) (askers change w) n)
          both w above =
              let here : asking views count w ≤ count = weigh_most (λ i. leb w (get_or views i 0)) count in
              let whole : j + (n - j) ≡ n = omega arith in
              let there : weigh (λ i. 1) (askers change w) n ≤ weigh (λ i. 1) (askers change w) j + (n - j)
              = rw whole at (weigh_slack (askers change w) j (n - j)) in
              lt-leb need (asking views count w) (omega arith)
              ∙ sym (lt-leb need (weigh (λ i. 1) (askers change w) n) (omega (arith, was.same w above)))

-- ---- the search

-- At place i: enough ask for the highest so far, and it is no lower than any view before i that enough ask for.
pub record Searched (views : List ℕ) (need low i best : ℕ) : Type 0 where
  pub least : low ≤ best
  pub passes : low < best → leb need (asking views (length views) best) ≡ true
  pub tried : (j : ℕ) → j < i → leb need (asking views (length views) (get_or views j 0)) ≡ true → get_or views j 0 ≤ best

module _ (views : List ℕ) (need low : ℕ) where
  module _ (i best : ℕ) (was : Searched views need low i best) where
    -- One place more is tried.
    tried_more : (b : ℕ) → best ≤ b → (leb need (asking views (length views) (get_or views i 0)) ≡ true → get_or views i 0 ≤ b)
        → (j : ℕ) → j < i + 1 → leb need (asking views (length views) (get_or views j 0)) ≡ true → get_or views j 0 ≤ b
    tried_more b least this j before enough = go (dec_lt j i)
      where
        go : Dec (j < i) → get_or views j 0 ≤ b
        go (yes earlier) = omega (arith, was.tried j earlier enough)
        go (no last) = let here : j ≡ i = omega arith in rw here (this (rw here at enough))

    -- One place more, by what `raised` gives there.
    pub search_more : Searched views need low (i + 1) (raised_to views (get_or views i 0) need best)
    unfolding raised_to
    search_more = go (dec_lt best x) (dec_lt (asking views (length views) x) need)
      where
        x : ℕ
        x = get_or views i 0

        go : Dec (best < x) → Dec (asking views (length views) x < need)
            → Searched views need low (i + 1) (cond (ltb best x && leb need (asking views (length views) x)) x best)
        go (no under) d =
            rw (le-ltb best x (omega arith))
            (record { least = was.least; passes = was.passes; tried = tried_more best (omega arith) (λ enough. omega arith) })
        go (yes over) (no many) =
            let enough : leb need (asking views (length views) x) ≡ true = le-leb need (asking views (length views) x) (omega arith) in
            rw (lt-ltb best x over, enough)
            (record { least = omega (arith, was.least); passes = λ less. enough; tried = tried_more x (omega arith) (λ same. omega arith) })
        go (yes over) (yes few) =
            let short : leb need (asking views (length views) x) ≡ false = lt-leb need (asking views (length views) x) few in
            rw (lt-ltb best x over, short)
            (record { least = was.least; passes = was.passes; tried = tried_more best (omega arith) (λ enough. absurd (clash enough short)) })

    -- With all places tried, the highest so far is the highest of all views: where enough ask for w, they ask for the least of their views.
    pub search_done : 0 < need → i ≡ length views → Highest (λ w. leb need (asking views (length views) w)) low best
    search_done needed all = record { least = was.least; passes = was.passes; most = most }
      where
        most : (w : ℕ) → low < w → leb need (asking views (length views) w) ≡ true → w ≤ best
        most w above enough =
            let many : need ≤ asking views (length views) w = leb-true need (asking views (length views) w) enough in
            let l = least_from (λ j. some (get_or views j 0)) (length views) (λ i. 1) w (omega arith) in
            let x : ℕ = get_or views l.who 0 in
            let is : x ≡ l.least = some-injective x l.least l.has in
            let same : asking views (length views) w ≤ asking views (length views) l.least
            = weigh_mono (λ i. 1) (λ j. leb w (get_or views j 0)) (λ j. leb l.least (get_or views j 0)) (length views) l.all in
            let passes : leb need (asking views (length views) x) ≡ true = rw is (le-leb need (asking views (length views) l.least) (omega arith)) in
            omega (arith, l.up, was.tried l.who (omega (arith, l.below)) passes)

  -- Fewer views than are needed: not enough ask for any.
  pub search_few : length views < need → Highest (λ w. leb need (asking views (length views) w)) low low
  search_few few = record {
    least = omega arith;
    passes = λ less. absurd (omega arith);
    most = λ w above enough. absurd
        (omega (arith, leb-true need (asking views (length views) w) enough, weigh_most (λ j. leb w (get_or views j 0)) (length views)));
  }

-- ---- one place

module _ (views : List ℕ) (need best w : ℕ) where
  -- A view not above the highest so far changes nothing.
  pub raised_low : w ≤ best → best ≡ raised_to views w need best
  unfolding raised_to
  raised_low low = rw (le-ltb best w low)

  module _ (c : ℕ) (count : c ≡ asking views (length views) w) (above : best < w) where
    -- Nor does one that not enough ask for.
    pub raised_few : c < need → best ≡ raised_to views w need best
    unfolding raised_to
    raised_few few = rw (lt-ltb best w above, lt-leb need (asking views (length views) w) (omega arith))

    -- One that enough ask for is the highest so far.
    pub raised_many : need ≤ c → w ≡ raised_to views w need best
    unfolding raised_to
    raised_many many = rw (lt-ltb best w above, le-leb need (asking views (length views) w) (omega arith))

-- ---- from the gathered views to the view-changes

-- Tests that are the same above low have the same highest.
pub highest_both : (s t : ℕ → Bool) (low best : ℕ) → ((w : ℕ) → low < w → s w ≡ t w) → Highest s low best → Highest t low best
highest_both s t low best same h = record {
  least = h.least;
  passes = λ less. sym (same best less) ∙ h.passes less;
  most = λ w above passes. h.most w above (same w above ∙ passes);
}

module _ (change : ℕ → Option ℕ) (n need low count k : ℕ) (views : List ℕ)
    (g : Gathered change n need low views count) (fits : count ≤ length views) (is : k ≡ count) where
  -- The views gathered, lent as the first part of the array, count the same.
  front : (w : ℕ) → asking (take k views) (length (take k views)) w ≡ asking views count w
  front w =
      let size : length (take k views) ≡ count = length-take k views ∙ omega arith in
      ap (λ (m : ℕ). asking (take k views) m w) size
      ∙ weigh_same (λ i. 1) (λ j. leb w (get_or (take k views) j 0)) (λ j. leb w (get_or views j 0)) count
      (λ j below. ap (leb w) (get_or-take k views j 0 (omega arith)))

  -- So the highest among them is the highest that enough view-changes are for.
  pub highest_of_all : (best : ℕ) → Highest (λ w. leb need (asking (take k views) (length (take k views)) w)) low best → Highest (enough change n need) low best
  highest_of_all best h =
      highest_both (λ w. leb need (asking (take k views) (length (take k views)) w)) (enough change n need) low best
      (λ w above. ap (leb need) (front w) ∙ g.same w above) h
