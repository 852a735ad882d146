-- The records handed in, as the code goes through them (document 02, wish 5: 'the desk collects 2 to 64 vault records', 'by rising number, one
-- byte each', '24 for a number of records outside 2 to 64, a blank or unsound record, or records differing in n or f'). A sound record has one
-- length, so pieces that pass are all of that length, and piece i stands behind i of them. Records are alike just where each is like the first,
-- since n and f are compared by equality.
-- Assumes nothing.
use Prim.Native.Nat.{ℕ, zero, suc, ◌+◌, ◌*◌, ◌≤◌, ◌<◌, suc-le-suc}
use mathlib.Core.Path.{◌≡◌, refl, ap, sym, ◌∙◌}
use mathlib.Core.Logic.{◌⊎◌, inl, inr}
use mathlib.Core.Bool.{Bool, true, false, not, ◌&&◌, ◌||◌, cond, false≢true}
use mathlib.Core.List.{List, [], ◌∷◌, ◌++◌, map}
use native.Mathlib.Nat.{le_of_suc-le-suc, not-suc-le-zero, mul-zero, mul-suc, add_comm}
use native.Mathlib.Omega.{arith}
use native.Mathlib.Decide.{dec_lt}
use borrow.Author.Tests.{eq-eqb, ne_eqb, eqb-true, eqb-false, not-true, not-false}
use lib.Dec.{eqb}
use lib.ListN.{length, get_or, take, drop, length-drop, length-map, get_or-map}
use lib.Seq.{length-take-le, drop-drop}
use Rattle.rules.specs.Sets.{Set}
use Rattle.rules.specs.inside.Bools.{any_below}
use Rattle.rules.proofs.Bools.{which, clash, not_true, same_test, both_split, both_join, or_left, or_right, any_at, any_where}
use Rattle.frame.specs.declared.Report.{Report}
use Rattle.frame.specs.Format.{within}
use Rattle.frame.proofs.Laws.{neither, inside, under, over}
use Rattle.settings.specs.declared.Settings.{Settings}
use Rattle.record.specs.Slots.{rows, Record, frame_slot}
use Rattle.record.specs.Layout.{decode_record}
use Rattle.record.specs.Size.{record_size}
use Rattle.sound.specs.declared.Lent.{Lent}
use Rattle.sound.specs.declared.Lent.TheVariants.{Unsound}
use Rattle.sound.specs.inside.Sound.{all, lent_is}
use Rattle.sound.proofs.Laws.{lent_length}
use Rattle.sound.proofs.All.{all_at}
use Rattle.contents.proofs.Tests.{all_of}
use Rattle.equivocation.specs.Named.{any, two_plans, spoke_twice, rising, named}
use Rattle.contents.specs.Which.{is_sound}
use Rattle.equivocation.specs.Call.{handed_in, sum, unlike, mixed, unfit, misfit}
use Rattle.equivocation.specs.inside.Records.{record_in, read_in, size_fits, fits, fits_at, slots_differ, clashing, twice_in}
use Rattle.equivocation.proofs.Sound.{sound_pass, size_most}
use Rattle.equivocation.proofs.Lists.{any_is, handed_length, named_of}
use Rattle.equivocation.proofs.Pairs.{any_same, none_at, votes_are, pairs_differ}

-- ---- the pieces

-- Where every length is w, piece i stands behind i pieces of w.
piece_is : (w : ℕ) (lengths s : List ℕ) (i : ℕ) → ((j : ℕ) → j < length lengths → get_or lengths j 0 ≡ w) → i < length lengths
    → get_or (handed_in lengths s) i [] ≡ take w (drop (w * i) s)
unfolding handed_in
piece_is w [] s i same low = absurd (not-suc-le-zero low)
piece_is w (k ∷ lengths) s zero same low = ap (λ (n : ℕ). take n s) (same 0 low) ∙ ap (λ (n : ℕ). take w (drop n s)) (sym (mul-zero w))
piece_is w (k ∷ lengths) s (suc i) same low =
    let head : k ≡ w = same 0 (omega arith) in
    let place : k + w * i ≡ w * suc i = ap (λ (n : ℕ). n + w * i) head ∙ add_comm w (w * i) ∙ sym (mul-suc w i) in
    piece_is w lengths (drop k s) i (λ j less. same (suc j) (suc-le-suc less)) (le_of_suc-le-suc low)
    ∙ ap (take w) (drop-drop (w * i) k s)
    ∙ ap (λ (n : ℕ). take w (drop n s)) place

-- Where every length is w, they add up to so many times w.
sum_is : (w : ℕ) (lengths : List ℕ) → ((j : ℕ) → j < length lengths → get_or lengths j 0 ≡ w) → sum lengths ≡ w * length lengths
unfolding sum
sum_is w [] same = sym (mul-zero w)
sum_is w (k ∷ lengths) same =
    let head : k ≡ w = same 0 (omega arith) in
    let rest = sum_is w lengths (λ j less. same (suc j) (suc-le-suc less)) in
    (λ i. head i + rest i) ∙ add_comm w (w * length lengths) ∙ sym (mul-suc w (length lengths))

-- Where the bytes are enough, piece i is as long as length i says.
piece_long : (lengths s : List ℕ) (i : ℕ) → sum lengths ≤ length s → i < length lengths
    → length (get_or (handed_in lengths s) i []) ≡ get_or lengths i 0
unfolding handed_in sum
piece_long [] s i enough low = absurd (not-suc-le-zero low)
piece_long (k ∷ lengths) s zero enough low = length-take-le k s (omega arith)
piece_long (k ∷ lengths) s (suc i) enough low =
    let left = length-drop k s in
    piece_long lengths (drop k s) i (omega arith) (le_of_suc-le-suc low)

-- Where not all pass, one is found that does not.
all_where : (test : ℕ → Bool) (n : ℕ) → all test n ≡ false → (i : ℕ) × (i < n) × (test i ≡ false)
unfolding all
all_where test zero h = absurd (false≢true (sym h))
all_where test (suc n) h = go (all test n) refl h (all_where test n)
  where
    go : (b : Bool) → all test n ≡ b → (b && test n) ≡ false → (all test n ≡ false → (i : ℕ) × (i < n) × (test i ≡ false))
        → (i : ℕ) × (i < suc n) × (test i ≡ false)
    go true e last rest = (n, omega arith, last)
    go false e last rest = let (i, low, here) = rest e in (i, omega arith, here)

-- Where every length fits, each is a record's.
sizes_are : (lengths : List ℕ) → all (size_fits lengths) (length lengths) ≡ true → (j : ℕ) → j < length lengths → get_or lengths j 0 ≡ record_size
sizes_are lengths sizes j low = eqb-true (get_or lengths j 0) record_size (all_at (size_fits lengths) (length lengths) j sizes low)

-- 'a blank or unsound record'.
abbrev faulty : List ℕ → Bool
faulty b = not (is_sound (lent_is b))

-- ---- sound and alike

-- Settings like the same ones are alike.
like_both : (x y z : Settings) → unlike x y ≡ false → unlike x z ≡ false → unlike y z ≡ false
like_both x y z a b =
    let (an, af) = neither (not (eqb x.n y.n)) (not (eqb x.f y.f)) a in
    let (bn, bf) = neither (not (eqb x.n z.n)) (not (eqb x.f z.f)) b in
    let n = joined x.n y.n z.n an bn in
    let f = joined x.f y.f z.f af bf in
    λ i. not (n i) || not (f i)
  where
    joined : (p q r : ℕ) → not (eqb p q) ≡ false → not (eqb p r) ≡ false → eqb q r ≡ true
    joined p q r c d = eq-eqb q r (sym (eqb-true p q (not-false (eqb p q) c)) ∙ eqb-true p r (not-false (eqb p r) d))

-- Each passes and is like the first just where none fails and no two are unlike.
like_first : (pass : ℕ → Bool) (other : ℕ → ℕ → Bool) (n : ℕ) → 0 < n
    → ((i j : ℕ) → other 0 i ≡ false → other 0 j ≡ false → other i j ≡ false)
    → all (λ i. pass i && not (other 0 i)) n ≡ not (any_below (λ i. not (pass i)) n || any_below (λ i. any_below (other i) n) n)
like_first pass other n some like = same_test (all each n) (not (fails || differs)) to from
  where
    each : ℕ → Bool
    each i = pass i && not (other 0 i)

    fails : Bool
    fails = any_below (λ i. not (pass i)) n

    differs : Bool
    differs = any_below (λ i. any_below (other i) n) n

    parts : all each n ≡ true → (i : ℕ) → i < n → (pass i ≡ true) × (other 0 i ≡ false)
    parts h i low = let (p, q) = both_split (pass i) (not (other 0 i)) (all_at each n i h low) in (p, not-true (other 0 i) q)

    no_fail : all each n ≡ true → fails ≡ true → ⊥
    no_fail h e = let (i, low, here) = any_where (λ i. not (pass i)) n e in clash (parts h i low).0 (not-true (pass i) here)

    no_differ : all each n ≡ true → differs ≡ true → ⊥
    no_differ h e =
        let (i, low, here) = any_where (λ i. any_below (other i) n) n e in
        let (j, less, there) = any_where (other i) n here in
        clash there (like i j (parts h i low).1 (parts h j less).1)

    to : all each n ≡ true → not (fails || differs) ≡ true
    to h =
        let a = not_true fails (no_fail h) in
        let b = not_true differs (no_differ h) in
        λ i. not (a i || b i)

    from : not (fails || differs) ≡ true → all each n ≡ true
    from h =
        let (a, b) = neither fails differs (not-true (fails || differs) h) in
        all_of each n (λ i low. both_join (pass i) (not (other 0 i)) (not-false (pass i) (none_at (λ i. not (pass i)) n i a low))
        (ap not (none_at (other 0) n i (none_at (λ i. any_below (other i) n) n 0 b some) low)))

-- ---- the names

-- Sets that agree below n have the same members there.
rising_same : (a b : Set) (n : ℕ) → ((s : ℕ) → s < n → a s ≡ b s) → rising a n ≡ rising b n
unfolding rising
rising_same a b zero same = refl
rising_same a b (suc n) same =
    let rest = rising_same a b n (λ s low. same s (omega arith)) in
    let last = same n (omega arith) in
    λ i. rest i ++ cond (last i) (n ∷ []) []

-- ---- of the records

module _ (records lengths : List ℕ) where
  -- The pieces.
  abbrev pieces : List (List ℕ)
  pieces = handed_in lengths records

  -- What they spell.
  abbrev spelled : List Record
  spelled = map decode_record pieces

  -- There are as many of these as lengths.
  spelled_count : length spelled ≡ length lengths
  spelled_count = length-map pieces decode_record ∙ handed_length lengths records

  -- Where every length fits, piece i is the bytes of record i.
  piece_at : all (size_fits lengths) (length lengths) ≡ true → (i : ℕ) → i < length lengths → get_or pieces i [] ≡ record_in records i
  unfolding record_in
  piece_at sizes i low = piece_is record_size lengths records i (sizes_are lengths sizes) low

  -- And spells record i.
  spelled_at : all (size_fits lengths) (length lengths) ≡ true → (i : ℕ) → i < length lengths
      → get_or spelled i (decode_record []) ≡ read_in records i
  spelled_at sizes i low = get_or-map decode_record pieces i [] ∙ ap decode_record (piece_at sizes i low)

  -- ---- who spoke twice

  -- A vote's slot differs in two of the records just where it does from an earlier one.
  clashing_is : all (size_fits lengths) (length lengths) ≡ true → (k s : ℕ) → 1 ≤ k → k ≤ 5
      → clashing records (length lengths) (frame_slot k s) ≡ two_plans spelled k s
  unfolding clashing
  clashing_is sizes k s low high = sym (
      pairs_differ spelled (decode_record []) k s low high
      ∙ ap (any_below (λ i. any_below (λ j. slots_differ (told i) (told j)) i)) spelled_count
      ∙ any_same (λ i. any_below (λ j. slots_differ (told i) (told j)) i) (λ i. any_below (λ j. slots_differ (slot i) (slot j)) i) (length lengths) outer)
    where
      told : ℕ → Report
      told i = (get_or spelled i (decode_record [])).slots (frame_slot k s)

      slot : ℕ → Report
      slot i = (read_in records i).slots (frame_slot k s)

      same : (i : ℕ) → i < length lengths → told i ≡ slot i
      same i less = ap (λ (r : Record). r.slots (frame_slot k s)) (spelled_at sizes i less)

      outer : (i : ℕ) → i < length lengths
          → any_below (λ j. slots_differ (told i) (told j)) i ≡ any_below (λ j. slots_differ (slot i) (slot j)) i
      outer i less = any_same (λ j. slots_differ (told i) (told j)) (λ j. slots_differ (slot i) (slot j)) i
          (λ j before. let a = same i less in let b = same j (omega arith) in λ t. slots_differ (a t) (b t))

  -- A vault's slots of the four votes say just whether it spoke twice.
  twice_is : (s : ℕ) → all (size_fits lengths) (length lengths) ≡ true
      → twice_in records (length lengths) s ≡ spoke_twice (map decode_record (handed_in lengths records)) s
  unfolding twice_in spoke_twice
  twice_is s sizes =
      any_same (λ v. clashing records (length lengths) (frame_slot (2 + v) s)) (λ v. two_plans spelled (2 + v) s) 4
      (λ v low. clashing_is sizes (2 + v) s (omega arith) (omega arith))
      ∙ sym (votes_are (λ k. two_plans spelled k s))

  -- ---- what does not fit

  -- Lengths that do not add up to the bytes.
  sum_misfit : (sum lengths ≡ length records → ⊥) → misfit records lengths ≡ true
  unfolding misfit
  sum_misfit h = or_left (not (eqb (sum lengths) (length records))) (unfit pieces) (ap not (ne_eqb (sum lengths) (length records) h))

  -- A collection that does not fit, whatever the lengths add up to.
  unfit_misfit : unfit pieces ≡ true → misfit records lengths ≡ true
  unfolding misfit
  unfit_misfit h = or_right (not (eqb (sum lengths) (length records))) (unfit pieces) h

  -- A number of records outside 2 to 64.
  count_misfit : within 2 64 (length lengths) ≡ false → misfit records lengths ≡ true
  unfolding unfit
  count_misfit h =
      unfit_misfit (or_left (not (within 2 64 (length pieces))) (any faulty pieces || mixed spelled)
      (ap (λ (n : ℕ). not (within 2 64 n)) (handed_length lengths records) ∙ ap not h))

  -- A piece that is not sound.
  piece_misfit : (i : ℕ) → i < length lengths → lent_is (get_or pieces i []) ≡ Unsound → misfit records lengths ≡ true
  unfolding unfit
  piece_misfit i low h =
      unfit_misfit (or_right (not (within 2 64 (length pieces))) (any faulty pieces || mixed spelled)
      (or_left (any faulty pieces) (mixed spelled)
      (any_is faulty pieces [] ∙ ap (any_below (λ i. faulty (get_or pieces i []))) (handed_length lengths records)
      ∙ any_at (λ i. faulty (get_or pieces i [])) (length lengths) i low (ap (λ (l : Lent). not (is_sound l)) h))))

  -- Fewer than two records do not fit.
  pub few : length lengths < 2 → misfit records lengths ≡ true
  few h = count_misfit (under 2 64 (length lengths) h)

  -- More than 64 records do not fit.
  pub many : 64 < length lengths → misfit records lengths ≡ true
  many h = count_misfit (over 2 64 (length lengths) (omega arith) h)

  -- Where a length is not a record's, that piece is unsound, or the lengths do not add up.
  pub sizes_off : all (size_fits lengths) (length lengths) ≡ false → misfit records lengths ≡ true
  sizes_off h = go (which (eqb (sum lengths) (length records))) (all_where (size_fits lengths) (length lengths) h)
    where
      go : (eqb (sum lengths) (length records) ≡ true) ⊎ (eqb (sum lengths) (length records) ≡ false)
          → (i : ℕ) × (i < length lengths) × (size_fits lengths i ≡ false) → misfit records lengths ≡ true
      go (inr e) found = sum_misfit (eqb-false (sum lengths) (length records) e)
      go (inl e) found =
          let (i, low, other) = found in
          let whole : sum lengths ≡ length records = eqb-true (sum lengths) (length records) e in
          let long = piece_long lengths records i (omega arith) low in
          piece_misfit i low (lent_length (get_or pieces i []) (λ (z : length (get_or pieces i []) ≡ record_size).
          eqb-false (get_or lengths i 0) record_size other (sym long ∙ z)))

  -- Where every length is a record's, the bytes are so many records.
  pub sum_off : all (size_fits lengths) (length lengths) ≡ true → (length records ≡ record_size * length lengths → ⊥) → misfit records lengths ≡ true
  sum_off sizes h = sum_misfit (λ e. h (sym e ∙ sum_is record_size lengths (sizes_are lengths sizes)))

  -- ---- what fits

  -- Records of one size, 2 to 64 of them, fit just where none is faulty and no two are unlike.
  misfit_is : 2 ≤ length lengths → length lengths ≤ 64 → all (size_fits lengths) (length lengths) ≡ true → length records ≡ record_size * length lengths
      → misfit records lengths
      ≡ (any_below (λ i. faulty (record_in records i)) (length lengths)
      || any_below (λ i. any_below (λ j. unlike (read_in records i).set (read_in records j).set) (length lengths)) (length lengths))
  unfolding misfit unfit mixed
  misfit_is low high sizes long =
      let whole = eq-eqb (sum lengths) (length records) (sum_is record_size lengths (sizes_are lengths sizes) ∙ sym long) in
      let range = ap (within 2 64) (handed_length lengths records) ∙ inside 2 64 (length lengths) low high in
      λ i. not (whole i) || (not (range i) || (faults i || mixes i))
    where
      n : ℕ
      n = length lengths

      faults : any faulty pieces ≡ any_below (λ i. faulty (record_in records i)) n
      faults =
          any_is faulty pieces [] ∙ ap (any_below (λ i. faulty (get_or pieces i []))) (handed_length lengths records)
          ∙ any_same (λ i. faulty (get_or pieces i [])) (λ i. faulty (record_in records i)) n (λ i less. ap faulty (piece_at sizes i less))

      told : ℕ → Settings
      told i = (get_or spelled i (decode_record [])).set

      same : (i : ℕ) → i < n → told i ≡ (read_in records i).set
      same i less = ap (λ (r : Record). r.set) (spelled_at sizes i less)

      inner : (i : ℕ) → i < n → any (λ y. unlike (told i) y.set) spelled ≡ any_below (λ j. unlike (read_in records i).set (read_in records j).set) n
      inner i less =
          any_is (λ y. unlike (told i) y.set) spelled (decode_record []) ∙ ap (any_below (λ j. unlike (told i) (told j))) spelled_count
          ∙ any_same (λ j. unlike (told i) (told j)) (λ j. unlike (read_in records i).set (read_in records j).set) n
          (λ j before. let a = same i less in let b = same j before in λ t. unlike (a t) (b t))

      mixes : any (λ x. any (λ y. unlike x.set y.set) spelled) spelled
          ≡ any_below (λ i. any_below (λ j. unlike (read_in records i).set (read_in records j).set) n) n
      mixes =
          any_is (λ x. any (λ y. unlike x.set y.set) spelled) spelled (decode_record [])
          ∙ ap (any_below (λ i. any (λ y. unlike (told i) y.set) spelled)) spelled_count
          ∙ any_same (λ i. any (λ y. unlike (told i) y.set) spelled) (λ i. any_below (λ j. unlike (read_in records i).set (read_in records j).set) n) n inner

  -- Each record is sound and like the first, just where they fit.
  pub records_fit : 2 ≤ length lengths → length lengths ≤ 64 → all (size_fits lengths) (length lengths) ≡ true
      → length records ≡ record_size * length lengths → all (fits_at records) (length lengths) ≡ not (misfit records lengths)
  unfolding fits
  records_fit low high sizes long =
      like_first (λ i. is_sound (lent_is (record_in records i))) (λ i j. unlike (read_in records i).set (read_in records j).set) (length lengths) (omega arith)
      (λ i j. like_both (read_in records 0).set (read_in records i).set (read_in records j).set)
      ∙ ap not (sym (misfit_is low high sizes long))

  module _ (good : misfit records lengths ≡ false) where
    -- Of records that fit, every length is a record's.
    sizes_good : all (size_fits lengths) (length lengths) ≡ true
    sizes_good = go (which (all (size_fits lengths) (length lengths)))
      where
        go : (all (size_fits lengths) (length lengths) ≡ true) ⊎ (all (size_fits lengths) (length lengths) ≡ false)
            → all (size_fits lengths) (length lengths) ≡ true
        go (inl e) = e
        go (inr e) = absurd (clash (sizes_off e) good)

    -- They are so many bytes.
    bytes_good : length records ≡ record_size * length lengths
    unfolding misfit
    bytes_good =
        let whole = (neither (not (eqb (sum lengths) (length records))) (unfit pieces) good).0 in
        sym (eqb-true (sum lengths) (length records) (not-false (eqb (sum lengths) (length records)) whole))
        ∙ sum_is record_size lengths (sizes_are lengths sizes_good)

    -- They are at least two.
    least_good : 2 ≤ length lengths
    least_good = go (dec_lt (length lengths) 2)
      where
        go : Dec (length lengths < 2) → 2 ≤ length lengths
        go (yes h) = absurd (clash (few h) good)
        go (no h) = omega arith

    -- They are at most 64.
    most_good : length lengths ≤ 64
    most_good = go (dec_lt 64 (length lengths))
      where
        go : Dec (64 < length lengths) → length lengths ≤ 64
        go (yes h) = absurd (clash (many h) good)
        go (no h) = omega arith

    -- The first says at most 64 vaults.
    rows_good : (read_in records 0).set.n ≤ rows
    unfolding fits
    rows_good =
        let each = records_fit least_good most_good sizes_good bytes_good ∙ ap not good in
        let first = all_at (fits_at records) (length lengths) 0 each (omega (arith, least_good)) in
        let set : Settings = (read_in records 0).set in
        size_most (read_in records 0) (sound_pass (record_in records 0) (both_split (is_sound (lent_is (record_in records 0))) (not (unlike set set)) first).0)

    -- Of records that fit, the vaults to be named are those below n whose slots clash.
    pub named_is : named (map decode_record (handed_in lengths records)) ≡ rising (twice_in records (length lengths)) (read_in records 0).set.n
    named_is =
        let some : 0 < length lengths = omega (arith, least_good) in
        named_of pieces (omega (arith, handed_length lengths records, least_good))
        ∙ ap (λ (b : List ℕ). rising (spoke_twice spelled) (decode_record b).set.n) (piece_at sizes_good 0 some)
        ∙ sym (rising_same (twice_in records (length lengths)) (spoke_twice spelled) (read_in records 0).set.n
        (λ s low. twice_is s sizes_good))

    -- Records that fit are so many bytes, at least two, and of at most 64 vaults.
    pub fits_hold : (length records ≡ record_size * length lengths) × (2 ≤ length lengths) × ((read_in records 0).set.n ≤ rows)
    fits_hold = (bytes_good, least_good, rows_good)
