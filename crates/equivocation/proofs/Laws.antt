-- Laws of the search through the records handed in, one for each event of a loop: a test of every number below a bound, going down and going up,
-- and bytes put one behind the other. A record is a part of the bytes lent, `&records[from..from + size]`.
-- Assumes nothing.
use Prim.Native.Nat.{ℕ, ◌+◌, ◌-◌, ◌*◌, ◌≤◌, ◌<◌}
use mathlib.Core.Path.{◌≡◌, refl, sym, ap, subst, ◌∙◌}
use mathlib.Core.Bool.{Bool, true, false, not, ◌&&◌, true≢false}
use mathlib.Core.List.{List, map}
use native.Mathlib.Numerals.{add-one}
use native.Mathlib.Decide.{dec_lt}
use native.Mathlib.Omega.{arith}
use lib.ListN.{length, take, drop, set, length-append}
use borrow.Author.Tests.{lt-ltb, le-ltb}
use Rattle.rules.specs.Sets.{Set}
use Rattle.rules.specs.inside.Bools.{any_below}
use Rattle.rules.proofs.Bools.{not_true, clash, any_at, any_where}
use Rattle.settings.specs.declared.Settings.{Settings}
use Rattle.record.specs.Layout.{decode_record}
use Rattle.record.specs.Size.{record_size}
use Rattle.sound.specs.declared.Lent.{Lent}
use Rattle.sound.specs.inside.Sound.{lent_is}
use Rattle.contents.specs.Left.{wrote, gave}
use Rattle.wire.specs.Placed.{placed}
use Rattle.wire.proofs.Output.{placed_none, placed_one, placed_more, length_placed}
use Rattle.equivocation.specs.Named.{rising, named}
use Rattle.contents.specs.Which.{is_sound}
use Rattle.equivocation.specs.Call.{handed_in, unlike, misfit, equivocators_left}
use Rattle.equivocation.specs.inside.Records.{record_in, fits, clashes_before, whom, Put}
use Rattle.equivocation.proofs.Lists.{rising_most}

-- ---- down from i

-- No number from j on, below i, passes the test.
abbrev pub NoneFrom : (ℕ → Bool) → ℕ → ℕ → Type 0
NoneFrom test j i = (m : ℕ) → j ≤ m → m < i → test m ≡ false

-- At first none was tested.
pub none_yet : (test : ℕ → Bool) (i : ℕ) → NoneFrom test i i
none_yet test i m from below = absurd (omega arith)

-- One more that fails.
pub none_more : (test : ℕ → Bool) (j i : ℕ) → NoneFrom test j i → test (j - 1) ≡ false → NoneFrom test (j - 1) i
none_more test j i none fails m from below = go (dec_lt m j)
  where
    go : Dec (m < j) → test m ≡ false
    go (yes before) = let e : j - 1 ≡ m = omega arith in subst (λ (k : ℕ). test k ≡ false) e fails
    go (no after) = none m (omega arith) below

-- All were tested.
pub none_all : (test : ℕ → Bool) (j i : ℕ) → j ≡ 0 → NoneFrom test j i → any_below test i ≡ false
none_all test j i all none = not_true (any_below test i) (λ h. let (m, below, passes) = any_where test i h in clash passes (none m (omega arith) below))

-- ---- up to a count

-- One more that fails.
pub any_more : (test : ℕ → Bool) (i : ℕ) → any_below test i ≡ false → test i ≡ false → any_below test (i + 1) ≡ false
unfolding any_below
any_more test i none fails = rw (add-one, none, fails) refl

-- None below a bound is none below a lower one.
pub any_less : (test : ℕ → Bool) (k i : ℕ) → k ≤ i → any_below test i ≡ false → any_below test k ≡ false
any_less test k i low none =
    not_true (any_below test k) (λ h. let (m, below, passes) = any_where test k h in clash (any_at test i m (omega arith) passes) none)

-- Before record 0 there is none.
pub none_before : (s : List ℕ) (slot : ℕ) → any_below (clashes_before s slot) 1 ≡ false
unfolding any_below
none_before s slot = refl

-- No vote was tested yet.
pub no_vote : (test : ℕ → Bool) → any_below test 0 ≡ false
unfolding any_below
no_vote test = refl

-- ---- a record as it is lent

-- The bytes from a place on, as many as a record has.
pub record_lent : (s : List ℕ) (i : ℕ) → take (record_size * i + record_size - record_size * i) (drop (record_size * i) s) ≡ record_in s i
unfolding record_in
record_lent s i = let size : record_size * i + record_size - record_size * i ≡ record_size = omega arith in rw size

-- Record 0 lies first.
pub first_lent : (s : List ℕ) → take (record_size - 0) (drop 0 s) ≡ record_in s 0
unfolding record_in
first_lent s = refl

-- What it is decides whether it fits, and where it is sound its n and f do.
pub fits_by : (set : Settings) (b : List ℕ) (lent : Lent) (r : Bool) → lent_is b ≡ lent → r ≡ (is_sound lent && not (unlike set (decode_record b).set))
    → r ≡ fits set b
unfolding fits
fits_by set b lent r is e = e ∙ ap (λ (l : Lent). is_sound l && not (unlike set (decode_record b).set)) (sym is)

-- ---- names written

-- Nothing was written yet.
pub put_none : (who : Set) (out : List ℕ) → Put out 0 (rising who 0) out 0
unfolding rising
put_none who out = record { count = refl; left = sym (placed_none out 0) }

-- A vault that is not to be named.
pub put_nobody : (out : List ℕ) (at s : ℕ) (b : Bool) → b ≡ false → Put out at (whom b s) out at
put_nobody out at s true off = absurd (true≢false off)
put_nobody out at s false off = record { count = omega arith; left = sym (placed_none out at) }

-- One that is.
pub put_one : (out : List ℕ) (at s : ℕ) (b : Bool) → b ≡ true → at < length out → Put out at (whom b s) (set out at s) (at + 1)
put_one out at s true on room = record { count = refl; left = placed_one out at s room }
put_one out at s false on room = absurd (true≢false (sym on))

-- One vault more.
pub put_more : (who : Set) (k : ℕ) (out out₁ out₂ : List ℕ) (at next : ℕ) → Put out 0 (rising who k) out₁ at → Put out₁ at (whom (who k) k) out₂ next
    → Put out 0 (rising who (k + 1)) out₂ next
unfolding rising
put_more who k out out₁ out₂ at next was more =
    let names : List ℕ = rising who k in
    let one : List ℕ = whom (who k) k in
    rw add-one (record {
      count = omega (arith, more.count, was.count, length-append names one);
      left = more.left ∙ (λ i. placed (was.left i) (was.count i) one) ∙ placed_more out 0 names one (omega arith);
    })

-- A name takes a byte at most.
few_whom : (b : Bool) (s : ℕ) → length (whom b s) ≤ 1
few_whom true s = omega arith
few_whom false s = omega arith

-- No more are written than vaults were passed.
pub put_few : (who : Set) (k : ℕ) (out out₁ : List ℕ) (at : ℕ) → Put out 0 (rising who k) out₁ at → at ≤ k
put_few who k out out₁ at put = omega (arith, put.count, rising_most who k)

-- There was room for it, so the output is as long as it was.
pub put_long : (out out₁ : List ℕ) (at next s : ℕ) (b : Bool) → at < length out → Put out at (whom b s) out₁ next → length out₁ ≡ length out
put_long out out₁ at next s b room put = ap length put.left ∙ length_placed out at (whom b s) (omega (arith, few_whom b s))

-- ---- the answer

module _ (records lengths out : List ℕ) where
  -- There is too little room.
  pub room_missing : length out < 256 → gave 1 records out ≡ equivocators_left records lengths out
  unfolding equivocators_left
  room_missing h = rw (lt-ltb (length out) 256 h) refl

  -- What was handed in does not fit.
  pub misfit_left : 256 ≤ length out → misfit records lengths ≡ true → gave 24 records out ≡ equivocators_left records lengths out
  unfolding equivocators_left
  misfit_left h bad = rw (le-ltb (length out) 256 h, bad) refl

  -- It does, and the names are written.
  pub names_left : (out₁ : List ℕ) (count : ℕ) → 256 ≤ length out → misfit records lengths ≡ false
      → Put out 0 (named (map decode_record (handed_in lengths records))) out₁ count → wrote count records out₁ ≡ equivocators_left records lengths out
  unfolding equivocators_left
  names_left out₁ count h good put =
      let names : List ℕ = named (map decode_record (handed_in lengths records)) in
      let many : count ≡ length names = omega (arith, put.count) in
      rw (le-ltb (length out) 256 h, good) (λ i. wrote (many i) records (put.left i))
