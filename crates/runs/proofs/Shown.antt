-- Nothing is vacuous: four runs over bytes in which vaults decide (document 01, 'Runs, as demand 3 means them'). Each is a script of
-- crate protocol, whose calls are a run by contents and compute; and every run by contents is one over bytes in which each vault
-- writes the same and keeps the same (`run_spelled`).
-- Assumes nothing.
use Prim.Native.Nat.{ℕ, zero, suc, ◌-◌, ◌≤◌, ◌<◌}
use mathlib.Core.Path.{◌≡◌, refl, sym, ◌∙◌, ap, subst}
use mathlib.Core.Bool.{true}
use mathlib.Core.List.{List}
use mathlib.Core.Option.{Option, none, some}
use native.Mathlib.Omega.{arith}
use Rattle.rules.specs.Sets.{Set, equals, weigh, size, total}
use Rattle.rules.proofs.Reports.{none≢some}
use Rattle.frame.specs.declared.Frame.{Frame}
use Rattle.entry.specs.declared.Entry.{Entry}
use Rattle.entry.specs.declared.Entry.TheVariants.{Decision}
use Rattle.protocol.specs.Record.{Record}
use Rattle.protocol.specs.inside.Runs as model
use Rattle.protocol.specs.Tables.{◌∈◌}
use Rattle.protocol.proofs.Scripts.{Move, has_back, pick_in, calls, all_fair, of_four, script_runs}
use Rattle.protocol.proofs.Shown.{everyone, wrote, kept_in, plain, plain_fair, plain_decides, but_one, lied, lied_fair, lied_kept, lied_decides, later}
use Rattle.protocol.proofs.Shown.{later_fair, later_decides, returned, returned_fair, returned_decides, returned_back}
use Rattle.contents.specs.Spelling.{Spells}
use Rattle.runs.specs.Runs.{record_at}
use Rattle.runs.specs.Shown.{Shown, DecidesIn, KeepsFrame, vote_of3, AllDecide, OneLies, LaterDecide, Restarts, ReturnedDecide}
use Rattle.runs.proofs.Spelled.{spelled, Spelled, run_spelled}

-- ---- a script over bytes

module _ (keeps : Set) (most : total (equals 4 1) - 1 ≤ size (equals 4 1) keeps) (ms : List Move) (fair : all_fair keeps ms ≡ true) where
  -- The script's run by contents, over bytes.
  over : Spelled (of_four keeps most) (calls ms)
  over = let so = script_runs keeps most ms fair in run_spelled (of_four keeps most) so.run so.wide

  -- So it is a run of four vaults over bytes.
  shown : Shown keeps
  shown = record { setting = spelled (of_four keeps most); four = refl; rules = refl; calls = over.items; run = over.run }

  -- What is written by contents is written over bytes.
  decides : (v i p k : ℕ) → wrote ms i k ≡ some (Decision v p) → DecidesIn shown v i p
  unfolding shown
  decides v i p k is = subst (λ (es : List Entry). Decision v p ∈ es) (sym (over.same i).agree) (pick_in k (model.written (calls ms) i) is)

  -- What is kept by contents is kept over bytes.
  keeps_frame : (i : ℕ) (x : Frame) → kept_in (model.record_at (calls ms) i) x.kind x.sender ≡ some x → KeepsFrame shown i x
  unfolding shown
  keeps_frame i x is = go (model.record_at (calls ms) i) (over.same i).spells is
    where
      go : (b : Option Record) → Spells (record_at shown.setting shown.calls i) b → kept_in b x.kind x.sender ≡ some x → KeepsFrame shown i x
      go none spells e = absurd (none≢some e)
      go (some r) spells e = ap (λ (r : Record). r.kept x.kind x.sender) spells.holds ∙ e

  -- A restart by contents is one over bytes.
  restarts : (i : ℕ) → has_back i (calls ms) ≡ true → Restarts i shown.calls
  unfolding shown
  restarts = over.backs

-- What holds of 0 to 3 holds of every number below 4.
below4 : (P : ℕ → Type 0) → P 0 → P 1 → P 2 → P 3 → (i : ℕ) → i < 4 → P i
below4 P p0 p1 p2 p3 zero low = p0
below4 P p0 p1 p2 p3 (suc zero) low = p1
below4 P p0 p1 p2 p3 (suc (suc zero)) low = p2
below4 P p0 p1 p2 p3 (suc (suc (suc zero))) low = p3
below4 P p0 p1 p2 p3 (suc (suc (suc (suc i)))) low = absurd (omega arith)

-- The same for 0 to 2.
below3 : (P : ℕ → Type 0) → P 0 → P 1 → P 2 → (i : ℕ) → i < 3 → P i
below3 P p0 p1 p2 zero low = p0
below3 P p0 p1 p2 (suc zero) low = p1
below3 P p0 p1 p2 (suc (suc zero)) low = p2
below3 P p0 p1 p2 (suc (suc (suc i))) low = absurd (omega arith)

-- ---- the four

-- All four are n - f or more.
all_most : total (equals 4 1) - 1 ≤ size (equals 4 1) everyone
unfolding weigh
all_most = omega arith

-- So are three of the four.
but_one_most : total (equals 4 1) - 1 ≤ size (equals 4 1) but_one
unfolding weigh
but_one_most = omega arith

-- A run over bytes in which all four decide 7 in view 0.
pub all_decide : AllDecide
all_decide = (
  shown everyone all_most plain plain_fair,
  below4 _ (at 0 6 plain_decides.0) (at 1 5 plain_decides.1) (at 2 5 plain_decides.2) (at 3 5 plain_decides.3),
)
  where
    at : (i k : ℕ) → wrote plain i k ≡ some (Decision 0 7) → DecidesIn (shown everyone all_most plain plain_fair) 0 i 7
    at i k = decides everyone all_most plain plain_fair 0 i 7 k

-- One in which vault 3 says different votes to vaults 0 and 2, and the others decide 7.
pub one_lies : OneLies
one_lies = (
  shown but_one but_one_most lied lied_fair,
  (kept 0 7 lied_kept.0, (kept 2 9 lied_kept.1, below3 _ (at 0 6 lied_decides.0) (at 1 5 lied_decides.1) (at 2 5 lied_decides.2))),
)
  where
    kept : (i p : ℕ) → kept_in (model.record_at (calls lied) i) 2 3 ≡ some (vote_of3 p) → KeepsFrame (shown but_one but_one_most lied lied_fair) i (vote_of3 p)
    kept i p = keeps_frame but_one but_one_most lied lied_fair i (vote_of3 p)

    at : (i k : ℕ) → wrote lied i k ≡ some (Decision 0 7) → DecidesIn (shown but_one but_one_most lied lied_fair) 0 i 7
    at i k = decides but_one but_one_most lied lied_fair 0 i 7 k

-- One in which all four decide 7 in view 1.
pub later_decide : LaterDecide
later_decide = (
  shown everyone all_most later later_fair,
  below4 _ (at 0 13 later_decides.0) (at 1 12 later_decides.1) (at 2 12 later_decides.2) (at 3 12 later_decides.3),
)
  where
    at : (i k : ℕ) → wrote later i k ≡ some (Decision 1 7) → DecidesIn (shown everyone all_most later later_fair) 1 i 7
    at i k = decides everyone all_most later later_fair 1 i 7 k

-- One in which vaults 0 and 3 are cut off and come back, and the others and vault 0 decide 7.
pub returned_decide : ReturnedDecide
returned_decide = (
  shown everyone all_most returned returned_fair,
  (
    restarts everyone all_most returned returned_fair 0 returned_back.0,
    (
      restarts everyone all_most returned returned_fair 3 returned_back.1,
      below3 _ (at 0 6 returned_decides.0) (at 1 5 returned_decides.1) (at 2 5 returned_decides.2),
    ),
  ),
)
  where
    at : (i k : ℕ) → wrote returned i k ≡ some (Decision 0 7) → DecidesIn (shown everyone all_most returned returned_fair) 0 i 7
    at i k = decides everyone all_most returned returned_fair 0 i 7 k
