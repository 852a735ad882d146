-- The exports' answers from those of what they call. An answer to an accepted frame fits: three entries are at most 138 bytes, since 'Entries
-- lie end to end' and each is at most 46. The search relies on what `laid` tests; it goes by settings, of which it reads the n and f of the call.
-- Assumes nothing.
use Prim.Native.Nat.{ℕ, ◌≤◌, ◌<◌}
use mathlib.Core.Path.{◌≡◌, refl}
use mathlib.Core.Bool.{Bool, true, false, ◌&&◌, cond, not, and-false}
use mathlib.Core.Option.{Option}
use mathlib.Core.List.{List}
use native.Mathlib.Omega.{arith}
use lib.Dec.{leb, ltb, eqb}
use lib.ListN.{length, length-append}
use borrow.Author.Tests.{leb-true, ltb-true, eq-eqb, ne_eqb, lt-ltb, le-ltb}
use Rattle.frame.specs.declared.Frame.{Frame}
use Rattle.entry.specs.declared.Entry.TheVariants.{ForAll, Timer, Decision}
use Rattle.entry.specs.Layout.{layout}
use Rattle.entry.proofs.Theorems.{entry_span}
use Rattle.rules.specs.Sets.{equals}
use Rattle.rules.proofs.Bools.{both_split}
use Rattle.rules.specs.inside.Counts.{safe, choice}
use Rattle.claims.specs.Table.{column, table_size, reports_in_table}
use Rattle.safe.specs.Choices.{rule_of}
use Rattle.for_tests.specs.inside.Answers.{left, echo_entries, laid, safe_plan, proposed, choose_plan}

-- ---- frames

-- The three entries have room in 138 bytes.
pub echo_short : (f : Frame) → length (layout (echo_entries f)) ≤ 138
echo_short f =
    let a = (entry_span (ForAll f)).1 in
    let b = (entry_span (Timer f.view 180)).1 in
    let d = (entry_span (Decision f.view f.view)).1 in
    simp length-append (omega arith)

-- So has a count of their bytes.
pub count_short : (count : ℕ) (f : Frame) → count ≡ length (layout (echo_entries f)) → count ≤ 138
count_short count f e = omega (arith, echo_short f)

-- ---- safe plans

module _ (table : List ℕ) (n f : ℕ) where
  -- n and f of the settings.
  module _ (all few : ℕ) (is : all ≡ n) (too : few ≡ f) where
    -- What the search asks for.
    pub laid_parts : (leb n column && ltb f n) ≡ true → (all ≤ column) × (few < all)
    laid_parts h =
        let (l, h) = both_split (leb n column) _ h in
        rw (is, too) (leb-true n column l, ltb-true f n h)

    -- The search's answer as a number.
    pub safe_said : (v p three : ℕ) (b : Bool) → laid table n f ≡ true
        → b ≡ safe (rule_of (not (eqb three 0))) (equals all few) (reports_in_table table) v p → cond b 1 0 ≡ safe_plan table n f v p three
    unfolding safe_plan
    safe_said v p three b h e = rw (h, ← is, ← too, ← e)

    -- The choice, told.
    pub choose_said : (v start : ℕ) (o : Option ℕ) (out : List ℕ) → laid table n f ≡ true → 0 < length out
        → o ≡ choice (equals all few) (reports_in_table table) v start → proposed o out ≡ choose_plan table n f v start out
    unfolding choose_plan
    choose_said v start o out h room e = rw (h, lt-ltb 0 (length out) room, ← is, ← too, ← e)

  -- A table that has its size is laid where the two numbers are.
  pub laid_by : {b : Bool} → length table ≡ table_size → (leb n column && ltb f n) ≡ b → laid table n f ≡ b
  unfolding laid
  laid_by size e = rw (eq-eqb (length table) table_size size) e

  -- One that has not is not.
  pub unlaid_by : (length table ≡ table_size → ⊥) → laid table n f ≡ false
  unfolding laid
  unlaid_by other = rw (ne_eqb (length table) table_size other) refl

  -- A call that makes no sense asks for no search.
  pub safe_unlaid : (v p three : ℕ) → laid table n f ≡ false → 2 ≡ safe_plan table n f v p three
  unfolding safe_plan
  safe_unlaid v p three h = rw h

  -- Nor does an empty output,
  pub choose_full : (v start : ℕ) (out : List ℕ) → length out ≤ 0 → left 2 out ≡ choose_plan table n f v start out
  unfolding choose_plan
  choose_full v start out none = rw (le-ltb 0 (length out) none, and-false)

  -- nor a choice that makes no sense.
  pub choose_unlaid : (v start : ℕ) (out : List ℕ) → laid table n f ≡ false → left 2 out ≡ choose_plan table n f v start out
  unfolding choose_plan
  choose_unlaid v start out h = rw h
