-- The table of reports, filled sender by sender (document 01: 'Reports are those in kept suggests (Rule 1) or proofs (Rule 3) of view
-- v'). What one sender reports goes into its own row of seven columns, so that every other row stays as it was.
-- Assumes nothing.
use Prim.Native.Nat.{ℕ, ◌+◌, ◌*◌, ◌≤◌, ◌<◌}
use mathlib.Core.Path.{◌≡◌, refl, sym, ◌∙◌, ap, fun_ext}
use mathlib.Core.Logic.{◌≢◌}
use mathlib.Core.Bool.{Bool, true, false, cond, not, ◌&&◌}
use mathlib.Core.List.{List}
use mathlib.Core.Option.{none, some}
use native.Mathlib.Omega.{arith}
use native.Mathlib.Decide.{ℕ_discrete, dec_lt}
use lib.Dec.{ltb, eqb}
use lib.ListN.{length, get_or, set, replicate, length-set, length-replicate, get_or-replicate}
use lib.Seq.{get_or-set_same, get_or-set_other}
use borrow.Author.Tests.{lt-ltb, le-ltb}
use Rattle.rules.specs.Options.{is_none}
use Rattle.rules.specs.Rules.{Report, Reports}
use Rattle.claims.specs.Table.{column, table_size, vote_above, vote_in, reporter, reports_in_table}
use Rattle.frame.specs.declared.Report as Slot
use Rattle.frame.specs.Refusal.{present}
use Rattle.record.specs.Slots.{rows, frame_slot, report_slot}
use Rattle.record.specs.Layout.{slot_size, slot_in}
use Rattle.tally.specs.inside.Parts.{block_place}
use Rattle.tally.specs.inside.Votes.{voted}
use Rattle.tally.specs.inside.Reports.{slot_vote, reports_by, above_of, with_vote, with_report, Filled}

-- ---- one vote

module _ (t : List ℕ) (at : ℕ) (x : Slot.Report) where
  -- What is in no column of the vote stays.
  vote_other : (q : ℕ) → ((d : ℕ) → q ≢ at + column * d) → get_or (with_vote t at x) q 0 ≡ get_or t q 0
  vote_other q off =
      get_or-set_other (set t at (above_of x)) (at + column) q x.plan 0 (λ (e : q ≡ at + column). off 1 (omega arith))
      ∙ get_or-set_other t at q (above_of x) 0 (λ (e : q ≡ at). off 0 (omega arith))

  -- A vote put leaves the table's length.
  pub vote_length : length (with_vote t at x) ≡ length t
  vote_length = length-set (set t at (above_of x)) (at + column) x.plan ∙ length-set t at (above_of x)

  module _ (room : at + column < length t) where
    -- In its first column stands the view + 1.
    above_there : get_or (with_vote t at x) at 0 ≡ above_of x
    above_there =
        get_or-set_other (set t at (above_of x)) (at + column) at x.plan 0 (λ (e : at ≡ at + column). omega arith)
        ∙ get_or-set_same t at (above_of x) 0 (omega arith)

    -- In its second column stands the plan.
    vote_plan : get_or (with_vote t at x) (at + column) 0 ≡ x.plan
    vote_plan = get_or-set_same (set t at (above_of x)) (at + column) x.plan 0 (rw length-set room)

-- ---- one sender

-- Four stores, one after the other.
pub put_all : (t t₁ t₂ t₃ : List ℕ) (i : ℕ) (h p l : Slot.Report)
    → t₁ ≡ with_vote (set t i 1) (column + i) h → t₂ ≡ with_vote t₁ (3 * column + i) p → t₃ ≡ with_vote t₂ (5 * column + i) l → t₃ ≡ with_report t i h p l
put_all t t₁ t₂ t₃ i h p l e₁ e₂ e₃ =
    e₃ ∙ ap (λ (x : List ℕ). with_vote x (5 * column + i) l) (e₂ ∙ ap (λ (x : List ℕ). with_vote x (3 * column + i) p) e₁)

module _ (t : List ℕ) (i : ℕ) (h p l : Slot.Report) (row : i < column) (size : length t ≡ table_size) where
  -- The table with the sender marked as a reporter.
  abbrev with₀ : List ℕ
  with₀ = set t i 1

  -- Its highest vote is put too.
  abbrev with₁ : List ℕ
  with₁ = with_vote with₀ (column + i) h

  -- Then its previous vote.
  abbrev with₂ : List ℕ
  with₂ = with_vote with₁ (3 * column + i) p

  -- Then its lock: the whole report is put.
  abbrev with₃ : List ℕ
  with₃ = with_vote with₂ (5 * column + i) l

  -- Each of the four stores leaves the table's length, so the next one has room.
  size₀ : length with₀ ≡ table_size
  size₀ = length-set t i 1 ∙ size

  -- With the highest vote put.
  size₁ : length with₁ ≡ table_size
  size₁ = vote_length with₀ (column + i) h ∙ size₀

  -- With the previous vote put.
  size₂ : length with₂ ≡ table_size
  size₂ = vote_length with₁ (3 * column + i) p ∙ size₁

  -- With the whole report put.
  pub report_length : length (with_report t i h p l) ≡ table_size
  report_length = vote_length with₂ (5 * column + i) l ∙ size₂

  -- The row of another sender stays.
  row_other : (c j : ℕ) → j < column → j ≢ i → get_or with₃ (column * c + j) 0 ≡ get_or t (column * c + j) 0
  row_other c j low off =
      vote_other with₂ (5 * column + i) l (column * c + j) (λ d (e : column * c + j ≡ 5 * column + i + column * d). off (omega arith))
      ∙ vote_other with₁ (3 * column + i) p (column * c + j) (λ d (e : column * c + j ≡ 3 * column + i + column * d). off (omega arith))
      ∙ vote_other with₀ (column + i) h (column * c + j) (λ d (e : column * c + j ≡ column + i + column * d). off (omega arith))
      ∙ get_or-set_other t i (column * c + j) 1 0 (λ (e : column * c + j ≡ i). off (omega arith))

  -- Column c and the next of the own row, where they are those of a vote that was put.
  module _ (s : List ℕ) (c : ℕ) (x : Slot.Report) (room : column * c + i + column < length s) where
    -- Then the two columns are read as that vote.
    own_vote : (u : List ℕ) → get_or u (column * c + i) 0 ≡ get_or (with_vote s (column * c + i) x) (column * c + i) 0
        → get_or u (column * c + i + column) 0 ≡ get_or (with_vote s (column * c + i) x) (column * c + i + column) 0 → vote_in u c i ≡ slot_vote x
    own_vote u above plan =
        let next : column * (c + 1) + i ≡ column * c + i + column = omega arith in
        let a : get_or u (column * c + i) 0 ≡ above_of x = above ∙ above_there s (column * c + i) x room in
        let b : get_or u (column * (c + 1) + i) 0 ≡ x.plan = ap (λ (q : ℕ). get_or u q 0) next ∙ plan ∙ vote_plan s (column * c + i) x room in
        λ k. vote_above (a k) (b k)

  -- The own row has the lock that was put last.
  own_lock : vote_in with₃ 5 i ≡ slot_vote l
  own_lock = own_vote with₂ 5 l (omega (arith, size₂)) with₃ refl refl

  -- A place before the lock's columns, and one before the previous vote's.
  early : (q : ℕ) → q < 5 * column + i → get_or with₃ q 0 ≡ get_or with₂ q 0
  early q less = vote_other with₂ (5 * column + i) l q (λ d (e : q ≡ 5 * column + i + column * d). omega arith)

  -- What stands before the previous vote's columns is as the highest vote left it.
  earlier : (q : ℕ) → q < 3 * column + i → get_or with₃ q 0 ≡ get_or with₁ q 0
  earlier q less = early q (omega arith) ∙ vote_other with₁ (3 * column + i) p q (λ d (e : q ≡ 3 * column + i + column * d). omega arith)

  -- The own row has the previous vote.
  own_previous : vote_in with₃ 3 i ≡ slot_vote p
  own_previous = own_vote with₁ 3 p (omega (arith, size₁)) with₃ (early (column * 3 + i) (omega arith)) (early (column * 3 + i + column) (omega arith))

  -- And the highest vote.
  own_highest : vote_in with₃ 1 i ≡ slot_vote h
  own_highest = own_vote with₀ 1 h (omega (arith, size₀)) with₃ (earlier (column * 1 + i) (omega arith)) (earlier (column * 1 + i + column) (omega arith))

  -- And the mark of a reporter.
  own_mark : get_or with₃ i 0 ≡ 1
  own_mark =
      earlier i (omega arith)
      ∙ vote_other with₀ (column + i) h i (λ d (e : i ≡ column + i + column * d). omega arith)
      ∙ get_or-set_same t i 1 0 (omega arith)

  -- The three votes that a sender reports.
  abbrev pub told : Report
  told = record { highest = slot_vote h; previous = slot_vote p; lock = slot_vote l }

  -- So the sender's row is read as what it reports.
  pub report_own : reports_in_table (with_report t i h p l) i ≡ some told
  unfolding reports_in_table reporter
  report_own =
      let here : (ltb i column && not (eqb (get_or with₃ i 0) 0)) ≡ true = rw (lt-ltb i column row, own_mark) in
      rw here (λ k. some (record { highest = own_highest k; previous = own_previous k; lock = own_lock k }))

  -- The mark of another sender stays.
  pub mark_other : (j : ℕ) → j < column → j ≢ i → get_or (with_report t i h p l) j 0 ≡ get_or t j 0
  mark_other j low off = let first : column * 0 + j ≡ j = omega arith in rw first at (row_other 0 j low off)

  -- So what another sender reports stays.
  pub report_other : (j : ℕ) → j < column → j ≢ i → reports_in_table (with_report t i h p l) j ≡ reports_in_table t j
  unfolding reports_in_table reporter
  report_other j low off =
      let mark = mark_other j low off in
      let col : (c : ℕ) → vote_in with₃ c j ≡ vote_in t c j = λ c. (λ k. vote_above (row_other c j low off k) (row_other (c + 1) j low off k)) in
      λ k. cond (ltb j column && not (eqb (mark k) 0)) (some (record { highest = col 1 k; previous = col 3 k; lock = col 5 k })) none

-- ---- sender by sender

-- A sender whose mark is 0 has not reported.
unvote_by : (t : List ℕ) (j : ℕ) → get_or t j 0 ≡ 0 → reports_in_table t j ≡ none
unfolding reports_in_table reporter
unvote_by t j off = rw off (go (ltb j column))
  where
    row : Report
    row = record { highest = vote_in t 1 j; previous = vote_in t 3 j; lock = vote_in t 5 j }

    go : (b : Bool) → cond (b && false) (some row) none ≡ none
    go true = refl
    go false = refl

-- A sender without a row.
rowless : (t : List ℕ) (j : ℕ) → column ≤ j → reports_in_table t j ≡ none
unfolding reports_in_table reporter
rowless t j over = rw (le-ltb j column over)

module _ (reports : Reports) where
  -- A table of zeros holds no report: where the loop starts.
  pub filled_none : Filled reports 0 (replicate {A = ℕ} table_size 0)
  filled_none = record {
    size = length-replicate {A = ℕ} table_size 0;
    done = λ j low. absurd (omega arith);
    rest = λ j least low. get_or-replicate {A = ℕ} table_size j 0 0 (omega arith);
  }

  module _ (k : ℕ) (t : List ℕ) (was : Filled reports k t) (row : k < column) where
    -- A sender that reports nothing leaves the table as it is.
    pub filled_skip : reports k ≡ none → Filled reports (k + 1) t
    filled_skip off = record {
      size = was.size;
      done = λ j low. by j low (ℕ_discrete j k);
      rest = λ j least low. was.rest j (omega arith) low;
    }
      where
        by : (j : ℕ) → j < k + 1 → Dec (j ≡ k) → reports_in_table t j ≡ reports j
        by j low (yes e) = ap (reports_in_table t) e ∙ unvote_by t k (was.rest k (omega arith) row) ∙ sym off ∙ ap reports (sym e)
        by j low (no e) = was.done j (omega arith)

    -- A sender that reports has its report put into its row.
    pub filled_more : (h p l : Slot.Report) → reports k ≡ some (told t k h p l row was.size) → Filled reports (k + 1) (with_report t k h p l)
    filled_more h p l on = record {
      size = report_length t k h p l row was.size;
      done = λ j low. by j low (ℕ_discrete j k);
      rest = λ j least low. mark_other t k h p l row was.size j low (λ (e : j ≡ k). omega arith) ∙ was.rest j (omega arith) low;
    }
      where
        by : (j : ℕ) → j < k + 1 → Dec (j ≡ k) → reports_in_table (with_report t k h p l) j ≡ reports j
        by j low (yes e) = ap (reports_in_table (with_report t k h p l)) e ∙ report_own t k h p l row was.size ∙ sym on ∙ ap reports (sym e)
        by j low (no e) = report_other t k h p l row was.size j (omega arith) e ∙ was.done j (omega arith)

-- The same for reports that are the same below k.
pub filled_same : (a b : Reports) (k : ℕ) (t : List ℕ) → ((j : ℕ) → j < k → a j ≡ b j) → Filled a k t → Filled b k t
filled_same a b k t same f = record { size = f.size; done = λ j low. f.done j low ∙ same j low; rest = f.rest }

-- The table is that of all reports, where no sender from k on reports.
pub filled_all : (reports : Reports) (k : ℕ) (t : List ℕ) → k ≤ column → Filled reports k t → ((j : ℕ) → k ≤ j → reports j ≡ none) → reports_in_table t ≡ reports
filled_all reports k t most f none-else = fun_ext (λ j. by j (dec_lt j k) (dec_lt j column))
  where
    by : (j : ℕ) → Dec (j < k) → Dec (j < column) → reports_in_table t j ≡ reports j
    by j (yes low) d = f.done j low
    by j (no high) (yes row) = unvote_by t j (f.rest j (omega arith) row) ∙ sym (none-else j (omega arith))
    by j (no high) (no over) = rowless t j (omega arith) ∙ sym (none-else j (omega arith))

-- ---- a sender's slots in the block

module _ (block : List ℕ) (kind v i at from : ℕ) (told : Bool)
    (frame : at ≡ block_place (frame_slot kind i)) (first : from ≡ block_place (report_slot kind 0 i)) (is : told ≡ not (is_none (voted v (slot_in block at)))) where
  -- The sender's frame is kept and of view v just where the code was told so.
  test_is : (present (slot_in block (block_place (frame_slot kind i))) && eqb (slot_in block (block_place (frame_slot kind i))).view v) ≡ told
  unfolding voted
  test_is =
      ap (λ (q : ℕ). present (slot_in block q) && eqb (slot_in block q).view v) (sym frame)
      ∙ go (present (slot_in block at) && eqb (slot_in block at).view v) ∙ sym is
    where
      go : (b : Bool) → b ≡ not (is_none (cond b (some (slot_in block at).plan) none))
      go true = refl
      go false = refl

  -- It is not: the sender reports nothing.
  pub untold : told ≡ false → reports_by block kind v i ≡ none
  unfolding reports_by
  untold off = rw (test_is, off)

  -- It is: the sender reports the three votes that stand 64 slots apart.
  pub told_there : told ≡ true → reports_by block kind v i ≡ some (record {
    highest = slot_vote (slot_in block from);
    previous = slot_vote (slot_in block (from + slot_size * rows));
    lock = slot_vote (slot_in block (from + slot_size * (2 * rows)));
  })
  unfolding reports_by
  told_there on =
      let second : block_place (report_slot kind 1 i) ≡ from + slot_size * rows = omega arith in
      let third : block_place (report_slot kind 2 i) ≡ from + slot_size * (2 * rows) = omega arith in
      rw (test_is, on) (λ k. some (record {
        highest = slot_vote (slot_in block (sym first k));
        previous = slot_vote (slot_in block (second k));
        lock = slot_vote (slot_in block (third k));
      }))
