-- What the search for safe plans tells (document 01, 'When a plan is safe'): by the table of the reports kept it tells what is safe by
-- the record's contents. In view 0 every plan is safe, whatever the reports.
-- Assumes nothing.
use Prim.Native.Nat.{ℕ, ◌≤◌}
use mathlib.Core.Path.{◌≡◌, refl, sym, ◌∙◌, ap, subst}
use mathlib.Core.Logic.{◌≢◌}
use mathlib.Core.Bool.{Bool, true, false, cond}
use mathlib.Core.List.{List}
use mathlib.Core.Option.{none, some}
use lib.Dec.{eqb}
use borrow.Author.Tests.{eq-eqb, ne_eqb}
use Rattle.rules.specs.Sets.{Vaults}
use Rattle.rules.specs.Rules.{Reports, Rule, rule3}
use Rattle.rules.specs.inside.Counts.{safe, choice}
use Rattle.claims.specs.Table.{reports_in_table}
use Rattle.settings.specs.Vaults.{vaults_of}
use Rattle.record.specs.Slots as slots
use Rattle.record.specs.Layout.{decode_record}
use Rattle.protocol.specs.Record.{Record}
use Rattle.contents.specs.Contents.{contents, contents_in}
use Rattle.tally.specs.inside.Parts.{block_part}
use Rattle.tally.specs.inside.Reports.{reports_by, Filled}
use Rattle.acts.specs.inside.Lent.{Reads}
use Rattle.acts.specs.inside.Proposals.{proposal_of, approved_by, reports_now, safe_plan}
use Rattle.acts.proofs.Kept.{table_is}

-- In view 0 every plan is safe, whatever the reports.
safe_first : (rule : Rule) (vs : Vaults) (rs : Reports) (v p : ℕ) → v ≡ 0 → safe rule vs rs v p ≡ true
unfolding safe
safe_first rule vs rs v p e = subst (λ (w : ℕ). safe rule vs rs w p ≡ true) (sym e) refl

-- So the first plan tried is the choice there.
choice_first : (vs : Vaults) (rs : Reports) (v p : ℕ) → v ≡ 0 → choice vs rs v p ≡ some p
unfolding choice safe
choice_first vs rs v p e = subst (λ (w : ℕ). choice vs rs w p ≡ some p) (sym e) refl

module _ (s : List ℕ) (r : slots.Record) (reads : Reads s r) (kind p : ℕ) where
  -- What is safe by a record is safe by the bytes that spell it.
  spells : safe_plan (contents r) kind p ≡ safe_plan (contents_in s) kind p
  spells = ap (λ (c : Record). safe_plan c kind p) reads.spelt

  -- In view 0, p is safe.
  pub planned_first : r.view ≡ 0 → some p ≡ safe_plan (contents_in s) kind p
  unfolding contents safe_plan
  planned_first e = go ∙ spells
    where
      both : (b : Bool) → some p ≡ cond b (some p) (some p)
      both true = refl
      both false = refl

      go : some p ≡ safe_plan (contents r) kind p
      go =
          rw (choice_first (vaults_of r.set) (reports_now (contents r) kind) r.view p e)
          (rw (safe_first rule3 (vaults_of r.set) (reports_now (contents r) kind) r.view p e) (both (eqb kind 7)))

  module _ (low : 7 ≤ kind) (high : kind ≤ 8) (t : List ℕ) (table : Filled (reports_by (block_part s) kind r.view) r.set.n t) where
    -- By suggests, it is what the search chooses.
    pub planned_one : kind ≡ 7 → choice (vaults_of r.set) (reports_in_table t) r.view p ≡ safe_plan (contents_in s) kind p
    unfolding contents safe_plan
    planned_one e = go ∙ spells
      where
        go : choice (vaults_of r.set) (reports_in_table t) r.view p ≡ safe_plan (contents r) kind p
        go = rw (eq-eqb kind 7 e) (ap (λ (rs : Reports). choice (vaults_of r.set) rs r.view p) (table_is s r reads kind low high t table))

    -- By proofs, it is p where the search says so.
    pub planned_three : kind ≢ 7 → (b : Bool) → b ≡ safe rule3 (vaults_of r.set) (reports_in_table t) r.view p
        → cond b (some p) none ≡ safe_plan (contents_in s) kind p
    unfolding contents safe_plan
    planned_three off b is = go ∙ spells
      where
        told : b ≡ safe rule3 (vaults_of r.set) (reports_now (contents r) kind) r.view p
        told = is ∙ ap (λ (rs : Reports). safe rule3 (vaults_of r.set) rs r.view p) (table_is s r reads kind low high t table)

        go : cond b (some p) none ≡ safe_plan (contents r) kind p
        go = rw (ne_eqb kind 7 off) (ap (λ (x : Bool). cond x (some p) none) told)

-- By suggests, with the starting plan as p, it is C's plan.
pub plan_one : (s : List ℕ) (start : ℕ) → start ≡ (decode_record s).plan → safe_plan (contents_in s) 7 start ≡ proposal_of (contents_in s)
unfolding contents safe_plan
plan_one s start e = ap (choice (vaults_of (decode_record s).set) (reports_now (contents_in s) 7) (decode_record s).view) e

-- By proofs it is the plan that D asks for, where that is safe.
pub plan_three : (c : Record) (p : ℕ) → safe_plan c 8 p ≡ cond (approved_by c p) (some p) none
unfolding safe_plan
plan_three c p = refl
