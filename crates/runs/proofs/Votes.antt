-- A vault that keeps the rules votes once of a kind in a view (document 01, 'every frame going out once'), so two records of such vaults keep one plan of it.
-- What a record keeps of a rule-keeper was written by that vault before (`plan_written`: the records of a run are good, crate protocol), what was
-- written stays written (`written_stays`), and nobody wrote two (`once_at`). The two records may be of different moments: both come before the list's end.
-- Assumes nothing.
use Prim.Native.Nat.{ℕ, zero, suc, ◌≤◌, ◌<◌}
use mathlib.Core.Path.{◌≡◌, refl, sym, ◌∙◌, ap, subst}
use mathlib.Core.Bool.{Bool, true, false, cond, ◌&&◌}
use mathlib.Core.List.Memᴰ
use mathlib.Core.List.{List, [], ◌∷◌, ◌++◌}
use mathlib.Core.Option.{Option, none, some}
use native.Mathlib.Omega.{arith}
use lib.Dec.{ltb, eqb}
use borrow.Author.Tests.{eqb-true, lt-ltb}
use Rattle.rules.proofs.Bools.{both_join}
use Rattle.frame.specs.declared.Body.TheVariants.{Plan}
use Rattle.frame.specs.Format.{within}
use Rattle.frame.proofs.Laws.{inside}
use Rattle.entry.specs.declared.Entry.{Entry}
use Rattle.entry.specs.declared.Entry.TheVariants.{ForAll}
use Rattle.record.specs.Slots.{rows, kinds}
use Rattle.record.specs.Layout.{decode_record}
use Rattle.record.specs.Kept.{kept_frame}
use Rattle.protocol.specs.Record.{Record, when}
use Rattle.protocol.specs.Tables.{◌∈◌}
use Rattle.protocol.specs.inside.Runs as model
use Rattle.protocol.proofs.Good.{any_seed}
use Rattle.protocol.proofs.Demand.{Inv, invariant, once_at}
use Rattle.contents.specs.Contents.{kept_of, contents}
use Rattle.contents.specs.Spelling.{Spells, HoldsContents}
use Rattle.runs.specs.Runs.{Rules, Item, entries_after, Setting, record_at, written, Run, and_then}
use Rattle.runs.specs.Five.{Fixed}
use Rattle.runs.specs.Votes.{Had, KeepsPlan, OnePlanKept}
use Rattle.runs.proofs.Demand.{Follows, plain, Carried, carry}

-- ---- moments

-- A run up to some moment is a run.
run_before : (c : Setting) (keeps_rules : Rules) (later earlier : List Item) → Run c keeps_rules (later ++ earlier) → Run c keeps_rules earlier
run_before c keeps_rules [] earlier run = run
run_before c keeps_rules (x ∷ later) earlier (and_then run keeps ruled) = run_before c keeps_rules later earlier run

-- What was written stays written.
written_stays : (later earlier : List Item) (s : ℕ) (e : Entry) → e ∈ written earlier s → e ∈ written (later ++ earlier) s
unfolding written
written_stays [] earlier s e at = at
written_stays (x ∷ later) earlier s e at = go (eqb x.at s) refl (written_stays later earlier s e at)
  where
    l : List Item
    l = later ++ earlier

    go : (b : Bool) → eqb x.at s ≡ b → e ∈ written l s → e ∈ cond b (written l x.at ++ entries_after x.event) (written l s)
    go true is was = Memᴰ.append_left (entries_after x.event) (subst (λ (j : ℕ). e ∈ written l j) (sym (eqb-true x.at s is)) was)
    go false is was = was

-- ---- what is kept

-- The broadcast of vote-k for p in view v, by s; for k = 0 the proposal.
abbrev broadcast : ℕ → ℕ → ℕ → ℕ → Entry
broadcast k s v p = ForAll (record { kind = suc k; sender = s; view = v; body = Plan p })

-- What bytes keep is what the contents keep that they hold.
kept_held : (rec : List ℕ) (r : Record) (k s : ℕ) → 1 ≤ k → k ≤ kinds → s < rows → HoldsContents rec r → r.kept k s ≡ kept_frame (decode_record rec) k s
unfolding contents kept_of
kept_held rec r k s low high row h =
    let there : (within 1 kinds k && ltb s rows) ≡ true = both_join (within 1 kinds k) (ltb s rows) (inside 1 kinds k low high) (lt-ltb s rows row) in
    ap (λ (z : Record). z.kept k s) (sym h.holds) ∙ ap (λ (b : Bool). when b (kept_frame (decode_record rec) k s)) there

-- All records of the run by contents are good for its past.
good_records : (c : Setting) {l : List Item} (v : Carried c l) → Inv (plain c) (λ p. Unit {0}) v.items
good_records c v = invariant (plain c) (λ p. Unit {0}) (any_seed (plain c)) v.run (λ p s. tt)

module _ (c : Setting) {keeps_rules : Rules} (law : Follows keeps_rules) where
  -- A plan that a record keeps of a rule-keeper was written by it.
  plan_written : {l : List Item} → Run c keeps_rules l → (i k s v p : ℕ) → c.keeps i ≡ true → k < 5 → s < rows → c.keeps s ≡ true
      → KeepsPlan (record_at c l i) (suc k) s v p → broadcast k s v p ∈ written l s
  plan_written {l} run i k s v p rules low row keeps (sound, kept) = go (model.record_at w.items i) refl ((w.same i).held rules)
    where
      w : Carried c l
      w = carry c law run

      go : (b : Option Record) → model.record_at w.items i ≡ b → Spells (record_at c l i) b → broadcast k s v p ∈ written l s
      go none is h = let z : ◌≡◌ {A = ℕ} 0 1 = cc in absurd (omega arith)
      go (some r) is h =
          let (id, third, good) = (good_records c w).good i r is in
          let (kind, fine) = good.kept (suc k) s _ (kept_held (record_at c l i) r (suc k) s (omega arith) (omega arith) row h ∙ kept) keeps in
          subst (λ (es : List Entry). broadcast k s v p ∈ es) (sym (w.same s).agree) (fine.vote k p refl refl)

  -- The same of a record of any moment, by the list's end.
  had_written : {l : List Item} → Run c keeps_rules l → (rec : List ℕ) → Had c l rec → (k s v p : ℕ) → k < 5 → s < rows → c.keeps s ≡ true
      → KeepsPlan rec (suc k) s v p → broadcast k s v p ∈ written l s
  had_written run rec h k s v p low row keeps kept =
      let before : Run c keeps_rules h.earlier =
      run_before c keeps_rules h.later h.earlier (subst (λ (l : List Item). Run c keeps_rules l) h.moment run) in
      let then = plan_written before h.at k s v p h.keeps low row keeps (subst (λ (b : List ℕ). KeepsPlan b (suc k) s v p) (sym h.had) kept) in
      subst (λ (l : List Item). broadcast k s v p ∈ written l s) (sym h.moment) (written_stays h.later h.earlier s (broadcast k s v p) then)

-- ---- one plan

-- So it is of all calls that leave no more than the paper lets them.
pub one_plan_by : {keeps_rules : Rules} → Follows keeps_rules → OnePlanKept keeps_rules
one_plan_by law c l run a b ha hb zero s v p q low high row keeps x y = absurd (omega arith)
one_plan_by law c l run a b ha hb (suc k) s v p q low high row keeps x y =
    let w : Carried c l = carry c law run in
    let one = had_written c law run a ha k s v p (omega arith) row keeps x in
    let other = had_written c law run b hb k s v q (omega arith) row keeps y in
    once_at (plain c) (λ p. Unit {0}) (good_records c w) s k v p q
    (subst (λ (es : List Entry). broadcast k s v p ∈ es) (w.same s).agree one)
    (subst (λ (es : List Entry). broadcast k s v q ∈ es) (w.same s).agree other)

-- Of the calls that the paper fixes.
pub one_plan_fixed : OnePlanKept Fixed
one_plan_fixed = one_plan_by (λ rec a out left e. e)
