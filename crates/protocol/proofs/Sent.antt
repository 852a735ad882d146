-- In a run whose starts bring 64-bit plans, what a rule-keeper wrote for a vault is its own, and that vault's reader accepts it
-- (document 01, 'the bytes are a frame that an accepted call at that sender, earlier in the list, wrote in an entry for all or for
-- this vault'). By induction over the list: each accepted call writes only what passes at whom it is for (`call_right`), with the
-- run's n and the vault's own number. So a run can go on with any such frame.
-- Assumes nothing.
use Prim.Native.Nat.{ℕ}
use mathlib.Core.Path.{◌≡◌, sym, ◌∙◌, ap, subst}
use mathlib.Core.Logic.{◌≢◌}
use mathlib.Core.List.{List, ◌∷◌, ◌++◌}
use mathlib.Core.Option.{Option, some}
use Rattle.rules.specs.Sets.{Vaults}
use Rattle.frame.specs.declared.Frame.{Frame}
use Rattle.entry.specs.declared.Entry.{Entry}
use Rattle.protocol.specs.Record.{Record}
use Rattle.protocol.specs.Pass.{Out}
use Rattle.protocol.specs.Calls.{Call, accepted, answer}
use Rattle.protocol.specs.Fed.{Readable}
use Rattle.protocol.specs.inside.Runs.{ContentsSetting, Event, made, ContentsItem, record_at, written, Comes, ContentsRun, nothing_yet, and_then}
use Rattle.protocol.specs.ReadsBack.{IsFor}
use Rattle.protocol.proofs.Tables.{put_same}
use Rattle.protocol.proofs.Past.{Past}
use Rattle.protocol.proofs.Good.{any_seed}
use Rattle.protocol.proofs.Items.{item, record_accepted, past_accepted, Happens, went, stays, happens, put_each}
use Rattle.protocol.proofs.Demand.{Inv, invariant}
use Rattle.protocol.proofs.ReadsBack.{Goes, AllRight, right_join, goes_for, goes_readable, call_right}
use Rattle.protocol.proofs.Lasting.{Carries, Wide, Lasting, feeds, run_lasts}

module _ (c : ContentsSetting) where
  -- The number of vaults in the run.
  abbrev n : ℕ
  n = c.vaults.n

  -- After one more accepted call, all that was ever written still passes at whom it is for.
  right_more : (l : List ContentsItem) (i : ℕ) (a : Call) (o : Out) → answer (record_at l i) a ≡ accepted o → AllRight n i o.wrote
      → ((j : ℕ) → AllRight n j (written l j)) → (j : ℕ) → AllRight n j (written (item l i (made a) ∷ l) j)
  right_more l i a o is new old j =
      subst (λ (h : Past). AllRight n j (h.wrote j)) (sym (past_accepted l i a o is))
      (put_each (AllRight n) i (written l i ++ o.wrote) (written l) (right_join n i (written l i) o.wrote (old i) new) (λ j other. old j) j)

  -- All that is written in a run passes at whom it is for.
  pub run_right : {l : List ContentsItem} → ContentsRun c l → Wide l → (j : ℕ) → AllRight n j (written l j)
  unfolding written
  run_right nothing_yet wide = λ j. tt
  run_right (and_then {l = l} {x = x} run keeps comes) (brings, wide) =
      go (run_right run wide) (run_lasts c run wide) x.event comes brings (happens l i c x.event comes)
      (invariant c (λ p. Unit {0}) (any_seed c) (and_then run keeps comes) (λ p s. tt))
    where
      i : ℕ
      i = x.at

      before : Inv c (λ p. Unit {0}) l
      before = invariant c (λ p. Unit {0}) (any_seed c) run (λ p s. tt)

      go : ((j : ℕ) → AllRight n j (written l j)) → Lasting l → (y : Event) → Comes c l i y → Carries y → Happens l i y
          → Inv c (λ p. Unit {0}) (item l i y ∷ l)
          → (j : ℕ) → AllRight n j (written (item l i y ∷ l) j)
      go old last y comes brings (stays b s again) after j = subst (λ (t : ℕ → List Entry). AllRight n j (t j)) (sym s.entries) (old j)
      go old last y comes brings (went a o is) after j =
          let left : record_at (item l i (made a) ∷ l) i ≡ some o.left =
          ap (λ (t : ℕ → Option Record). t i) (record_accepted l i a o is) ∙ put_same i (some o.left) (record_at l) in
          let (id, third, good) = after.good i o.left left in
          let own = call_right (record_at l i) a (last.records i) (feeds c before i a brings comes) o is in
          right_more l i a o is (subst (λ (k : ℕ). AllRight n k o.wrote) id
          (subst (λ (m : ℕ). AllRight m o.left.set.id o.wrote) (ap (λ (vs : Vaults). vs.n) good.vaults) own)) old j

  -- What vault j wrote for vault i is from vault j, and vault i's reader accepts it.
  pub run_readable : {l : List ContentsItem} → ContentsRun c l → Wide l → (i j : ℕ) (x : Frame) → i ≢ j → IsFor i x (written l j)
      → (x.sender ≡ j) × Readable n i x
  run_readable {l} run wide i j x other for =
      let g : Goes n j i x = goes_for n j (written l j) (run_right run wide j) i x for in
      (g.sender, goes_readable n j i x g other)
